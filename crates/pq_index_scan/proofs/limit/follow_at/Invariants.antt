use Rattle.std.proofs.Common.{◌≡◌, ◌++◌, length}
use Rattle.std.specs.Vec.Iter.{into_iter_items}
use Rattle.pq_index_scan.specs.Ranged.{followed_at}
use Rattle.pq_index_scan.proofs.limit.follow_at.Given as goal

abbrev pub invariant-loop-row : goal.invariant-loop-row
invariant-loop-row l = record {
  whole : l.yielded ++ into_iter_items l.row-iterator ≡ l.fn.rows;
  at : l.at ≡ length l.yielded;
  found : l.found ≡ followed_at l.inputs l.places l.yielded;
}
