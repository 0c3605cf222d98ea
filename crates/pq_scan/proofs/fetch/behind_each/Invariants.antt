use Rattle.std.proofs.Common.{◌≡◌, ◌+◌, ◌++◌, drop, length}
use Rattle.std.specs.Vec.Iter.{into_iter_items}
use Rattle.pq_scan.specs.Candidates.{rows_behind}
use Rattle.pq_scan.proofs.fetch.behind_each.Given as goal

abbrev pub invariant-loop-row : goal.invariant-loop-row
invariant-loop-row l = record {
  left : l.at + length (into_iter_items l.row-iterator) ≡ length l.places;
  found : l.found ++ rows_behind l.inputs (drop l.at l.places) (into_iter_items l.row-iterator) ≡ rows_behind l.inputs l.places l.fn.rows;
}
