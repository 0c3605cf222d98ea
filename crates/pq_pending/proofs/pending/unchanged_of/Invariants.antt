use Rattle.std.proofs.Common.{◌≡◌, ◌≤◌, map, take}
use Rattle.std.specs.List.{count_by}
use Rattle.pq_content.specs.Standing.{change_of}
use Rattle.pq_store.specs.Content.{entry}
use Rattle.pq_pending.specs.Pending.{is_unchanged}
use Rattle.pq_pending.proofs.pending.unchanged_of.Given as goal

abbrev pub invariant-loop-pair : goal.invariant-loop-pair
invariant-loop-pair l = record {
  count : l.count ≡ count_by (is_unchanged (map change_of l.changes)) (map entry (take l.pair-index l.pairs));
  few : l.count ≤ l.pair-index;
}
