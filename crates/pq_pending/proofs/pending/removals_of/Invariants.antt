use Rattle.std.proofs.Common.{◌≡◌, ◌≤◌, map, take}
use Rattle.std.specs.List.{count_by}
use Rattle.pq_content.specs.Standing.{change_of}
use Rattle.pq_pending.specs.Pending.{is_removal_within}
use Rattle.pq_pending.proofs.pending.removals_of.Given as goal

abbrev pub invariant-loop-change : goal.invariant-loop-change
invariant-loop-change l = record {
  count : l.count ≡ count_by (is_removal_within l.low l.high) (map change_of (take l.change-index l.changes));
  few : l.count ≤ l.change-index;
}
