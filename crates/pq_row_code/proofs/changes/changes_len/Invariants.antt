use Rattle.std.proofs.Common.{◌≡◌, ◌+◌, drop, length}
use Rattle.std.specs.List.{flat_map}
use Rattle.pq_row_code.specs.Changes.{change_code, changes_code}
use Rattle.pq_row_code.proofs.changes.changes_len.Given as goal

abbrev pub invariant-loop-change : goal.invariant-loop-change
invariant-loop-change l =
    l.len + length (flat_map change_code (drop l.change-index l.changes)) ≡ length (changes_code l.changes)
