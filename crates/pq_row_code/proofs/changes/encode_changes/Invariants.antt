use Rattle.std.proofs.Common.{◌≡◌, ◌++◌, take, length}
use Rattle.std.specs.Int.{w16, to_be_bytes}
use Rattle.std.specs.List.{flat_map}
use Rattle.pq_row_code.specs.Changes.{change_code}
use Rattle.pq_row_code.proofs.changes.encode_changes.Given as goal

abbrev pub invariant-loop-change : goal.invariant-loop-change
invariant-loop-change l = l.code ≡ to_be_bytes w16 (length l.changes) ++ flat_map change_code (take l.change-index l.changes)
