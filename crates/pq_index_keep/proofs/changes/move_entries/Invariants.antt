use Rattle.std.proofs.Common.{◌≡◌, ◌++◌, take, map}
use Rattle.pq_content.specs.Pairs.{entry_changes}
use Rattle.pq_content.specs.Standing.{change_of}
use Rattle.pq_index_keep.proofs.changes.move_entries.Given as goal

abbrev pub invariant-loop-i : goal.invariant-loop-i
invariant-loop-i l = map change_of l.changes ≡ map change_of l.initial.changes ++ entry_changes l.number 1 l.table (take l.i l.indexes) l.old l.new
