use Rattle.std.proofs.Common.{◌≡◌, take}
use Rattle.pq_pending.specs.Gets.{joined_values}
use Rattle.pq_pending.proofs.gets.joined_values.Given as goal

abbrev pub invariant-loop-i : goal.invariant-loop-i
invariant-loop-i l = l.values ≡ joined_values l.pending.changes (take l.i l.keys) (take l.i l.stored)
