use Rattle.std.proofs.Common.{take}
use Rattle.pq_row_code.specs.StoredRow.{AreFillers}
use Rattle.pq_row_code.proofs.stored_row.known_fillers.Given as goal

abbrev pub invariant-loop-filler : goal.invariant-loop-filler
invariant-loop-filler l = AreFillers (take l.filler-index l.fillers)
