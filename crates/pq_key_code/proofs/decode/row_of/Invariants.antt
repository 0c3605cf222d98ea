use Rattle.std.proofs.Common.{◌≡◌, drop}
use Rattle.pq_key_code.specs.KeyReading.{row_key_at}
use Rattle.pq_key_code.proofs.Loop.{rows_behind}
use Rattle.pq_key_code.proofs.decode.row_of.Given as goal

abbrev pub invariant-loop-i : goal.invariant-loop-i
invariant-loop-i l = rows_behind l.row (row_key_at (drop l.i l.types) (drop l.i l.dirs) l.rest) ≡ row_key_at l.types l.dirs l.bytes
