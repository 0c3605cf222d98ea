use Rattle.std.proofs.Common.{◌≡◌, drop}
use Rattle.pq_row_code.specs.RowReading.{fields_at}
use Rattle.pq_key_code.proofs.Loop.{rows_behind}
use Rattle.pq_row_code.proofs.decode.plain_fields_of.Given as goal

abbrev pub invariant-loop-ty : goal.invariant-loop-ty
invariant-loop-ty l = rows_behind l.row (fields_at (drop l.ty-index l.types) 0 l.rest) ≡ fields_at l.types 0 l.bytes
