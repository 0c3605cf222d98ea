use Rattle.std.proofs.Common.{◌≡◌, ◌++◌, drop}
use Rattle.pq_content.specs.Tables.{value_of}
use Rattle.pq_row_keys.specs.Coded.{sequence_code}
use Rattle.pq_row_keys.proofs.keys.put_parts.Given as goal

abbrev pub invariant-loop-part : goal.invariant-loop-part
invariant-loop-part l = l.out ++ sequence_code (value_of l.row) (drop l.part-index l.parts) ≡ l.fn.out ++ sequence_code (value_of l.row) l.parts
