use Rattle.std.proofs.Common.{◌≡◌, ◌++◌, take, length}
use Rattle.pq_row_code.specs.RowCode.{fields, null_marks, row_front}
use Rattle.pq_row_code.proofs.encode.code_of.Given as goal

abbrev pub invariant-loop-value : goal.invariant-loop-value
invariant-loop-value l = l.code ≡ row_front (length l.values) (null_marks l.values) ++ fields (take l.value-index l.values)
