use Rattle.std.proofs.Common.{◌≡◌, ◌++◌, [], drop}
use Rattle.pq_schema.specs.Sequences.{then_key}
use Rattle.pq_content.specs.Tables.{value_of}
use Rattle.pq_row_keys.specs.Coded.{sequence_code}
use Rattle.pq_row_keys.proofs.keys.put_left.Given as goal

abbrev pub invariant-loop-col : goal.invariant-loop-col
invariant-loop-col l = l.out ++ sequence_code (value_of l.row) (then_key [] l.set (drop l.col-index l.cols)) ≡ l.fn.out ++ sequence_code (value_of l.row) (then_key [] l.set l.cols)
