use Rattle.std.proofs.Common.{◌≡◌, ◌++◌, take}
use Rattle.pq_base.specs.Columns.{set_of}
use Rattle.pq_schema.specs.Sequences.{columns_of, then_key}
use Rattle.pq_row_keys.specs.Coded.{sequence_code}
use Rattle.pq_row_keys.specs.Groups.{values_from}
use Rattle.pq_schema.specs.Keys.{given_value}
use Rattle.pq_row_keys.proofs.keys.put_first.Given as goal

abbrev pub invariant-loop-place : goal.invariant-loop-place
invariant-loop-place l = l.out ≡ l.fn.out ++ sequence_code (given_value l.cols (values_from l.source l.cols l.values)) (take l.place (then_key l.parts (set_of (columns_of l.parts)) l.key))
