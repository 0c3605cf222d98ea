use Rattle.std.proofs.Common.{◌≡◌, ◌++◌, map}
use Rattle.std.specs.Prelude.{filter}
use Rattle.std.specs.List.{range_with_len}
use Rattle.pq_base.specs.Columns.{has_col}
use Rattle.pq_schema.specs.Sequences.{ascending_part}
use Rattle.pq_index_pick.proofs.make.push_fixed.Given as goal

abbrev pub invariant-loop-col : goal.invariant-loop-col
invariant-loop-col l = l.cols ≡ l.initial.cols ++ map ascending_part (filter (has_col l.fixed) (range_with_len 0 l.col))
