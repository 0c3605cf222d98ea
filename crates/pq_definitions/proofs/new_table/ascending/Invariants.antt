use Rattle.std.proofs.Common.{◌≡◌, take, map}
use Rattle.pq_schema.specs.Sequences.{ascending_part}
use Rattle.pq_definitions.proofs.new_table.ascending.Given as goal

abbrev pub invariant-loop-col : goal.invariant-loop-col
invariant-loop-col l = l.parts ≡ map ascending_part (take l.col-index l.cols)
