use Rattle.std.proofs.Common.{◌≡◌, map}
use Rattle.std.specs.List.{range_with_len}
use Rattle.pq_query_read.specs.Parameters.{param_type_of}
use Rattle.pq_query_read.proofs.params.param_types.Given as goal

abbrev pub invariant-loop-place : goal.invariant-loop-place
invariant-loop-place l = l.types ≡ map (param_type_of l.uses) (range_with_len 1 l.place)
