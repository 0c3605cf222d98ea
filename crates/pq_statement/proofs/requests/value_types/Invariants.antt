use Rattle.std.proofs.Common.{◌≡◌, take, map}
use Rattle.pq_schema.specs.Resolved.{param_type}
use Rattle.pq_schema.specs.Tables.{types_at}
use Rattle.pq_statement.proofs.requests.value_types.Given as goal

abbrev pub invariant-loop-col : goal.invariant-loop-col
invariant-loop-col l = l.types ≡ map param_type (types_at l.columns (take l.col-index l.cols))
