use Rattle.std.proofs.Common.{◌≡◌, take, map}
use Rattle.pq_schema.proofs.column_names.names_of.Given as goal

abbrev pub invariant-loop-column : goal.invariant-loop-column
invariant-loop-column l = l.names ≡ map (λ column. column.name) (take l.column-index l.columns)
