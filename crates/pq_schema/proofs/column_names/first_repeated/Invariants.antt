use Rattle.std.proofs.Common.{◌≡◌, take, drop}
use Rattle.pq_schema.specs.ColumnNames.{first_repeated, repeated_after}
use Rattle.pq_schema.proofs.column_names.first_repeated.Given as goal

abbrev pub invariant-loop-place : goal.invariant-loop-place
invariant-loop-place l = first_repeated l.names ≡ repeated_after (take l.place l.names) (drop l.place l.names)
