use Rattle.std.proofs.Common.{◌≡◌, take, map}
use Rattle.pq_schema.specs.Definitions.{column_of}
use Rattle.pq_definitions.proofs.table_checks.columns_of.Given as goal

abbrev pub invariant-loop-def : goal.invariant-loop-def
invariant-loop-def l = l.columns ≡ map column_of (take l.def-index l.defs)
