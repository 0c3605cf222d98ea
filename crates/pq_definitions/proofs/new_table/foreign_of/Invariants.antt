use Rattle.std.proofs.Common.{◌≡◌, take, map}
use Rattle.pq_schema.specs.Definitions.{foreign_of_def}
use Rattle.pq_definitions.proofs.new_table.foreign_of.Given as goal

abbrev pub invariant-loop-def : goal.invariant-loop-def
invariant-loop-def l = l.foreign ≡ map (foreign_of_def l.catalog l.columns) (take l.def-index l.defs)
