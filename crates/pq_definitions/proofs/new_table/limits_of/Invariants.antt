use Rattle.std.proofs.Common.{◌≡◌, take, map}
use Rattle.pq_schema.specs.Definitions.{limit_of_def}
use Rattle.pq_definitions.proofs.new_table.limits_of.Given as goal

abbrev pub invariant-loop-def : goal.invariant-loop-def
invariant-loop-def l = l.limits ≡ map (limit_of_def l.columns) (take l.def-index l.defs)
