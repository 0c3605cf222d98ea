use Rattle.std.proofs.Common.{◌≡◌, drop}
use Rattle.pq_schema.specs.Definitions.{limits_refusal}
use Rattle.pq_definitions.proofs.table_checks.check_limits.Given as goal

abbrev pub invariant-loop-limit : goal.invariant-loop-limit
invariant-loop-limit l = limits_refusal l.columns l.limits ≡ limits_refusal l.columns (drop l.limit-index l.limits)
