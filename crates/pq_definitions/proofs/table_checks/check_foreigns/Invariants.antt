use Rattle.std.proofs.Common.{◌≡◌, ◌+◌, drop}
use Rattle.pq_schema.specs.Definitions.{foreigns_refusal}
use Rattle.pq_definitions.proofs.table_checks.check_foreigns.Given as goal

abbrev pub invariant-loop-place : goal.invariant-loop-place
invariant-loop-place l =
    foreigns_refusal l.catalog l.columns 1 l.foreign ≡ foreigns_refusal l.catalog l.columns (l.place + 1) (drop l.place l.foreign)
