use Rattle.std.proofs.Common.{◌≡◌, ◌+◌, ◌++◌, drop}
use Rattle.pq_schema.specs.Tables.{foreign_to}
use Rattle.pq_schema.proofs.catalog.push_foreign.Given as goal

abbrev pub invariant-loop-place : goal.invariant-loop-place
invariant-loop-place l =
    l.found ++ foreign_to l.parent l.table (l.place + 1) (drop l.place l.foreign) ≡ l.initial.found ++ foreign_to l.parent l.table 1 l.foreign
