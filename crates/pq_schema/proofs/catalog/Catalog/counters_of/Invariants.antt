use Rattle.std.proofs.Common.{◌≡◌, ◌+◌, ◌++◌, drop}
use Rattle.pq_schema.specs.Schema.{counters_from, counters_of}
use Rattle.pq_schema.proofs.catalog.Catalog.counters_of.Given as goal

abbrev pub invariant-loop-place : goal.invariant-loop-place
invariant-loop-place l =
    l.found ++ counters_from l.table (l.place + 1) (drop l.place l.self.definitions) ≡ counters_of l.self l.table
