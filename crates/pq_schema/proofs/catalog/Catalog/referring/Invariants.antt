use Rattle.std.proofs.Common.{◌≡◌, ◌+◌, ◌++◌, drop}
use Rattle.pq_schema.specs.Tables.{referring_limits, referring_from}
use Rattle.pq_schema.proofs.catalog.Catalog.referring.Given as goal

abbrev pub invariant-loop-place : goal.invariant-loop-place
invariant-loop-place l = l.found ++ referring_from l.table (l.place + 1) (drop l.place l.self.tables) ≡ referring_limits l.self.tables l.table
