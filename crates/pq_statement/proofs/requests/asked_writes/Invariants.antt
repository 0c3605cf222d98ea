use Rattle.std.proofs.Common.{◌≡◌, ◌+◌, drop, length}
use Rattle.std.specs.List.{AllByRecursion}
use Rattle.pq_index_keep.specs.Sound.{IsWrite}
use Rattle.pq_statement.specs.Batches.{checked_writes}
use Rattle.pq_statement.proofs.Batches.{with_front}
use Rattle.pq_statement.proofs.requests.asked_writes.Given as goal

abbrev pub invariant-loop-def : goal.invariant-loop-def
invariant-loop-def l = record {
  each : AllByRecursion (IsWrite l.catalog.tables) l.writes;
  count : length l.writes ≡ l.def-index;
  place : l.place ≡ l.def-index + 1;
  is : checked_writes l.catalog 1 l.defs ≡ with_front l.writes (checked_writes l.catalog l.place (drop l.def-index l.defs));
}
