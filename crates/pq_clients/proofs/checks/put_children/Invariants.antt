use Rattle.std.proofs.Common.{◌≡◌, ◌+◌, ◌++◌, drop, map}
use Rattle.pq_clients.specs.Flights.{child_checks}
use Rattle.pq_clients.specs.Seen.{seen_check}
use Rattle.pq_clients.proofs.checks.put_children.Given as goal

abbrev pub invariant-loop-i : goal.invariant-loop-i
invariant-loop-i l = map seen_check l.checks ++ child_checks l.named.table l.named.key.now (l.i + 1) (drop l.i l.tables)
    ≡ map seen_check l.initial.checks ++ child_checks l.named.table l.named.key.now 1 l.tables
