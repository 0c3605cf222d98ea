use Rattle.std.proofs.Common.{◌≡◌, ◌++◌, drop, map}
use Rattle.pq_clients.specs.Flights.{child_checks_of}
use Rattle.pq_clients.specs.Seen.{seen_check}
use Rattle.pq_clients.proofs.checks.put_children_of.Given as goal

abbrev pub invariant-loop-place : goal.invariant-loop-place
invariant-loop-place l = map seen_check l.checks ++ child_checks_of l.named.table l.named.key.now l.number l.table l.place (drop l.place l.foreign)
    ≡ map seen_check l.initial.checks ++ child_checks_of l.named.table l.named.key.now l.number l.table 0 l.foreign
