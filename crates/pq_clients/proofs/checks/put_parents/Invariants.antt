use Rattle.std.proofs.Common.{◌≡◌, ◌++◌, drop, map}
use Rattle.pq_clients.specs.Flights.{parent_checks}
use Rattle.pq_clients.specs.Seen.{seen_check}
use Rattle.pq_clients.proofs.checks.put_parents.Given as goal

abbrev pub invariant-loop-place : goal.invariant-loop-place
invariant-loop-place l = map seen_check l.checks ++ parent_checks l.write l.row l.place (drop l.place l.foreign)
    ≡ map seen_check l.initial.checks ++ parent_checks l.write l.row 0 l.foreign
