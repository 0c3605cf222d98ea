use Rattle.std.proofs.Common.{◌≡◌, ◌++◌, drop}
use Rattle.pq_clients.specs.Flights.{limit_tests}
use Rattle.pq_clients.proofs.limits.put_tests.Given as goal

abbrev pub invariant-loop-place : goal.invariant-loop-place
invariant-loop-place l = l.places ++ limit_tests l.write l.old l.row l.place (drop l.place l.limits)
    ≡ l.initial.places ++ limit_tests l.write l.old l.row 0 l.limits
