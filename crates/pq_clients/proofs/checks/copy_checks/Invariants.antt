use Rattle.std.proofs.Common.{◌≡◌, take}
use Rattle.pq_clients.proofs.checks.copy_checks.Given as goal

abbrev pub invariant-loop-check : goal.invariant-loop-check
invariant-loop-check l = l.copy ≡ take l.check-index l.checks
