use Rattle.std.proofs.Common.{◌≡◌}
use Rattle.pq_client_shell.specs.Telling.{first_fault}
use Rattle.pq_client_shell.proofs.telling.first_fault.Given as goal

abbrev pub invariant-loop-one : goal.invariant-loop-one
invariant-loop-one l = l.fault ≡ first_fault l.yielded
