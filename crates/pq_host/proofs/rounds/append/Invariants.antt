use Rattle.std.proofs.Common.{◌≡◌, ◌++◌}
use Rattle.pq_host.proofs.rounds.append.Given as goal

abbrev pub invariant-loop-item : goal.invariant-loop-item
invariant-loop-item g l = l.all ≡ l.fn.all ++ l.yielded
