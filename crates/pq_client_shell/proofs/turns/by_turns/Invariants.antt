use Rattle.std.proofs.Common.{◌≡◌}
use Rattle.pq_clients.specs.Promised.{by_turns}
use Rattle.pq_client_shell.proofs.turns.by_turns.Given as goal

abbrev pub invariant-loop-round : goal.invariant-loop-round
invariant-loop-round l = l.order ≡ by_turns l.k l.round
