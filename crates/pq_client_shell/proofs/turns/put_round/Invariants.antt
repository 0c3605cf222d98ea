use Rattle.std.proofs.Common.{◌≡◌, ◌++◌}
use Rattle.pq_clients.specs.Promised.{places_below}
use Rattle.pq_client_shell.proofs.turns.put_round.Given as goal

abbrev pub invariant-loop-place : goal.invariant-loop-place
invariant-loop-place l = l.order ≡ l.fn.order ++ places_below l.place
