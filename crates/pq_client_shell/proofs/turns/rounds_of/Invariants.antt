use Rattle.std.proofs.Common.{◌≤◌, take}
use Rattle.std.specs.List.{AllByRecursion, sum_by}
use Rattle.pq_clients.specs.Promises.{calls_of_write}
use Rattle.pq_client_shell.proofs.turns.rounds_of.Given as goal

abbrev pub invariant-loop-hand : goal.invariant-loop-hand
invariant-loop-hand l = AllByRecursion (λ hand. sum_by (calls_of_write l.catalog.tables) hand ≤ l.rounds) (take l.hand-index l.hands)
