use Rattle.std.proofs.Common.{◌≤◌, ◌*◌, ◌^◌, take}
use Rattle.std.specs.List.{sum_by}
use Rattle.pq_clients.specs.Promises.{calls_of_write}
use Rattle.pq_client_shell.proofs.turns.most_in_hand.Given as goal

abbrev pub invariant-loop-write : goal.invariant-loop-write
invariant-loop-write l = record {
  most : sum_by (calls_of_write l.catalog.tables) (take l.write-index l.writes) ≤ l.calls;
  few : l.calls ≤ 2 ^ 33 * l.write-index;
}
