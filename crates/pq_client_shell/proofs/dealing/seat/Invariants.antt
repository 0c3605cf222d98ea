use Rattle.std.proofs.Common.{◌≡◌, ◌+◌, ◌<◌, ◌≤◌, ◌^◌, length}
use Rattle.std.specs.List.{AllByRecursion}
use Rattle.std.specs.Vec.Iter.{into_iter_items}
use Rattle.pq_clients.specs.Running.{views_of}
use Rattle.pq_client_shell.specs.Dealing.{seated}
use Rattle.pq_client_shell.proofs.dealing.seat.Given as goal

abbrev pub invariant-loop-hand : goal.invariant-loop-hand
invariant-loop-hand l = record {
  number : l.number ≡ 1 + length l.yielded;
  clients : views_of l.clients ≡ seated 1 l.yielded;
  left : AllByRecursion (λ hand. length hand < 2 ^ 32) (into_iter_items l.hand-iterator);
  few : length l.yielded + length (into_iter_items l.hand-iterator) ≤ 16;
}
