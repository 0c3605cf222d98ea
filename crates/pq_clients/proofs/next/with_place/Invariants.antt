use Rattle.std.proofs.Common.{◌≡◌, ◌∷◌, take}
use Rattle.pq_clients.proofs.next.with_place.Given as goal

abbrev pub invariant-loop-other : goal.invariant-loop-other
invariant-loop-other l = l.all ≡ l.place ∷ take l.other-index l.places
