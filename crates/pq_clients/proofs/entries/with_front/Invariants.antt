use Rattle.std.proofs.Common.{◌≡◌, ◌∷◌, take}
use Rattle.pq_clients.proofs.entries.with_front.Given as goal

abbrev pub invariant-loop-other : goal.invariant-loop-other
invariant-loop-other l = l.all ≡ l.key ∷ take l.other-index l.keys
