use Rattle.std.proofs.Common.{◌≡◌, map, take}
use Rattle.pq_parts.specs.Asking.{own_ask}
use Rattle.pq_parts.proofs.part.Part.own_asks.Given as goal

abbrev pub invariant-loop-asked : goal.invariant-loop-asked
invariant-loop-asked g l = l.own ≡ map (own_ask l.self.from l.until) (take l.asked-index l.asks)
