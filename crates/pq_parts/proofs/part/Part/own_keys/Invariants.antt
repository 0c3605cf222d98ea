use Rattle.std.proofs.Common.{◌≡◌, map, take}
use Rattle.pq_parts.specs.Asking.{own_key}
use Rattle.pq_parts.proofs.part.Part.own_keys.Given as goal

abbrev pub invariant-loop-key : goal.invariant-loop-key
invariant-loop-key g l = l.own ≡ map (own_key l.self.from l.until) (take l.key-index l.keys)
