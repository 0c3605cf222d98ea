use Rattle.std.proofs.Common.{◌≡◌, map, take, None}
use Rattle.pq_parts.proofs.part_store.no_values.Given as goal

abbrev pub invariant-loop-asked : goal.invariant-loop-asked
invariant-loop-asked l = l.found ≡ map (λ _. None) (take l._asked-index l.keys)
