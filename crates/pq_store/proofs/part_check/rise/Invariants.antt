use Rattle.std.proofs.Common.{◌≡◌, map, drop, ◌∷◌}
use Rattle.pq_store.specs.Content.{entry, is_rising}
use Rattle.pq_store.proofs.part_check.rise.Given as goal

-- all rise exactly if those from the last one on do
abbrev pub invariant-loop-pair : goal.invariant-loop-pair
invariant-loop-pair l = is_rising (map entry l.fn.pairs) ≡ is_rising (map entry (l.last ∷ drop l.pair-index l.rest))
