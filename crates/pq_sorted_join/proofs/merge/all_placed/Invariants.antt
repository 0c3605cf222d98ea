use Rattle.std.proofs.Common.{◌≡◌, map, flat_map}
use Rattle.pq_sorted_join.specs.Merging.{placed_combo}
use Rattle.pq_sorted_join.proofs.merge.all_placed.Given as goal

abbrev pub invariant-loop-list : goal.invariant-loop-list
invariant-loop-list l = l.all ≡ map (placed_combo l.cols l.dirs) (flat_map (λ list. list) l.yielded)
