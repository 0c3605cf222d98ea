use Rattle.std.proofs.Common.{◌≡◌, ◌++◌, map}
use Rattle.pq_sorted_join.specs.Merging.{placed_combo}
use Rattle.pq_sorted_join.proofs.merge.add_placed.Given as goal

abbrev pub invariant-loop-combo : goal.invariant-loop-combo
invariant-loop-combo l = l.all ≡ l.initial.all ++ map (placed_combo l.cols l.dirs) l.yielded
