use Rattle.std.proofs.Common.{◌≡◌, map}
use Rattle.pq_scan.specs.Merging.{item_of}
use Rattle.pq_sorted_join.proofs.merge.items_of.Given as goal

abbrev pub invariant-loop-placed : goal.invariant-loop-placed
invariant-loop-placed l = l.combos ≡ map item_of l.yielded
