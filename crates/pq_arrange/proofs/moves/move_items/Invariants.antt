use Rattle.std.proofs.Common.{◌≡◌, map, take}
use Rattle.pq_arrange.specs.Moves.{move_item}
use Rattle.pq_arrange.proofs.moves.move_items.Given as goal

abbrev pub invariant-loop-item : goal.invariant-loop-item
invariant-loop-item l = l.moved ≡ map (move_item l.order) (take l.item-index l.items)
