use Rattle.std.proofs.Common.{◌≡◌, map, take, length}
use Rattle.std.specs.List.{range_with_len}
use Rattle.pq_arrange.specs.Moves.{order_place}
use Rattle.pq_arrange.proofs.moves.places.Given as goal

abbrev pub invariant-loop-rel : goal.invariant-loop-rel
invariant-loop-rel l = l.found ≡ map (order_place l.order) (take l.rel-index (range_with_len 1 (length l.order)))
