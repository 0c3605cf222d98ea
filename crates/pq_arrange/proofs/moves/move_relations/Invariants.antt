use Rattle.std.proofs.Common.{◌≡◌, map, take}
use Rattle.pq_schema.specs.Relations.{relation_at}
use Rattle.pq_arrange.proofs.moves.move_relations.Given as goal

abbrev pub invariant-loop-rel : goal.invariant-loop-rel
invariant-loop-rel l = l.moved ≡ map (relation_at l.query) (take l.rel-index l.order)
