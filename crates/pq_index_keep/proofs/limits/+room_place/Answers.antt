use Rattle.std.proofs.Common.{List, subst, arith}
use Rattle.std.specs.Prelude.{All}
use Rattle.std.proofs.lemmas.List.Elements.{All-head, All-tail}
use Rattle.pq_schema.specs.Sound.{AreColumns}
use Rattle.pq_schema.specs.declared.table.Limit.{Limit}
use Rattle.pq_index_keep.proofs.limits.+room_place.Goals as goal

abbrev Has : Limit → Type 0
Has limit = AreColumns limit.cols

pub asks_room-requires : goal.asks_room-requires
asks_room-requires t c = All-head Has c.in-Some.limit.now c.in-Some.rest.now (subst (λ (ls : List Limit). All Has ls) c.in-Some.ensures.cases.0 c.requires)

pub room_place-requires : goal.room_place-requires
room_place-requires t c = (
  omega (arith, c.in-Some.ensures.cases.1),
  All-tail Has c.in-Some.limit.now c.in-Some.rest.now (subst (λ (ls : List Limit). All Has ls) c.in-Some.ensures.cases.0 c.requires),
)

pub room_place-requires-in-Some : goal.room_place-requires-in-Some
room_place-requires-in-Some t c = (
  omega (arith, c.in-Some.ensures.cases.1),
  All-tail Has c.in-Some.limit.now c.in-Some.rest.now (subst (λ (ls : List Limit). All Has ls) c.in-Some.ensures.cases.0 c.requires),
)
