use Rattle.std.proofs.Common.{List, subst, arith}
use Rattle.std.specs.Prelude.{All}
use Rattle.std.proofs.lemmas.List.Elements.{All-head, All-tail}
use Rattle.pq_schema.specs.Sound.{AreColumns}
use Rattle.pq_schema.specs.declared.table.Foreign.{Foreign}
use Rattle.pq_index_keep.proofs.parents.+parent_place.Goals as goal

abbrev Has : Foreign → Type 0
Has foreign = AreColumns foreign.cols

pub asks_parent-requires : goal.asks_parent-requires
asks_parent-requires t c = All-head Has c.in-Some.key.now c.in-Some.rest.now (subst (λ (fs : List Foreign). All Has fs) c.in-Some.ensures.cases.0 c.requires)

pub parent_place-requires : goal.parent_place-requires
parent_place-requires t c = (
  omega (arith, c.in-Some.ensures.cases.1),
  All-tail Has c.in-Some.key.now c.in-Some.rest.now (subst (λ (fs : List Foreign). All Has fs) c.in-Some.ensures.cases.0 c.requires),
)

pub parent_place-requires-in-Some : goal.parent_place-requires-in-Some
parent_place-requires-in-Some t c = (
  omega (arith, c.in-Some.ensures.cases.1),
  All-tail Has c.in-Some.key.now c.in-Some.rest.now (subst (λ (fs : List Foreign). All Has fs) c.in-Some.ensures.cases.0 c.requires),
)
