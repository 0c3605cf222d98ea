use Rattle.std.proofs.Common.{◌≤◌, List, length, subst, arith}
use Rattle.std.specs.Prelude.{All}
use Rattle.std.proofs.lemmas.List.Elements.{All-head, All-tail}
use Rattle.pq_schema.specs.declared.table.Table.{Table}
use Rattle.pq_index_keep.proofs.Referring.{child_rest, child_place}
use Rattle.pq_index_keep.proofs.references.+child_refusal_at.Goals as goal

abbrev HasFew : Table → Type 0
HasFew table = length table.foreign ≤ 4

pub child_refusal_at-requires : goal.child_refusal_at-requires
child_refusal_at-requires t c = (
  omega (arith, c.in-Some.ensures.cases.1),
  (
    All-tail HasFew c.in-Some.table.now c.in-Some.rest.now (subst (λ (ts : List Table). All HasFew ts) c.in-Some.ensures.cases.0 c.requires.sound),
    child_rest c.args.number c.in-Some.table.now c.in-Some.rest.now c.args.tables.now c.refers-own.result c.args.at c.in-Some.ensures.cases.0 c.refers-own.ensures c.if-at-own.true c.requires.within,
  ),
)

pub referenced-requires : goal.referenced-requires
referenced-requires t c =
    child_place c.args.number c.in-Some.table.now c.refers-own.result c.args.at c.items.result.now c.naming_place-place.result c.items.ensures c.refers-own.ensures c.if-at-own.false c.naming_place-place.ensures.place
    (All-head HasFew c.in-Some.table.now c.in-Some.rest.now (subst (λ (ts : List Table). All HasFew ts) c.in-Some.ensures.cases.0 c.requires.sound))
