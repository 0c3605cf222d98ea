use Rattle.std.proofs.Common.{get_or, subst}
use Rattle.pq_base.specs.Members.{In}
use Rattle.pq_base.specs.declared.value.Dir.TheVariants.{Asc}
use Rattle.pq_base.proofs.Members.{at_in}
use Rattle.pq_schema.specs.declared.query.OrderItem.{OrderItem}
use Rattle.pq_scan.proofs.places.constants.Goals as goal

pub constant-requires-clause-column : goal.constant-requires-clause-column
constant-requires-clause-column c =
    let none : OrderItem = record { col = record { rel = 0; col = 0 }; dir = Asc } in
    let items = c.items-items.result.now in
    let item : OrderItem = get_or items c.loop-item.item-index none in
    c.requires.item_columns item (subst (λ items. In item items) c.items-items.ensures (at_in items c.loop-item.item-index none c.loop-item-test.true))
