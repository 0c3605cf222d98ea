use Rattle.std.proofs.Common.{◌<◌, List, subst, sym}
use Rattle.std.specs.List.{AllByRecursion}
use Rattle.pq_base.proofs.Members.{each_by_in}
use Rattle.pq_schema.specs.declared.query.OrderItem.{OrderItem}
use Rattle.pq_scan.proofs.forms.form_of.Goals as goal

pub form_behind-requires-clause-columns : goal.form_behind-requires-clause-columns
form_behind-requires-clause-columns c =
    let below : OrderItem → Type 0 = λ item. item.col.col < 32 in
    subst (λ (items : List OrderItem). AllByRecursion below items) (sym c.items-items.ensures) (each_by_in below c.args.scan.now.items c.requires.item_columns)
