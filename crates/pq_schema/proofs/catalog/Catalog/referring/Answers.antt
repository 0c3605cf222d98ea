use Rattle.std.proofs.Common.{◌≤◌, ◌<◌, List, get_or, length, sym, ap, ◌∙◌, subst}
use Rattle.pq_schema.specs.declared.table.Foreign.{Foreign}
use Rattle.pq_schema.specs.declared.table.Table.{Table}
use Rattle.pq_schema.proofs.Valid.{few_foreign_at, valid_made}
use Rattle.pq_schema.proofs.catalog.Catalog.referring.Goals as goal

pub push_foreign-requires : goal.push_foreign-requires
push_foreign-requires c =
    let i = c.loop-place.place in
    let child = c.child-item.result in
    let tables = c.tables-child-items.ensures.tables in
    let at = c.child-item.is ∙ ap (λ (ts : List Table). get_or ts i child) tables in
    subst (λ (fs : List Foreign). length fs ≤ 4) (sym (c.items.ensures ∙ ap (λ (t : Table). t.foreign) at))
    (few_foreign_at _ i child (valid_made c.known.ensures) (subst (λ (ts : List Table). i < length ts) tables c.loop-place-test.true))
