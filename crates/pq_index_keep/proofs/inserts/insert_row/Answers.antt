use Rattle.std.proofs.Common.{◌≡◌, List, subst}
use Rattle.std.specs.Prelude.{IfOk}
use Rattle.pq_base.specs.declared.value.Value.{Value}
use Rattle.pq_index_keep.proofs.Whole.{whole_row}
use Rattle.pq_index_keep.proofs.inserts.insert_row.Goals as goal

pub returns-then-values-places : goal.returns-then-values-places
returns-then-values-places c =
    subst (λ (values : List Value). IfOk c.copy_values.result (λ row. row ≡ values))
    (whole_row c.args.table.now c.args.places.now c.args.values.now (c.is_whole.ensures c.if-is_whole.true) c.if-values-places.true) c.copy_values.ensures
