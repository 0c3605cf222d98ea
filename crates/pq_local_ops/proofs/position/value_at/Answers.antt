use Rattle.std.proofs.Common.{◌≡◌, ap, ◌∙◌, subst, IfOk}
use Rattle.std.specs.Prelude.{Option, unwrap_or}
use Rattle.std.proofs.lemmas.Option.{unwrap_or-slice_get}
use Rattle.pq_base.specs.declared.value.Value.{Value}
use Rattle.pq_schema.specs.Rows.{no_value}
use Rattle.pq_plan.specs.Answer.{row_of}
use Rattle.pq_local_ops.proofs.position.value_at.Goals as goal

pub returns : goal.returns
returns c =
    subst (λ (v : Value). IfOk c.copied_value.result (λ value. value ≡ v))
    (ap (λ (o : Option Value). unwrap_or o no_value) c.cell.ensures
    ∙ unwrap_or-slice_get (row_of c.args.col.rel c.args.combo.now) c.args.col.col no_value)
    c.copied_value.ensures
