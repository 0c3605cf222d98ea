use Rattle.std.proofs.Common.{◌≡◌, ◌++◌, ap, ◌∙◌, subst}
use Rattle.std.specs.Prelude.{Option, OnOk, unwrap_or}
use Rattle.std.proofs.lemmas.Option.{unwrap_or-slice_get}
use Rattle.pq_base.specs.declared.value.Value.{Value}
use Rattle.pq_key_code.specs.KeyCode.{component}
use Rattle.pq_schema.specs.Rows.{no_value}
use Rattle.pq_plan.specs.Answer.{row_of}
use Rattle.pq_local_ops.proofs.position.put_cell.Goals as goal

pub returns : goal.returns
returns c =
    subst (λ (v : Value). OnOk c.put_value.result (c.put_value.new.out ≡ c.args.out.now ++ component c.args.dir v))
    (ap (λ (o : Option Value). unwrap_or o no_value) c.cell.ensures
    ∙ unwrap_or-slice_get (row_of c.args.col.rel c.args.combo.now) c.args.col.col no_value)
    c.put_value.ensures
