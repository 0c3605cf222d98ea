use Rattle.std.proofs.Common.{ap, sym, ◌∙◌}
use Rattle.std.specs.Prelude.{Option, option_copied, unwrap_or}
use Rattle.std.proofs.lemmas.Option.{unwrap_or-slice_get}
use Rattle.pq_base.specs.declared.value.Value.{Value}
use Rattle.pq_plan.specs.Answer.{row_of}
use Rattle.pq_local_ops.proofs.order.value_or.Goals as goal

pub returns-in-None : goal.returns-in-None
returns-in-None c =
    ap (λ o. unwrap_or (option_copied o) c.args.missing.now) (sym c.in-None.is)
    ∙ ap (λ (o : Option Value). unwrap_or o c.args.missing.now) c.cell.ensures
    ∙ unwrap_or-slice_get (row_of c.args.col.rel c.args.combo.now) c.args.col.col c.args.missing.now
