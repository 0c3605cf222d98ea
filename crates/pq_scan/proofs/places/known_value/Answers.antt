use Rattle.std.proofs.Common.{cond, unwrap_or, sym, ap, ◌∙◌}
use Rattle.std.specs.Prelude.{[], slice_index_or}
use Rattle.std.proofs.lemmas.Bool.{ne_eqb}
use Rattle.std.proofs.lemmas.Option.{unwrap_or-slice_get}
use Rattle.pq_schema.specs.Rows.{no_value}
use Rattle.pq_plan.specs.Answer.{row_of}
use Rattle.pq_plan.specs.Running.{tied_value}
use Rattle.pq_scan.specs.Prepared.{asked_over}
use Rattle.pq_scan.proofs.places.known_value.Goals as goal

pub returns-else-item-scan : goal.returns-else-item-scan
returns-else-item-scan c =
    let col = c.args.item.now.col in
    let row = row_of col.rel c.args.combo.now in
    let q = asked_over c.args.scan.now [] in
    ap (λ o. unwrap_or o no_value) c.cell.ensures ∙ unwrap_or-slice_get row col.col no_value
    ∙ sym (ap (λ b. cond b (unwrap_or (tied_value q c.args.scan.now.rel c.args.combo.now col.col) no_value) (slice_index_or row col.col no_value)) (ne_eqb col.rel c.args.scan.now.rel c.if-item-scan.false))
