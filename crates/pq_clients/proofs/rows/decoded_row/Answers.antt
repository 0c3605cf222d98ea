use Rattle.std.proofs.Common.{◌≡◌, ◌∙◌, List, subst}
use Rattle.std.specs.Prelude.{IfOk, IfSome}
use Rattle.pq_base.specs.Shapes.{row_shape}
use Rattle.pq_base.specs.Values.{AllFit}
use Rattle.pq_base.specs.declared.value.ColType.{ColType}
use Rattle.pq_row_code.specs.StoredRow.{filled_decoded}
use Rattle.pq_clients.proofs.rows.decoded_row.Goals as goal

pub returns-clause-row : goal.returns-clause-row
returns-clause-row c =
    subst (λ (ts : List ColType). IfOk c.decoded.result (λ row. row ≡ filled_decoded (row_shape ts c.args.table.now.fillers) c.args.code.now)) (c.items.ensures ∙ c.in_ok-types.ensures) c.decoded.ensures.row

pub returns-clause-fits : goal.returns-clause-fits
returns-clause-fits c =
    subst (λ (ts : List ColType). IfOk c.decoded.result (λ row. IfSome row (AllFit ts))) (c.items.ensures ∙ c.in_ok-types.ensures) c.decoded.ensures.fits
