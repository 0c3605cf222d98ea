use Rattle.std.proofs.lemmas.Result.{err_from_is_err_and}
use Rattle.pq_base.specs.Shapes.{row_shape}
use Rattle.pq_entries.specs.Entries.{IsNoRowPair}
use Rattle.pq_entries.proofs.Decoded.{one_shows}
use Rattle.pq_entries.proofs.decode.decoded_rows.Goals as goal

pub returns-in_err-row-clause-cause : goal.returns-in_err-row-clause-cause
returns-in_err-row-clause-cause c =
    let p = err_from_is_err_and c.from_residual-in_err-row.result c.from_residual-in_err-row.ensures.1 in
    rw (p.1, p.2) (one_shows (IsNoRowPair (row_shape c.args.types.now c.args.fillers.now)) c.args.pairs.now c.loop-pair.pair-index c.pair-item.result c.loop-pair-test.true c.pair-item.is c.in_err-row.field-0.0 c.in_err-row.ensures.cause)
