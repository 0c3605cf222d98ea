use Rattle.std.proofs.lemmas.Result.{err_from_is_err_and}
use Rattle.pq_statement.specs.Requests.{reading_asked}
use Rattle.pq_write.proofs.Tallied.{kinds_from_params, read_broke, read_done, read_lost}
use Rattle.pq_write.proofs.read.read_count.Goals as goal

pub read_counter-requires-clause-number : goal.read_counter-requires-clause-number
read_counter-requires-clause-number g c = rw c.catalog.ensures c.requires.number

pub read_counter-requires-clause-kinds : goal.read_counter-requires-clause-kinds
read_counter-requires-clause-kinds g c = kinds_from_params _ _ (rw c.catalog.ensures c.requires.fits)

pub returns-in_err-count-clause-step : goal.returns-in_err-count-clause-step
returns-in_err-count-clause-step g c =
    let p = err_from_is_err_and c.from_residual.result c.from_residual.ensures.1 in
    rw (p.1, p.2, ← c.catalog.ensures) (read_broke c.args.number (reading_asked c.args.read.now) c.catalog.result.now _ _ _ _ _ _ _ _ c.in_err-count.field-0.0 (rw c.catalog.ensures c.requires)
    c.in_err-count.ensures.reads c.in_err-count.ensures.cause c.in_err-count.ensures.undamaged)

pub returns-in_err-report-clause-step : goal.returns-in_err-report-clause-step
returns-in_err-report-clause-step g c =
    let p = err_from_is_err_and c.from_residual-in_err-report.result c.from_residual-in_err-report.ensures.1 in
    rw (p.1, p.2, ← c.catalog.ensures) (read_lost c.args.number (reading_asked c.args.read.now) c.catalog.result.now _ _ _ _ _ _ _ _ c.in_ok-count.ensures.reads)

pub returns-clause-step : goal.returns-clause-step
returns-clause-step g c =
    rw (c.in_ok-report.ensures, c.used.ensures, ← c.catalog.ensures) (read_done c.args.number (reading_asked c.args.read.now) c.catalog.result.now _ _ _ _ _ _ _ _ c.in_ok-count.count
    c.grant-allowance.ensures c.in_ok-count.ensures.reads c.in_ok-count.ensures.answer c.in_ok-count.ensures.few c.in_ok-count.ensures.stored)
