use Rattle.std.proofs.Common.{arith, Err, ap, ◌∙◌}
use Rattle.std.proofs.lemmas.Result.{err_from_is_err_and}
use Rattle.pq_store.specs.declared.store.StoreErr.TheVariants.{Failed}
use Rattle.pq_host.specs.Frames.{asked_range}
use Rattle.pq_host.proofs.Parted.{longer_than_one, same_error}
use Rattle.pq_host.proofs.request.ranges_body.Goals as goal

pub returns-in_err-put_range-clause-too_long : goal.returns-in_err-put_range-clause-too_long
returns-in_err-put_range-clause-too_long c = λ failed.
    let p = err_from_is_err_and c.from_residual-in_err-put_range.result c.from_residual-in_err-put_range.ensures.1 in
    let too_long = ap Err (same_error c.from_residual-in_err-put_range.result c.in_err-put_range.field-0.0 Failed (p.1 ∙ ap Err p.2) failed) in
    let long = longer_than_one asked_range c.args.asks.now c.loop-asked.asked-index c.asked-item.result c.loop-asked-test.true c.asked-item.is 16777213
    (c.in_err-put_range.ensures.too_long too_long) in
    omega (arith, long)
