use Rattle.std.proofs.Common.{arith, Err, ap, ◌∙◌}
use Rattle.std.proofs.lemmas.Result.{err_from_is_err_and}
use Rattle.pq_store.specs.declared.store.StoreErr.TheVariants.{Failed}
use Rattle.pq_host.specs.Frames.{test_bytes}
use Rattle.pq_host.proofs.Parted.{longer_than_one, same_error}
use Rattle.pq_host.proofs.request.tests_body.Goals as goal

pub returns-in_err-put_test-clause-too_long : goal.returns-in_err-put_test-clause-too_long
returns-in_err-put_test-clause-too_long c = λ failed.
    let p = err_from_is_err_and c.from_residual-in_err-put_test.result c.from_residual-in_err-put_test.ensures.1 in
    let too_long = ap Err (same_error c.from_residual-in_err-put_test.result c.in_err-put_test.field-0.0 Failed (p.1 ∙ ap Err p.2) failed) in
    let long = longer_than_one test_bytes c.args.tests.now c.loop-test.test-index c.test-item.result c.loop-test-test.true c.test-item.is 16777213
    (c.in_err-put_test.ensures.too_long too_long) in
    omega (arith, long)
