use Rattle.std.proofs.lemmas.Result.{err_from_is_err_and}
use Rattle.pq_store.specs.declared.damage.Broke.TheVariants.{NoMem}
use Rattle.pq_step.proofs.Asking.{plan_asked}
use Rattle.pq_step.proofs.Runs.{answer_broke, answer_done, once_asked, once_kept}
use Rattle.pq_step.proofs.select.select_query.Goals as goal

pub run_once-requires-clause-asked : goal.run_once-requires-clause-asked
run_once-requires-clause-asked g c = rw c.catalog.ensures (once_asked c.args.planned c.args.plan.now c.known.ensures c.requires.computed c.requires.once)

pub run_once-requires-clause-plan : goal.run_once-requires-clause-plan
run_once-requires-clause-plan g c = rw c.catalog.ensures (once_kept c.args.planned c.args.plan.now c.known.ensures c.requires.computed c.requires.once).runnable

pub run_once-requires-clause-bound : goal.run_once-requires-clause-bound
run_once-requires-clause-bound g c = rw c.catalog.ensures (once_kept c.args.planned c.args.plan.now c.known.ensures c.requires.computed c.requires.once).bound

pub returns-in_err-page-clause-step : goal.returns-in_err-page-clause-step
returns-in_err-page-clause-step g c asked is =
    let p = err_from_is_err_and c.from_residual.result c.from_residual.ensures.1 in
    rw (p.1, p.2, is.asks, ← c.catalog.ensures) (answer_broke c.args.number is.plan c.args.plan.now.query c.catalog.result.now is.plan_is.query
    (g.S.Store.content c.args.store.now) (g.S.Store.content c.run_once.new.store) c.args.meter.now c.run_once.new.meter c.in_err-page.field-0.0
    c.in_err-page.ensures.undamaged c.in_err-page.ensures.damage c.run_once.ensures.within c.run_once.ensures.content)

pub returns-in_err-report-clause-step : goal.returns-in_err-report-clause-step
returns-in_err-report-clause-step g c asked is =
    let p = err_from_is_err_and c.from_residual-in_err-report.result c.from_residual-in_err-report.ensures.1 in
    rw (p.1, p.2, is.asks, ← c.catalog.ensures) (answer_broke c.args.number is.plan c.args.plan.now.query c.catalog.result.now is.plan_is.query
    (g.S.Store.content c.args.store.now) (g.S.Store.content c.run_once.new.store) c.args.meter.now c.run_once.new.meter NoMem
    (λ rows others holds. tt) tt c.run_once.ensures.within c.run_once.ensures.content)

pub returns-clause-step : goal.returns-clause-step
returns-clause-step g c asked is =
    rw (c.in_ok-report.ensures, is.asks, ← c.catalog.ensures) (answer_done c.args.number is.plan c.args.plan.now.query c.catalog.result.now is.plan_is.query
    (g.S.Store.content c.args.store.now) (g.S.Store.content c.run_once.new.store) c.args.meter.now c.run_once.new.meter c.in_ok-page.page
    c.in_ok-page.ensures.answer c.in_ok-page.ensures.bound c.in_ok-page.ensures.used c.run_once.ensures.within c.run_once.ensures.content
    c.args.plan.now.compiled.plan (rw c.catalog.ensures (once_kept c.args.planned c.args.plan.now c.known.ensures c.requires.computed c.requires.once)) c.in_ok-page.ensures.codes c.in_ok-page.ensures.fit c.in_ok-page.ensures.last)

pub returns-in_err-page-clause-rounds : goal.returns-in_err-page-clause-rounds
returns-in_err-page-clause-rounds g c = plan_asked c.args.planned.tables c.args.plan.now.query c.args.plan.now.compiled.plan _ _ (once_kept c.args.planned c.args.plan.now c.known.ensures c.requires.computed c.requires.once) c.run_once.ensures.rounds

pub returns-in_err-report-clause-rounds : goal.returns-in_err-report-clause-rounds
returns-in_err-report-clause-rounds g c = plan_asked c.args.planned.tables c.args.plan.now.query c.args.plan.now.compiled.plan _ _ (once_kept c.args.planned c.args.plan.now c.known.ensures c.requires.computed c.requires.once) c.run_once.ensures.rounds

pub returns-clause-rounds : goal.returns-clause-rounds
returns-clause-rounds g c = plan_asked c.args.planned.tables c.args.plan.now.query c.args.plan.now.compiled.plan _ _ (once_kept c.args.planned c.args.plan.now c.known.ensures c.requires.computed c.requires.once) c.run_once.ensures.rounds
