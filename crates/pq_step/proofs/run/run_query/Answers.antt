use Rattle.std.proofs.Common.{option_copied}
use Rattle.std.proofs.lemmas.Result.{err_from_is_err_and}
use Rattle.pq_store.specs.declared.damage.Broke.TheVariants.{NoMem}
use Rattle.pq_schema.specs.Schema.{query_at}
use Rattle.pq_running.specs.Running.{running_with}
use Rattle.pq_step.proofs.Asking.{plan_asked}
use Rattle.pq_step.proofs.Runs.{page_done, page_broke}
use Rattle.pq_step.proofs.run.run_query.Goals as goal

pub returns-in_err-page-clause-step : goal.returns-in_err-page-clause-step
returns-in_err-page-clause-step g c =
    let p = err_from_is_err_and c.from_residual.result c.from_residual.ensures.1 in
    rw (p.1, p.2, ← c.catalog.ensures, ← c.as_ref.ensures.value) (page_broke c.args.number (running_with c.args.run.now.query (query_at c.catalog.result.now c.args.run.now.query) c.args.run.now.params (option_copied c.as_ref.result)) c.catalog.result.now
    (g.S.Store.content c.args.store.now) (g.S.Store.content c.run_page.new.store) c.args.meter.now c.run_page.new.meter c.in_err-page.field-0.0
    c.in_err-page.ensures.undamaged c.in_err-page.ensures.damage c.run_page.ensures.within c.run_page.ensures.content)

pub returns-in_err-report-clause-step : goal.returns-in_err-report-clause-step
returns-in_err-report-clause-step g c =
    let p = err_from_is_err_and c.from_residual-in_err-report.result c.from_residual-in_err-report.ensures.1 in
    rw (p.1, p.2, ← c.catalog.ensures, ← c.as_ref.ensures.value) (page_broke c.args.number (running_with c.args.run.now.query (query_at c.catalog.result.now c.args.run.now.query) c.args.run.now.params (option_copied c.as_ref.result)) c.catalog.result.now
    (g.S.Store.content c.args.store.now) (g.S.Store.content c.run_page.new.store) c.args.meter.now c.run_page.new.meter NoMem
    (λ rows others holds. tt) tt c.run_page.ensures.within c.run_page.ensures.content)

pub returns-clause-step : goal.returns-clause-step
returns-clause-step g c =
    rw (c.in_ok-report.ensures, ← c.catalog.ensures, ← c.as_ref.ensures.value) (page_done c.args.number (running_with c.args.run.now.query (query_at c.catalog.result.now c.args.run.now.query) c.args.run.now.params (option_copied c.as_ref.result)) c.catalog.result.now
    (g.S.Store.content c.args.store.now) (g.S.Store.content c.run_page.new.store) c.args.meter.now c.run_page.new.meter c.in_ok-page.page
    c.in_ok-page.ensures.page c.in_ok-page.ensures.bound c.in_ok-page.ensures.used c.run_page.ensures.within c.run_page.ensures.content
    c.kept_plan-plan.result.now (rw c.catalog.ensures c.kept_plan-plan.ensures) c.in_ok-page.ensures.codes c.in_ok-page.ensures.fit)

pub run_page-requires-clause-plan : goal.run_page-requires-clause-plan
run_page-requires-clause-plan g c = rw c.catalog.ensures c.kept_plan-plan.ensures.runnable

pub run_page-requires-clause-bound : goal.run_page-requires-clause-bound
run_page-requires-clause-bound g c = rw c.catalog.ensures c.kept_plan-plan.ensures.bound

pub returns-in_err-page-clause-rounds : goal.returns-in_err-page-clause-rounds
returns-in_err-page-clause-rounds g c = plan_asked c.args.planned.tables (query_at c.args.planned c.args.run.now.query) c.kept_plan-plan.result.now _ _ c.kept_plan-plan.ensures c.run_page.ensures.rounds

pub returns-in_err-report-clause-rounds : goal.returns-in_err-report-clause-rounds
returns-in_err-report-clause-rounds g c = plan_asked c.args.planned.tables (query_at c.args.planned c.args.run.now.query) c.kept_plan-plan.result.now _ _ c.kept_plan-plan.ensures c.run_page.ensures.rounds

pub returns-clause-rounds : goal.returns-clause-rounds
returns-clause-rounds g c = plan_asked c.args.planned.tables (query_at c.args.planned c.args.run.now.query) c.kept_plan-plan.result.now _ _ c.kept_plan-plan.ensures c.run_page.ensures.rounds

pub run_page-requires-clause-cursor : goal.run_page-requires-clause-cursor
run_page-requires-clause-cursor g c = rw (c.catalog.ensures, c.as_ref.ensures.value) c.requires.cursor
