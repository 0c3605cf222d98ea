use Rattle.std.proofs.Common.{◌≡◌, arith, Option, Some, None, sym, ◌∙◌, subst}
use Rattle.std.proofs.lemmas.Option.{none-some}
use Rattle.std.proofs.lemmas.Result.{err_from_is_err_and}
use Rattle.pq_plan.specs.Cost.{cost}
use Rattle.pq_schema.specs.Schema.{Schema}
use Rattle.pq_schema.specs.declared.table.NewIndex.{NewIndex}
use Rattle.pq_planning.specs.Lines.{planned_lines}
use Rattle.pq_planning.specs.Planned.{IsComputed}
use Rattle.pq_reports.proofs.Planned.{computed_defined, planned_promise, lines_are}
use Rattle.pq_catalog.proofs.Kept.{computed_wanting}
use Rattle.pq_reports.proofs.Promises.{broken_same}
use Rattle.pq_planning.proofs.Shown.{is_lined}
use Rattle.pq_step.specs.Rounds.{AsksPrepared}
use Rattle.pq_step.proofs.Asking.{prepared_unasked}
use Rattle.pq_step.proofs.prepare.define_query.Goals as goal

pub planned_lines-requires : goal.planned_lines-requires
planned_lines-requires g c =
    let is = subst (λ (s : Schema). IsComputed s.tables c.args.plan) (sym c.catalog.ensures) c.requires.computed_is in
    is_lined c.catalog.result.now.tables c.args.plan.query c.args.plan.compiled.wanted is.resolved (record { best = is.compiled.best; chosen = is.compiled.least })

pub returns-in_err-lines-clause-step : goal.returns-in_err-lines-clause-step
returns-in_err-lines-clause-step g c asked is =
    let p = err_from_is_err_and c.from_residual.result c.from_residual.ensures.1 in
    rw (p.1, p.2) (broken_same _ _ _ c.args.planned _ _ tt)

pub returns-in-None-clause-step : goal.returns-in-None-clause-step
returns-in-None-clause-step g c asked is =
    let lined = subst (λ (x : Schema). c.in_ok-lines.lines ≡ planned_lines x.tables c.args.plan.query.name c.args.plan.compiled.choice (cost c.args.plan.compiled.plan) c.args.plan.compiled.wanted) c.catalog.ensures c.in_ok-lines.ensures in
    rw is.asks (planned_promise c.args.planned.tables c.args.number c.args.plan is.plan is.plan_is None c.in-None.is _ _ c.args.planned _ _ c.write_query.result
    (c.write_query.ensures.step is.plan.chosen.best (lined ∙ lines_are c.args.planned.tables c.args.number c.args.plan is.plan is.plan_is None c.in-None.is)))

pub returns-in-Some-clause-step : goal.returns-in-Some-clause-step
returns-in-Some-clause-step g c asked is =
    let lined = subst (λ (x : Schema). c.in_ok-lines.lines ≡ planned_lines x.tables c.args.plan.query.name c.args.plan.compiled.choice (cost c.args.plan.compiled.plan) c.args.plan.compiled.wanted) c.catalog.ensures c.in_ok-lines.ensures in
    rw is.asks (planned_promise c.args.planned.tables c.args.number c.args.plan is.plan is.plan_is (Some c.in-Some.new) c.in-Some.is _ _ c.args.planned _ _ c.build_query.result
    (c.build_query.ensures.step is.plan.chosen.best (lined ∙ lines_are c.args.planned.tables c.args.number c.args.plan is.plan is.plan_is (Some c.in-Some.new) c.in-Some.is)))

pub write_query-requires-clause-defined : goal.write_query-requires-clause-defined
write_query-requires-clause-defined g c = computed_defined c.args.planned c.args.plan None c.in-None.is c.requires.name c.requires.computed_is c.requires.free

pub build_query-requires-clause-defined : goal.build_query-requires-clause-defined
build_query-requires-clause-defined g c = computed_defined c.args.planned c.args.plan (Some c.in-Some.new) c.in-Some.is c.requires.name c.requires.computed_is c.requires.free

pub write_query-requires-clause-compiled : goal.write_query-requires-clause-compiled
write_query-requires-clause-compiled g c = computed_wanting c.args.planned.tables c.args.plan None c.in-None.is c.requires.computed_is

pub build_query-requires-clause-compiled : goal.build_query-requires-clause-compiled
build_query-requires-clause-compiled g c = computed_wanting c.args.planned.tables c.args.plan (Some c.in-Some.new) c.in-Some.is c.requires.computed_is

pub returns-in_err-lines-clause-rounds : goal.returns-in_err-lines-clause-rounds
returns-in_err-lines-clause-rounds g c = prepared_unasked c.args.plan.compiled.wanted (g.S.Store.rounds c.args.store.now) (g.S.Store.rounds c.args.store.now) (omega arith)

pub returns-in-None-clause-rounds : goal.returns-in-None-clause-rounds
returns-in-None-clause-rounds g c = subst (λ (w : Option NewIndex). AsksPrepared w (g.S.Store.rounds c.args.store.now) (g.S.Store.rounds c.write_query.new.store)) (sym c.in-None.is) c.write_query.ensures.rounds

pub returns-in-Some-clause-rounds : goal.returns-in-Some-clause-rounds
returns-in-Some-clause-rounds g c = subst (λ (w : Option NewIndex). AsksPrepared w (g.S.Store.rounds c.args.store.now) (g.S.Store.rounds c.build_query.new.store)) (sym c.in-Some.is) tt

pub returns-in-Some-clause-unbuilt : goal.returns-in-Some-clause-unbuilt
returns-in-Some-clause-unbuilt g c = λ none. absurd (none-some c.in-Some.new (sym none ∙ c.in-Some.is))
