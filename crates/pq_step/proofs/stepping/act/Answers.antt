use Rattle.std.proofs.Common.{[], ap, arith, ◌∙◌, Option, subst, sym, refl}
use Rattle.std.proofs.lemmas.Result.{err_from_is_err_and}
use Rattle.pq_schema.specs.Definitions.{new_column, new_counter, new_table}
use Rattle.pq_schema.specs.declared.query.Query.{Query}
use Rattle.pq_schema.specs.declared.table.NewIndex.{NewIndex}
use Rattle.pq_statement.specs.Actions.{Runs, action_from}
use Rattle.pq_statement.specs.Requests.{Asks}
use Rattle.pq_statement.specs.declared.requests.Request.{Request}
use Rattle.pq_reports.proofs.Planned.{explained_lines}
use Rattle.pq_reports.proofs.Promises.{broken_same, explained_done, misread_done, shown_done}
use Rattle.pq_step.specs.Rounds.{AsksPrepared, AsksQuery}
use Rattle.pq_step.specs.Unbuilt.{MakesNoIndex}
use Rattle.pq_step.proofs.Answering.{answered_but, answered_for, answered_plain, batch_answered}
use Rattle.pq_step.proofs.Asking.{added_asked, counted_asked, created_asked, unasked}
use Rattle.pq_step.proofs.stepping.act.Goals as goal

pub create-requires : goal.create-requires
create-requires g c = (subst (λ (r : Request). Asks c.args.planned r c.requires.0) c.in-Create.is c.requires.1).0

pub add_column-requires : goal.add_column-requires
add_column-requires g c = (subst (λ (r : Request). Asks c.args.planned r c.requires.0) c.in-Alter.is c.requires.1).0

pub make_write-requires : goal.make_write-requires
make_write-requires g c = (subst (λ (r : Request). Asks c.args.planned r c.requires.0) c.in-Write.is c.requires.1).0

pub define_query-requires : goal.define_query-requires
define_query-requires g c = (subst (λ (r : Request). Asks c.args.planned r c.requires.0) c.in-Prepare.is c.requires.1).0

pub plan_report-requires : goal.plan_report-requires
plan_report-requires g c = (subst (λ (r : Request). Asks c.args.planned r c.requires.0) c.in-Explain.is c.requires.1).0

pub run_query-requires-clause-number : goal.run_query-requires-clause-number
run_query-requires-clause-number g c = (subst (λ (r : Request). Asks c.args.planned r c.requires.0) c.in-Run.is c.requires.1).1.number

pub run_query-requires-clause-fits : goal.run_query-requires-clause-fits
run_query-requires-clause-fits g c = (subst (λ (r : Request). Asks c.args.planned r c.requires.0) c.in-Run.is c.requires.1).1.fits

pub run_query-requires-clause-cursor : goal.run_query-requires-clause-cursor
run_query-requires-clause-cursor g c = (subst (λ (r : Request). Asks c.args.planned r c.requires.0) c.in-Run.is c.requires.1).1.cursor

pub create_counter-requires : goal.create_counter-requires
create_counter-requires g c = (subst (λ (r : Request). Asks c.args.planned r c.requires.0) c.in-Count.is c.requires.1).0

pub read_count-requires : goal.read_count-requires
read_count-requires g c = (subst (λ (r : Request). Asks c.args.planned r c.requires.0) c.in-Read.is c.requires.1).0

pub returns-in-Create-clause-step : goal.returns-in-Create-clause-step
returns-in-Create-clause-step g c asked asks =
    let a = subst (λ (r : Request). Asks c.args.planned r asked) c.in-Create.is asks in
    rw a.1 c.create.ensures.step

pub returns-in-Alter-clause-step : goal.returns-in-Alter-clause-step
returns-in-Alter-clause-step g c asked asks =
    let a = subst (λ (r : Request). Asks c.args.planned r asked) c.in-Alter.is asks in
    rw a.1 c.add_column.ensures.step

pub returns-in-Write-clause-step : goal.returns-in-Write-clause-step
returns-in-Write-clause-step g c asked asks =
    let a = subst (λ (r : Request). Asks c.args.planned r asked) c.in-Write.is asks in
    rw a.1 c.make_write.ensures.step

pub returns-in-Prepare-clause-step : goal.returns-in-Prepare-clause-step
returns-in-Prepare-clause-step g c asked asks =
    let a = subst (λ (r : Request). Asks c.args.planned r asked) c.in-Prepare.is asks in
    c.define_query.ensures.step asked a.1

pub returns-in_err-report-in-Explain-clause-step : goal.returns-in_err-report-in-Explain-clause-step
returns-in_err-report-in-Explain-clause-step g c asked asks =
    let p = err_from_is_err_and c.from_residual.result c.from_residual.ensures.1 in
    rw (p.1, p.2) (broken_same _ _ _ c.args.planned _ _ tt)

pub returns-in_ok-report-in-Explain-clause-step : goal.returns-in_ok-report-in-Explain-clause-step
returns-in_ok-report-in-Explain-clause-step g c asked asks =
    let a = subst (λ (r : Request). Asks c.args.planned r asked) c.in-Explain.is asks in
    rw (a.1.asks, c.in_ok-report-in-Explain.ensures ∙ explained_lines c.args.planned.tables c.args.number c.in-Explain.plan a.1.plan a.1.plan_is _ refl)
    (explained_done c.args.number a.1.plan _ c.args.planned _)

pub returns-in-Run-clause-step : goal.returns-in-Run-clause-step
returns-in-Run-clause-step g c asked asks =
    let a = subst (λ (r : Request). Asks c.args.planned r asked) c.in-Run.is asks in
    rw (a.2 ∙ ap (action_from Runs) a.1.is) c.run_query.ensures.step

pub returns-in-Count-clause-step : goal.returns-in-Count-clause-step
returns-in-Count-clause-step g c asked asks =
    let a = subst (λ (r : Request). Asks c.args.planned r asked) c.in-Count.is asks in
    rw a.1 c.create_counter.ensures.step

pub returns-in-Read-clause-step : goal.returns-in-Read-clause-step
returns-in-Read-clause-step g c asked asks =
    let a = subst (λ (r : Request). Asks c.args.planned r asked) c.in-Read.is asks in
    rw a.1 c.read_count.ensures.step

pub returns-in_err-show-in-Show-clause-step : goal.returns-in_err-show-in-Show-clause-step
returns-in_err-show-in-Show-clause-step g c asked asks =
    let p = err_from_is_err_and c.from_residual-in_err-show-in-Show.result c.from_residual-in_err-show-in-Show.ensures.1 in
    rw (p.1, p.2) (broken_same _ _ _ c.args.planned _ _ tt)

pub returns-in_ok-show-in-Show-clause-step : goal.returns-in_ok-show-in-Show-clause-step
returns-in_ok-show-in-Show-clause-step g c asked asks =
    let a = subst (λ (r : Request). Asks c.args.planned r asked) c.in-Show.is asks in
    rw (a, c.in_ok-show-in-Show.ensures) (shown_done c.args.number _ c.args.planned _)

pub select_query-requires-clause-computed : goal.select_query-requires-clause-computed
select_query-requires-clause-computed g c = (subst (λ (r : Request). Asks c.args.planned r c.requires.0) c.in-Select.is c.requires.1).0

pub select_query-requires-clause-once : goal.select_query-requires-clause-once
select_query-requires-clause-once g c = (subst (λ (r : Request). Asks c.args.planned r c.requires.0) c.in-Select.is c.requires.1).1

pub returns-in-Select-clause-step : goal.returns-in-Select-clause-step
returns-in-Select-clause-step g c asked asks =
    let a = subst (λ (r : Request). Asks c.args.planned r asked) c.in-Select.is asks in
    c.select_query.ensures.step asked a.2

pub returns-in-Create-clause-answered : goal.returns-in-Create-clause-answered
returns-in-Create-clause-answered g c asked asks = answered_for c.args.planned g.S.Store.answers asked _ c.create.result c.create.ensures.answered

pub returns-in-Alter-clause-answered : goal.returns-in-Alter-clause-answered
returns-in-Alter-clause-answered g c asked asks = answered_for c.args.planned g.S.Store.answers asked _ c.add_column.result c.add_column.ensures.answered

pub returns-in-Write-clause-answered : goal.returns-in-Write-clause-answered
returns-in-Write-clause-answered g c asked asks = answered_for c.args.planned g.S.Store.answers asked _ c.make_write.result c.make_write.ensures.answered

pub returns-in-Prepare-clause-answered : goal.returns-in-Prepare-clause-answered
returns-in-Prepare-clause-answered g c asked asks = answered_but c.args.planned g.S.Store.answers asked _ c.define_query.result c.define_query.ensures.answered

pub returns-in-Run-clause-answered : goal.returns-in-Run-clause-answered
returns-in-Run-clause-answered g c asked asks = answered_for c.args.planned g.S.Store.answers asked _ c.run_query.result c.run_query.ensures.answered

pub returns-in-Count-clause-answered : goal.returns-in-Count-clause-answered
returns-in-Count-clause-answered g c asked asks = answered_for c.args.planned g.S.Store.answers asked _ c.create_counter.result c.create_counter.ensures.answered

pub returns-in-Read-clause-answered : goal.returns-in-Read-clause-answered
returns-in-Read-clause-answered g c asked asks = answered_for c.args.planned g.S.Store.answers asked _ c.read_count.result c.read_count.ensures.answered

pub returns-in-Select-clause-answered : goal.returns-in-Select-clause-answered
returns-in-Select-clause-answered g c asked asks = answered_for c.args.planned g.S.Store.answers asked _ c.select_query.result c.select_query.ensures.answered

pub make_batch-requires : goal.make_batch-requires
make_batch-requires g c = (subst (λ (r : Request). Asks c.args.planned r c.requires.0) c.in-Batch.is c.requires.1).0

pub returns-in-Batch-clause-step : goal.returns-in-Batch-clause-step
returns-in-Batch-clause-step g c asked asks =
    let a = subst (λ (r : Request). Asks c.args.planned r asked) c.in-Batch.is asks in
    rw a.1 c.make_batch.ensures.step

pub returns-in-Batch-clause-answered : goal.returns-in-Batch-clause-answered
returns-in-Batch-clause-answered g c asked asks =
    let a = subst (λ (r : Request). Asks c.args.planned r asked) c.in-Batch.is asks in
    batch_answered c.args.planned g.S.Store.answers asked c.in-Batch.writes _ a.1 c.make_batch.result c.make_batch.ensures.answered

pub returns-in-Misread-clause-step : goal.returns-in-Misread-clause-step
returns-in-Misread-clause-step g c asked asks =
    let a = subst (λ (r : Request). Asks c.args.planned r asked) c.in-Misread.is asks in
    rw (a, c.misread_report.ensures) (misread_done c.args.number c.in-Misread.place c.in-Misread.cause _ c.args.planned _)

pub returns-in-Create-clause-unbuilt : goal.returns-in-Create-clause-unbuilt
returns-in-Create-clause-unbuilt g c asked asks none = answered_plain c.args.planned g.S.Store.answers asked [] c.create.result c.create.ensures.answered

pub returns-in-Alter-clause-unbuilt : goal.returns-in-Alter-clause-unbuilt
returns-in-Alter-clause-unbuilt g c asked asks none = answered_plain c.args.planned g.S.Store.answers asked [] c.add_column.result c.add_column.ensures.answered

pub returns-in-Write-clause-unbuilt : goal.returns-in-Write-clause-unbuilt
returns-in-Write-clause-unbuilt g c asked asks none = answered_plain c.args.planned g.S.Store.answers asked [] c.make_write.result c.make_write.ensures.answered

pub returns-in-Run-clause-unbuilt : goal.returns-in-Run-clause-unbuilt
returns-in-Run-clause-unbuilt g c asked asks none = answered_plain c.args.planned g.S.Store.answers asked [] c.run_query.result c.run_query.ensures.answered

pub returns-in-Count-clause-unbuilt : goal.returns-in-Count-clause-unbuilt
returns-in-Count-clause-unbuilt g c asked asks none = answered_plain c.args.planned g.S.Store.answers asked [] c.create_counter.result c.create_counter.ensures.answered

pub returns-in-Read-clause-unbuilt : goal.returns-in-Read-clause-unbuilt
returns-in-Read-clause-unbuilt g c asked asks none = answered_plain c.args.planned g.S.Store.answers asked [] c.read_count.result c.read_count.ensures.answered

pub returns-in-Select-clause-unbuilt : goal.returns-in-Select-clause-unbuilt
returns-in-Select-clause-unbuilt g c asked asks none = answered_plain c.args.planned g.S.Store.answers asked [] c.select_query.result c.select_query.ensures.answered

pub returns-in-Prepare-clause-unbuilt : goal.returns-in-Prepare-clause-unbuilt
returns-in-Prepare-clause-unbuilt g c asked asks none =
    let a = subst (λ (r : Request). Asks c.args.planned r asked) c.in-Prepare.is asks in
    answered_plain c.args.planned g.S.Store.answers asked [] c.define_query.result (c.define_query.ensures.unbuilt (sym a.1.plan_is.wanted ∙ subst MakesNoIndex a.1.asks none))

pub returns-in-Batch-clause-unbuilt : goal.returns-in-Batch-clause-unbuilt
returns-in-Batch-clause-unbuilt g c asked asks none =
    let a = subst (λ (r : Request). Asks c.args.planned r asked) c.in-Batch.is asks in
    rw a.1 c.make_batch.ensures.answered

pub returns-in_err-report-in-Explain-clause-rounds : goal.returns-in_err-report-in-Explain-clause-rounds
returns-in_err-report-in-Explain-clause-rounds g c asked asks = unasked c.args.planned (g.S.Store.rounds c.args.store.now) (g.S.Store.rounds c.args.store.now) asked (omega arith)

pub returns-in_ok-report-in-Explain-clause-rounds : goal.returns-in_ok-report-in-Explain-clause-rounds
returns-in_ok-report-in-Explain-clause-rounds g c asked asks = unasked c.args.planned (g.S.Store.rounds c.args.store.now) (g.S.Store.rounds c.args.store.now) asked (omega arith)

pub returns-in_err-show-in-Show-clause-rounds : goal.returns-in_err-show-in-Show-clause-rounds
returns-in_err-show-in-Show-clause-rounds g c asked asks = unasked c.args.planned (g.S.Store.rounds c.args.store.now) (g.S.Store.rounds c.args.store.now) asked (omega arith)

pub returns-in_ok-show-in-Show-clause-rounds : goal.returns-in_ok-show-in-Show-clause-rounds
returns-in_ok-show-in-Show-clause-rounds g c asked asks = unasked c.args.planned (g.S.Store.rounds c.args.store.now) (g.S.Store.rounds c.args.store.now) asked (omega arith)

pub returns-in-Misread-clause-rounds : goal.returns-in-Misread-clause-rounds
returns-in-Misread-clause-rounds g c asked asks = unasked c.args.planned (g.S.Store.rounds c.args.store.now) (g.S.Store.rounds c.args.store.now) asked (omega arith)

pub returns-in-Create-clause-rounds : goal.returns-in-Create-clause-rounds
returns-in-Create-clause-rounds g c asked asks =
    let a = subst (λ (r : Request). Asks c.args.planned r asked) c.in-Create.is asks in
    rw a.1 (created_asked c.args.planned _ _ (new_table c.args.planned c.in-Create.def) c.create.ensures.rounds)

pub returns-in-Alter-clause-rounds : goal.returns-in-Alter-clause-rounds
returns-in-Alter-clause-rounds g c asked asks =
    let a = subst (λ (r : Request). Asks c.args.planned r asked) c.in-Alter.is asks in
    rw a.1 (added_asked c.args.planned _ _ c.in-Alter.def (new_column c.args.planned c.in-Alter.def) c.add_column.ensures.rounds)

pub returns-in-Count-clause-rounds : goal.returns-in-Count-clause-rounds
returns-in-Count-clause-rounds g c asked asks =
    let a = subst (λ (r : Request). Asks c.args.planned r asked) c.in-Count.is asks in
    rw a.1 (counted_asked c.args.planned _ _ c.in-Count.def (new_counter c.args.planned c.in-Count.def) c.create_counter.ensures.rounds)

pub returns-in-Run-clause-rounds : goal.returns-in-Run-clause-rounds
returns-in-Run-clause-rounds g c asked asks =
    let a = subst (λ (r : Request). Asks c.args.planned r asked) c.in-Run.is asks in
    rw (a.2 ∙ ap (action_from Runs) a.1.is) c.run_query.ensures.rounds

pub returns-in-Read-clause-rounds : goal.returns-in-Read-clause-rounds
returns-in-Read-clause-rounds g c asked asks =
    let a = subst (λ (r : Request). Asks c.args.planned r asked) c.in-Read.is asks in
    rw a.1 c.read_count.ensures.rounds

pub returns-in-Prepare-clause-rounds : goal.returns-in-Prepare-clause-rounds
returns-in-Prepare-clause-rounds g c asked asks =
    let a = subst (λ (r : Request). Asks c.args.planned r asked) c.in-Prepare.is asks in
    rw a.1.asks (subst (λ (w : Option NewIndex). AsksPrepared w (g.S.Store.rounds c.args.store.now) (g.S.Store.rounds c.define_query.new.store)) (sym a.1.plan_is.wanted) c.define_query.ensures.rounds)

pub returns-in-Select-clause-rounds : goal.returns-in-Select-clause-rounds
returns-in-Select-clause-rounds g c asked asks =
    let a = subst (λ (r : Request). Asks c.args.planned r asked) c.in-Select.is asks in
    rw a.2.asks (subst (λ (q : Query). AsksQuery c.args.planned.tables q (g.S.Store.rounds c.args.store.now) (g.S.Store.rounds c.select_query.new.store)) (sym a.2.plan_is.query) c.select_query.ensures.rounds)

pub returns-in-Write-clause-rounds : goal.returns-in-Write-clause-rounds
returns-in-Write-clause-rounds g c asked asks =
    let a = subst (λ (r : Request). Asks c.args.planned r asked) c.in-Write.is asks in
    rw a.1 c.make_write.ensures.rounds

pub returns-in-Batch-clause-rounds : goal.returns-in-Batch-clause-rounds
returns-in-Batch-clause-rounds g c asked asks =
    let a = subst (λ (r : Request). Asks c.args.planned r asked) c.in-Batch.is asks in
    rw a.1 c.make_batch.ensures.rounds
