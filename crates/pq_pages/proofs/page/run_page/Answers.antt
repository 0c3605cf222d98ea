use Rattle.std.proofs.Common.{◌≡◌, length, option_copied, refl, subst, arith}
use Rattle.std.specs.Prelude.{IfSome}
use Rattle.std.specs.List.{AllByRecursion}
use Rattle.std.proofs.lemmas.Option.{IfSome_then}
use Rattle.pq_base.specs.Values.{AllFit}
use Rattle.pq_schema.specs.Schema.{query_at}
use Rattle.pq_schema.specs.declared.query.Query.{Query}
use Rattle.pq_nodes.specs.Combos.{selected_types}
use Rattle.pq_exec.specs.Execution.{AnswersQuery, IsAnswerIn}
use Rattle.pq_running.specs.Running.{next_cursor}
use Rattle.pq_pages.proofs.Pages.{within_bound, defined_asked, defined_resolved, defined_plan, answer_page}
use Rattle.pq_pages.proofs.page.run_page.Goals as goal

pub execute-requires-clause-asked : goal.execute-requires-clause-asked
execute-requires-clause-asked g c =
    defined_asked c.args.catalog.now c.args.number c.known.ensures c.requires.number.query c.query-query.result.now c.query-query.ensures c.args.params.now c.requires.fits

pub execute-requires-clause-plan : goal.execute-requires-clause-plan
execute-requires-clause-plan g c =
    defined_plan c.args.catalog.now c.args.number c.known.ensures c.requires.number.query c.query-query.result.now c.query-query.ensures c.args.plan.now c.requires.plan

pub returns-in_err-answer-clause-within : goal.returns-in_err-answer-clause-within
returns-in_err-answer-clause-within g c =
    within_bound c.args.catalog.now.tables (query_at c.args.catalog.now c.args.number) c.args.plan.now c.requires.bound c.args.meter.now c.execute.new.meter c.execute.ensures.bound

pub next_cursor-requires-clause-resolved : goal.next_cursor-requires-clause-resolved
next_cursor-requires-clause-resolved g c =
    defined_resolved c.args.catalog.now c.args.number c.known.ensures c.requires.number.query c.query-query.result.now c.query-query.ensures

pub returns-in_err-next-clause-within : goal.returns-in_err-next-clause-within
returns-in_err-next-clause-within g c =
    within_bound c.args.catalog.now.tables (query_at c.args.catalog.now c.args.number) c.args.plan.now c.requires.bound c.args.meter.now c.execute.new.meter c.execute.ensures.bound

pub returns-clause-page : goal.returns-clause-page
returns-clause-page g c = λ rows others holds.
    let answers : AnswersQuery (g.S.Store.content c.args.store.now) c.args.catalog.now.tables (query_at c.args.catalog.now c.args.number) c.args.params.now (option_copied c.args.after) c.in_ok-answer.answer =
    rw (← c.query-query.ensures) c.in_ok-answer.ensures.answer in
    let next : c.in_ok-next.next ≡ next_cursor c.args.catalog.now.tables c.args.number (query_at c.args.catalog.now c.args.number) (length c.in_ok-answer.answer.rows) c.in_ok-answer.answer.last =
    rw (← c.query-query.ensures) c.in_ok-next.ensures in
    answer_page c.args.catalog.now.tables c.args.number (query_at c.args.catalog.now c.args.number) c.args.params.now (option_copied c.args.after) rows
    c.in_ok-answer.answer (answers rows others holds) _ refl next

pub returns-clause-few : goal.returns-clause-few
returns-clause-few g c =
    let few = c.in_ok-answer.ensures.page.few in
    let narrow = c.requires.plan.narrow_entries in
    omega (few, narrow, arith)

pub returns-clause-within : goal.returns-clause-within
returns-clause-within g c =
    within_bound c.args.catalog.now.tables (query_at c.args.catalog.now c.args.number) c.args.plan.now c.requires.bound c.args.meter.now c.execute.new.meter c.execute.ensures.bound

pub returns-clause-codes : goal.returns-clause-codes
returns-clause-codes g c =
    let tables = c.args.catalog.now.tables in
    let query = query_at c.args.catalog.now c.args.number in
    let told = g.S.Store.content c.args.store.now in
    let answer = c.in_ok-answer.answer in
    let found : IfSome told (IsAnswerIn tables query c.args.params.now (option_copied c.args.after) c.args.plan.now answer) =
    rw (← c.query-query.ensures) c.in_ok-answer.ensures.codes in
    let next : c.in_ok-next.next ≡ next_cursor tables c.args.number query (length answer.rows) answer.last =
    rw (← c.query-query.ensures) c.in_ok-next.ensures in
    IfSome_then told found (λ content so. record { answer = answer; found = so; rows = refl; next = next })

pub returns-clause-fit : goal.returns-clause-fit
returns-clause-fit g c =
    subst (λ (q : Query). AllByRecursion (AllFit (selected_types c.args.catalog.now.tables q)) c.in_ok-answer.answer.rows) c.query-query.ensures c.in_ok-answer.ensures.page.fit
