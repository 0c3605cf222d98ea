use Rattle.std.proofs.Common.{◌≡◌, Ok, Err}
use Rattle.std.proofs.lemmas.Result.{err_from_is_err_and, IfErr-weaker, IfOk-weaker}
use Rattle.pq_base.specs.Answers.{Answers}
use Rattle.pq_query_read.specs.Queries.{read_query_of}
use Rattle.pq_schema.specs.declared.query.Query.{Query}
use Rattle.pq_planning.specs.Planning.{explained_name}
use Rattle.pq_planning.proofs.Once.{selected_read, selected_unread}
use Rattle.pq_planning.proofs.Plans.{planned_as, refused_as}
use Rattle.pq_planning.proofs.planning.plan_select.Goals as goal

pub returns-in_err-written-clause-refused : goal.returns-in_err-written-clause-refused
returns-in_err-written-clause-refused c =
    let p = err_from_is_err_and c.from_residual-in_err-written.result c.from_residual-in_err-written.ensures.1 in
    let reads : Answers {A = Query} (Err c.in_err-written.field-0.0) (read_query_of c.args.catalog.now explained_name c.args.text.now c.args.tokens.now 0) =
    rw (← c.in_ok-name.ensures) c.in_err-written.ensures.reads in
    rw (p.1, p.2) (selected_unread c.args.catalog.now c.args.text.now c.args.tokens.now c.in_err-written.field-0.0 reads)

pub returns-clause-planned : goal.returns-clause-planned
returns-clause-planned c =
    let reads : read_query_of c.args.catalog.now explained_name c.args.text.now c.args.tokens.now 0 ≡ Ok c.in_ok-written.written = rw (← c.in_ok-name.ensures) c.in_ok-written.ensures.reads in
    let named : c.in_ok-written.written.name ≡ explained_name = rw (← c.in_ok-name.ensures) c.in_ok-written.ensures.sound.1 in
    let is = selected_read c.args.catalog.now c.args.text.now c.args.tokens.now c.in_ok-written.written reads in
    IfOk-weaker c.plan_once.result _ _ (λ plan planned. planned_as c.args.catalog.now c.in_ok-written.written.name explained_name _ _ plan named is planned) c.plan_once.ensures.planned

pub returns-clause-refused : goal.returns-clause-refused
returns-clause-refused c =
    let reads : read_query_of c.args.catalog.now explained_name c.args.text.now c.args.tokens.now 0 ≡ Ok c.in_ok-written.written = rw (← c.in_ok-name.ensures) c.in_ok-written.ensures.reads in
    let is = selected_read c.args.catalog.now c.args.text.now c.args.tokens.now c.in_ok-written.written reads in
    IfErr-weaker c.plan_once.result _ _ (λ stopped refused. refused_as stopped _ _ is refused) c.plan_once.ensures.refused
