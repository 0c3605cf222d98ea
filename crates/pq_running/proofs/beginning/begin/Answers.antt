use Rattle.std.proofs.Common.{◌≡◌, None, Err, option_copied, sym, subst}
use Rattle.std.proofs.lemmas.Result.{err_from_is_err_and}
use Rattle.pq_base.specs.Answers.{Passes}
use Rattle.pq_base.specs.Values.{AllFit}
use Rattle.pq_schema.specs.Resolved.{IsResolved}
use Rattle.pq_schema.specs.Schema.{query_at}
use Rattle.pq_schema.specs.declared.query.Query.{Query}
use Rattle.pq_runnable.proofs.Staying.{query_resolved}
use Rattle.pq_running.specs.Running.{params_refusal}
use Rattle.pq_schema.proofs.FewParams.{few_params}
use Rattle.pq_running.proofs.Begins.{begins_passed, begins_refused, whenever_ok}
use Rattle.pq_running.proofs.beginning.begin.Goals as goal

pub check_params-requires : goal.check_params-requires
check_params-requires c =
    let few = few_params c.args.catalog.now.tables (query_at c.args.catalog.now c.args.number) (query_resolved c.args.catalog.now c.args.number c.known.ensures c.requires.query) in
    rw (c.items.ensures, c.query-query.ensures) few

pub returns-in_err-check_params-clause-answer : goal.returns-in_err-check_params-clause-answer
returns-in_err-check_params-clause-answer c =
    let p = err_from_is_err_and c.from_residual.result c.from_residual.ensures.1 in
    let said : Passes {A = Unit {0}} (Err c.in_err-check_params.field-0.0) (params_refusal (query_at c.args.catalog.now c.args.number).params c.args.params.now) =
    rw (← c.query-query.ensures, ← c.items.ensures, ← c.items-2.ensures) c.in_err-check_params.ensures.passes in
    rw (p.1, p.2) (begins_refused c.args.catalog.now.tables c.args.number (query_at c.args.catalog.now c.args.number) c.args.params.now (option_copied c.args.after) c.in_err-check_params.field-0.0 said)

pub begin_after-requires : goal.begin_after-requires
begin_after-requires c =
    subst (λ (q : Query). IsResolved c.args.catalog.now.tables q) (sym c.query-query.ensures) (query_resolved c.args.catalog.now c.args.number c.known.ensures c.requires.query)

pub returns-clause-answer : goal.returns-clause-answer
returns-clause-answer c =
    let none : params_refusal (query_at c.args.catalog.now c.args.number).params c.args.params.now ≡ None =
    rw (← c.query-query.ensures, ← c.items.ensures, ← c.items-2.ensures) c.in_ok-check_params.ensures.passes in
    let after = rw c.query-query.ensures at c.begin_after.ensures.answer in
    rw (begins_passed c.args.catalog.now.tables c.args.number (query_at c.args.catalog.now c.args.number) c.args.params.now (option_copied c.args.after) none) after

pub returns-clause-fits : goal.returns-clause-fits
returns-clause-fits c =
    let fits : AllFit (query_at c.args.catalog.now c.args.number).params c.args.params.now =
    rw (← c.query-query.ensures, ← c.items.ensures, ← c.items-2.ensures) c.in_ok-check_params.ensures.fits in
    whenever_ok (AllFit (query_at c.args.catalog.now c.args.number).params c.args.params.now) c.begin_after.result fits
