use Rattle.std.proofs.lemmas.Result.{err_from_is_err_and}
use Rattle.pq_statement.proofs.Asking.{stopped_plan, stopped_definition}
use Rattle.pq_statement.proofs.requests.definable.Goals as goal

pub returns-in_err-plan-clause-refused : goal.returns-in_err-plan-clause-refused
returns-in_err-plan-clause-refused c =
    let p = err_from_is_err_and c.from_residual.result c.from_residual.ensures.1 in
    rw (p.1, p.2) (stopped_plan c.args.catalog.now c.args.name c.args.text.now c.args.tokens.now c.args.from c.in_err-plan.field-0.0 c.in_err-plan.ensures.refused)

pub returns-in_err-check_definition-clause-refused : goal.returns-in_err-check_definition-clause-refused
returns-in_err-check_definition-clause-refused c =
    let p = err_from_is_err_and c.from_residual-in_err-check_definition.result c.from_residual-in_err-check_definition.ensures.1 in
    rw (p.1, p.2) (stopped_definition c.args.catalog.now c.args.name c.args.text.now c.args.tokens.now c.args.from c.in_ok-plan.plan c.in_ok-plan.ensures.planned c.in_err-check_definition.field-0.0 c.in_err-check_definition.ensures)

pub returns-clause-planned : goal.returns-clause-planned
returns-clause-planned c = c.in_ok-plan.ensures.planned
