use Rattle.std.proofs.lemmas.Result.{err_from_is_err_and}
use Rattle.pq_planning.proofs.Once.{index_stopped, params_stopped, plan_stopped, runs_once, selected, wants_lined}
use Rattle.pq_planning.proofs.planning.plan_once.Goals as goal

pub returns-in_err-check_params-clause-refused : goal.returns-in_err-check_params-clause-refused
returns-in_err-check_params-clause-refused c =
    let p = err_from_is_err_and c.from_residual.result c.from_residual.ensures.1 in
    rw (p.1, p.2) (params_stopped c.args.catalog.now c.args.written c.in_err-check_params.field-0.0 c.in_err-check_params.ensures)

pub returns-in_err-plan-clause-refused : goal.returns-in_err-plan-clause-refused
returns-in_err-plan-clause-refused c =
    let p = err_from_is_err_and c.from_residual-in_err-plan.result c.from_residual-in_err-plan.ensures.1 in
    rw (p.1, p.2) (plan_stopped c.args.catalog.now c.args.written c.in_ok-check_params.ensures c.in_err-plan.field-0.0 c.in_err-plan.ensures.refused)

pub check_index-requires : goal.check_index-requires
check_index-requires c = wants_lined c.args.catalog.now c.args.written c.in_ok-check_params.ensures c.in_ok-plan.plan c.in_ok-plan.ensures.planned

pub returns-in_err-check_index-clause-refused : goal.returns-in_err-check_index-clause-refused
returns-in_err-check_index-clause-refused c =
    let p = err_from_is_err_and c.from_residual-in_err-check_index.result c.from_residual-in_err-check_index.ensures.1 in
    rw (p.1, p.2) (index_stopped c.args.catalog.now c.args.written c.in_ok-check_params.ensures c.in_ok-plan.plan c.in_ok-plan.ensures.planned c.in_err-check_index.field-0.0 c.in_err-check_index.ensures)

pub returns-clause-planned : goal.returns-clause-planned
returns-clause-planned c = selected c.args.catalog.now c.args.written c.in_ok-check_params.ensures c.in_ok-plan.plan c.in_ok-plan.ensures.planned c.in_ok-check_index.ensures

pub returns-clause-once : goal.returns-clause-once
returns-clause-once c = runs_once c.args.catalog.now.tables c.args.written c.in_ok-plan.plan c.in_ok-check_params.ensures c.in_ok-plan.ensures.params c.in_ok-check_index.ensures
