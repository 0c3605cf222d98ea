use Rattle.pq_plan_report.proofs.Plans.{computed_tree, plan_told}
use Rattle.pq_plan_report.proofs.plan.planned_text.Goals as goal

pub plan_text-requires : goal.plan_text-requires
plan_text-requires c = computed_tree c.args.catalog.now c.args.plan.now c.known.ensures c.requires

pub returns : goal.returns
returns c plan is =
    plan_told c.args.catalog.now.tables c.args.plan.now.query c.args.plan.now.compiled c.requires.compiled plan is.query is.choice is.wanted is.bound
    _ c.in_ok-told.ensures.text c.in_ok-told.ensures.sum
