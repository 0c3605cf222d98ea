use Rattle.pq_plan_report.proofs.Plans.{report_put}
use Rattle.pq_plan_report.proofs.telling.put_report.Goals as goal

pub returns : goal.returns
returns c = rw (← c.is_refusal.ensures) (report_put c.print_report.result _ _ _ _ _ c.in_ok-put_plan.ensures c.print_report.ensures.ok)
