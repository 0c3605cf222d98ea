use Rattle.pq_check.proofs.Checked.{selected_checked}
use Rattle.pq_check.proofs.checking.check_once.Goals as goal

pub returns : goal.returns
returns c asked is = selected_checked c.args.planned c.args.number c.args.plan.now asked c.requires is c.bound-bound.result c.bound-bound.ensures _ c.done_report.ensures
