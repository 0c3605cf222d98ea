use Rattle.std.proofs.Common.{subst}
use Rattle.pq_statement.specs.Requests.{Asks}
use Rattle.pq_statement.specs.declared.requests.Request.{Request}
use Rattle.pq_check.proofs.Checked.{explained_checked}
use Rattle.pq_check.proofs.checking.check_request.Goals as goal

pub returns-in-Explain : goal.returns-in-Explain
returns-in-Explain c asked asks =
    let a = subst (λ (r : Request). Asks c.args.planned r asked) c.in-Explain.is asks in
    explained_checked c.args.planned c.args.number c.in-Explain.plan asked a.1 _ c.in_ok-report-in-Explain.ensures

pub check_once-requires : goal.check_once-requires
check_once-requires c = (subst (λ (r : Request). Asks c.args.planned r c.requires.0) c.in-Select.is c.requires.1).0
