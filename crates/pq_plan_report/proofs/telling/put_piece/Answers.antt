use Rattle.std.proofs.Common.{string_bytes, subst}
use Rattle.pq_statement.specs.Actions.{action_of}
use Rattle.pq_plan_report.specs.Plans.{TellsAsked}
use Rattle.pq_plan_report.proofs.Plans.{piece_told, summed_of}
use Rattle.pq_plan_report.proofs.telling.put_piece.Goals as goal

pub returns-clause-text : goal.returns-clause-text
returns-clause-text c =
    let tells : TellsAsked c.args.session (action_of c.args.session c.args.piece.now) (string_bytes c.in_ok-plan.plan) =
    subst (λ s. TellsAsked s (action_of s c.args.piece.now) (string_bytes c.in_ok-plan.plan)) c.catalog.ensures c.in_ok-plan.ensures in
    piece_told c.args.session c.args.number c.args.piece.now (string_bytes c.in_ok-plan.plan) _ _ _ tells c.in_ok-session.ensures.report c.in_ok-put_report.ensures

pub returns-clause-summed : goal.returns-clause-summed
returns-clause-summed c =
    summed_of c.args.session (action_of c.args.session c.args.piece.now) (string_bytes c.in_ok-plan.plan)
    (subst (λ s. TellsAsked s (action_of s c.args.piece.now) (string_bytes c.in_ok-plan.plan)) c.catalog.ensures c.in_ok-plan.ensures)
