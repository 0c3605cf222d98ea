use Rattle.std.proofs.Common.{◌≡◌, Err, refl, subst}
use Rattle.std.proofs.lemmas.Result.{IfOk-weaker}
use Rattle.pq_base.specs.Answers.{Refuses}
use Rattle.pq_base.specs.declared.refusal.Stopped.{Stopped}
use Rattle.pq_statement.specs.Actions.{Action, action_of}
use Rattle.pq_check.proofs.Checked.{checked_next, checked_report}
use Rattle.pq_check.proofs.Written.{checked_defined}
use Rattle.pq_check.proofs.checking.check.Goals as goal

pub returns-in-Err-Refused-clause-report : goal.returns-in-Err-Refused-clause-report
returns-in-Err-Refused-clause-report c =
    let why : action_of c.args.planned c.args.piece.now ≡ Err c.in-Err-Refused.why = subst (λ (s : Stopped). Refuses {A = Action} s (action_of c.args.planned c.args.piece.now)) c.in-Err-Refused.field-0-is c.in-Err-Refused.ensures.refused in
    checked_report c.args.planned c.args.number c.args.piece.now (Err c.in-Err-Refused.why) c.args.planned _ why (record { next_is = refl; report_is = c.unread_report.ensures })

pub returns-in-Err-Refused-clause-next : goal.returns-in-Err-Refused-clause-next
returns-in-Err-Refused-clause-next c =
    let why : action_of c.args.planned c.args.piece.now ≡ Err c.in-Err-Refused.why = subst (λ (s : Stopped). Refuses {A = Action} s (action_of c.args.planned c.args.piece.now)) c.in-Err-Refused.field-0-is c.in-Err-Refused.ensures.refused in
    checked_next c.args.planned c.args.number c.args.piece.now (Err c.in-Err-Refused.why) c.args.planned _ why (record { next_is = refl; report_is = c.unread_report.ensures })

pub returns-in-Ok-clause-report : goal.returns-in-Ok-clause-report
returns-in-Ok-clause-report c =
    IfOk-weaker c.check_request.result _ _ (λ p done. checked_report c.args.planned c.args.number c.args.piece.now (action_of c.args.planned c.args.piece.now) p.0 p.1 refl (done (action_of c.args.planned c.args.piece.now) c.in-Ok.ensures.asks)) c.check_request.ensures

pub returns-in-Ok-clause-next : goal.returns-in-Ok-clause-next
returns-in-Ok-clause-next c =
    IfOk-weaker c.check_request.result _ _ (λ p done. checked_next c.args.planned c.args.number c.args.piece.now (action_of c.args.planned c.args.piece.now) p.0 p.1 refl (done (action_of c.args.planned c.args.piece.now) c.in-Ok.ensures.asks)) c.check_request.ensures

pub returns-in-Err-Refused-clause-arranged : goal.returns-in-Err-Refused-clause-arranged
returns-in-Err-Refused-clause-arranged c =
    let why : action_of c.args.planned c.args.piece.now ≡ Err c.in-Err-Refused.why = subst (λ (s : Stopped). Refuses {A = Action} s (action_of c.args.planned c.args.piece.now)) c.in-Err-Refused.field-0-is c.in-Err-Refused.ensures.refused in
    checked_defined c.args.planned c.known.ensures c.args.number c.args.piece.now (Err c.in-Err-Refused.why) c.args.planned _ why (record { next_is = refl; report_is = c.unread_report.ensures })

pub returns-in-Ok-clause-arranged : goal.returns-in-Ok-clause-arranged
returns-in-Ok-clause-arranged c =
    IfOk-weaker c.check_request.result _ _ (λ p done. checked_defined c.args.planned c.known.ensures c.args.number c.args.piece.now (action_of c.args.planned c.args.piece.now) p.0 p.1 refl (done (action_of c.args.planned c.args.piece.now) c.in-Ok.ensures.asks)) c.check_request.ensures
