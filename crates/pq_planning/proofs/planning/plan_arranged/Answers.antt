use Rattle.std.proofs.lemmas.Result.{err_from_is_err_and, IfErr-weaker, IfOk-weaker}
use Rattle.pq_planning.proofs.Plans.{arranged_read, arranged_unread, planned_as, refused_as}
use Rattle.pq_planning.proofs.planning.plan_arranged.Goals as goal

pub returns-in_err-written-clause-refused : goal.returns-in_err-written-clause-refused
returns-in_err-written-clause-refused c =
    let p = err_from_is_err_and c.from_residual.result c.from_residual.ensures.1 in
    rw (p.1, p.2) (arranged_unread c.args.catalog.now c.args.name c.args.text.now c.args.tokens.now c.args.from c.in_err-written.field-0.0 c.in_err-written.ensures.reads)

pub returns-clause-planned : goal.returns-clause-planned
returns-clause-planned c =
    let is = arranged_read c.args.catalog.now c.args.name c.args.text.now c.args.tokens.now c.args.from c.in_ok-written.written c.in_ok-written.ensures.reads in
    IfOk-weaker c.plan_written.result _ _ (λ plan planned. planned_as c.args.catalog.now c.in_ok-written.written.name c.args.name _ _ plan c.in_ok-written.ensures.sound.1 is planned) c.plan_written.ensures.planned

pub returns-clause-refused : goal.returns-clause-refused
returns-clause-refused c =
    let is = arranged_read c.args.catalog.now c.args.name c.args.text.now c.args.tokens.now c.args.from c.in_ok-written.written c.in_ok-written.ensures.reads in
    IfErr-weaker c.plan_written.result _ _ (λ stopped refused. refused_as stopped _ _ is refused) c.plan_written.ensures.refused
