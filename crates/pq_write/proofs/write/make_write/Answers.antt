use Rattle.std.proofs.Common.{◌≤◌, Err, length, ap, subst, arith}
use Rattle.std.proofs.lemmas.Result.{err_from_is_err_and}
use Rattle.pq_content.specs.Standing.{write_ops}
use Rattle.pq_counters.specs.Whole.{AreWhole, IsWholeWithin, RefusesWhole, whole_changes}
use Rattle.pq_write.proofs.Changing.{commits_within, refused_done, made_done, planning_broke, commit_broke}
use Rattle.pq_write.proofs.Writing.{explained_shown, settled_sound, write_is_change, write_made, write_planned, write_refused}
use Rattle.pq_write.proofs.write.make_write.Goals as goal

pub commit-requires-clause-left : goal.commit-requires-clause-left
commit-requires-clause-left g c =
    let most = whole_changes c.catalog-catalog.result.now c.args.write.now in
    let whole : AreWhole most c.in-Changes.changes = subst (IsWholeWithin most) c.in-Changes.is c.in_ok-why.ensures.plan in
    let fewer : write_ops (length c.in-Changes.changes) ≤ write_ops most = commits_within (length c.in-Changes.changes) most whole.some whole.few in
    let left = c.in_ok-why.ensures.left.ops_left in
    omega (arith, fewer, left)

pub returns-in_err-why-clause-step : goal.returns-in_err-why-clause-step
returns-in_err-why-clause-step g c =
    let p = err_from_is_err_and c.from_residual.result c.from_residual.ensures.1 in
    let schema = c.catalog-catalog.result.now in
    let is = write_is_change c.args.number c.args.write.now schema c.whole_bound-bound.result c.whole_bound-bound.ensures.is in
    rw (p.1, p.2, ← c.catalog-catalog.ensures) (planning_broke c.args.number _ schema _ _ is c.in_err-why.field-0.0 _ _ _ _ _ _ _ _ _ _ c.grant-allowance.ensures c.in_err-why.ensures.reads
    (explained_shown _ schema _ _ _ _ _ _ _ _ _ _ c.in_err-why.ensures.reads c.in_err-why.ensures.cause) (settled_sound _ schema _ c.in_err-why.ensures.undamaged))

pub returns-in_err-commit-in-Changes-clause-step : goal.returns-in_err-commit-in-Changes-clause-step
returns-in_err-commit-in-Changes-clause-step g c =
    let p = err_from_is_err_and c.from_residual-in_err-commit-in-Changes.result c.from_residual-in_err-commit-in-Changes.ensures.1 in
    let schema = c.catalog-catalog.result.now in
    let most = whole_changes schema c.args.write.now in
    let whole : AreWhole most c.in-Changes.changes = subst (IsWholeWithin most) c.in-Changes.is c.in_ok-why.ensures.plan in
    let is = write_is_change c.args.number c.args.write.now schema c.whole_bound-bound.result c.whole_bound-bound.ensures.is in
    let e = c.in_err-commit-in-Changes.ensures in
    rw (p.1, p.2, ← c.catalog-catalog.ensures) (commit_broke c.args.number _ schema _ _ is c.in-Changes.changes c.in_err-commit-in-Changes.field-0.0 _ _ _ _ _ _ _ _ _ _ _ _ _ _ c.grant-allowance.ensures c.in_ok-why.ensures.reads e.within.spends
    (write_made c.args.number c.args.write.now schema _ c.whole_bound-bound.ensures.is c.in-Changes.changes _ _ c.in-Changes.is c.in_ok-why.ensures.answer) e.stopped e.sound e.damage e.kept (λ is. e.memory (ap Err is)) whole.intended e.within.spends.few e.partway
    (write_planned c.args.number c.args.write.now schema _ c.whole_bound-bound.ensures.is c.in-Changes.changes _ _ c.in-Changes.is c.in_ok-why.ensures.own))

pub returns-in-Refused-clause-step : goal.returns-in-Refused-clause-step
returns-in-Refused-clause-step g c =
    let schema = c.catalog-catalog.result.now in
    let is = write_is_change c.args.number c.args.write.now schema c.whole_bound-bound.result c.whole_bound-bound.ensures.is in
    rw (c.refusal_report-report.ensures, c.used.ensures, ← c.catalog-catalog.ensures) (refused_done c.args.number _ schema _ _ is _ _ _ _ _ _ _ _ _ _ _ c.grant-allowance.ensures c.in_ok-why.ensures.reads
    (write_refused c.args.number c.args.write.now schema _ c.whole_bound-bound.ensures.is c.in-Refused.why _ _ c.in-Refused.is c.in_ok-why.ensures.answer) (subst (RefusesWhole schema c.args.write.now) c.in-Refused.is c.in_ok-why.ensures.can) tt)

pub returns-in_ok-commit-in-Changes-clause-step : goal.returns-in_ok-commit-in-Changes-clause-step
returns-in_ok-commit-in-Changes-clause-step g c =
    let schema = c.catalog-catalog.result.now in
    let is = write_is_change c.args.number c.args.write.now schema c.whole_bound-bound.result c.whole_bound-bound.ensures.is in
    rw (c.done_report-report.ensures, c.used-in-Changes.ensures, ← c.catalog-catalog.ensures) (made_done c.args.number _ schema _ _ is c.in-Changes.changes _ _ _ _ _ _ _ _ _ _ _ _ _ _ c.grant-allowance.ensures c.in_ok-why.ensures.reads
    (write_made c.args.number c.args.write.now schema _ c.whole_bound-bound.ensures.is c.in-Changes.changes _ _ c.in-Changes.is c.in_ok-why.ensures.answer) c.in_ok-commit-in-Changes.ensures.made c.in_ok-commit-in-Changes.ensures.within.spends c.in_ok-commit-in-Changes.ensures.whole
    (write_planned c.args.number c.args.write.now schema _ c.whole_bound-bound.ensures.is c.in-Changes.changes _ _ c.in-Changes.is c.in_ok-why.ensures.own))

pub returns-in_err-why-clause-rounds : goal.returns-in_err-why-clause-rounds
returns-in_err-why-clause-rounds g c =
    let few = c.in_err-why.ensures.rounds in
    rw (← c.catalog-catalog.ensures) (omega (arith, few))

pub returns-in-Refused-clause-rounds : goal.returns-in-Refused-clause-rounds
returns-in-Refused-clause-rounds g c =
    let few = c.in_ok-why.ensures.rounds in
    rw (← c.catalog-catalog.ensures) (omega (arith, few))

pub returns-in_err-commit-in-Changes-clause-rounds : goal.returns-in_err-commit-in-Changes-clause-rounds
returns-in_err-commit-in-Changes-clause-rounds g c =
    let most = whole_changes c.catalog-catalog.result.now c.args.write.now in
    let whole : AreWhole most c.in-Changes.changes = subst (IsWholeWithin most) c.in-Changes.is c.in_ok-why.ensures.plan in
    let fewer : write_ops (length c.in-Changes.changes) ≤ write_ops most = commits_within (length c.in-Changes.changes) most whole.some whole.few in
    let few = c.in_ok-why.ensures.rounds in
    let made = c.in_err-commit-in-Changes.ensures.within.rounds in
    rw (← c.catalog-catalog.ensures) (omega (arith, few, made, fewer))

pub returns-in_ok-commit-in-Changes-clause-rounds : goal.returns-in_ok-commit-in-Changes-clause-rounds
returns-in_ok-commit-in-Changes-clause-rounds g c =
    let most = whole_changes c.catalog-catalog.result.now c.args.write.now in
    let whole : AreWhole most c.in-Changes.changes = subst (IsWholeWithin most) c.in-Changes.is c.in_ok-why.ensures.plan in
    let fewer : write_ops (length c.in-Changes.changes) ≤ write_ops most = commits_within (length c.in-Changes.changes) most whole.some whole.few in
    let few = c.in_ok-why.ensures.rounds in
    let made = c.in_ok-commit-in-Changes.ensures.within.rounds in
    rw (← c.catalog-catalog.ensures) (omega (arith, few, made, fewer))
