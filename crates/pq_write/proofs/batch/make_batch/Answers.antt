use Rattle.std.proofs.Common.{◌≤◌, Err, length, ap, subst, arith}
use Rattle.std.proofs.lemmas.Result.{err_from_is_err_and}
use Rattle.pq_batch.specs.Batches.{InBatch, TooLong, batch_changes}
use Rattle.pq_batch.specs.Promises.{IsBatchWithin}
use Rattle.pq_content.specs.Standing.{write_ops}
use Rattle.pq_counters.specs.Whole.{AreWhole}
use Rattle.pq_reports.specs.Step.{unmade_end}
use Rattle.pq_write.proofs.Changing.{commits_within, refused_done, made_done, planning_broke, commit_broke}
use Rattle.pq_write.proofs.Batching.{batch_is_change, batch_long, batch_made, batch_planned, batch_refused, batch_shown, behind_answered, plain_answered, long_can, refused_can}
use Rattle.pq_write.proofs.Writing.{settled_sound}
use Rattle.pq_write.proofs.batch.make_batch.Goals as goal

pub commit-requires-clause-left : goal.commit-requires-clause-left
commit-requires-clause-left g c =
    let most = batch_changes c.catalog-catalog.result.now c.args.writes.now in
    let whole : AreWhole most c.in-Changes.changes = subst (IsBatchWithin most) c.in-Changes.is c.in_ok-place.ensures.plan in
    let fewer : write_ops (length c.in-Changes.changes) ≤ write_ops most = commits_within (length c.in-Changes.changes) most whole.some whole.few in
    let left = c.in_ok-place.ensures.left.ops_left in
    omega (arith, fewer, left)

pub returns-in_err-place-clause-step : goal.returns-in_err-place-clause-step
returns-in_err-place-clause-step g c =
    let p = err_from_is_err_and c.from_residual.result c.from_residual.ensures.1 in
    let schema = c.catalog-catalog.result.now in
    let is = batch_is_change c.args.number c.args.writes.now schema c.batch_bound-bound.result c.batch_bound-bound.ensures.bound in
    rw (p.1, p.2, ← c.catalog-catalog.ensures) (planning_broke c.args.number _ schema _ _ is c.in_err-place.field-0.0 _ _ _ _ _ _ _ _ _ _ c.grant-allowance.ensures c.in_err-place.ensures.reads
    (batch_shown c.args.writes.now _ schema _ _ _ _ _ _ _ _ _ _ c.in_err-place.ensures.reads c.in_err-place.ensures.cause) (settled_sound _ schema _ c.in_err-place.ensures.undamaged))

pub returns-in_err-place-clause-answered : goal.returns-in_err-place-clause-answered
returns-in_err-place-clause-answered g c =
    let p = err_from_is_err_and c.from_residual.result c.from_residual.ensures.1 in
    rw (p.1, p.2, ← c.catalog-catalog.ensures) (behind_answered c.catalog-catalog.result.now c.args.writes.now g.S.Store.answers c.in_err-place.field-0.0 c.in_err-place.ensures.answered)

pub returns-in_err-commit-in-Changes-clause-step : goal.returns-in_err-commit-in-Changes-clause-step
returns-in_err-commit-in-Changes-clause-step g c =
    let p = err_from_is_err_and c.from_residual-in_err-commit-in-Changes.result c.from_residual-in_err-commit-in-Changes.ensures.1 in
    let schema = c.catalog-catalog.result.now in
    let most = batch_changes schema c.args.writes.now in
    let whole : AreWhole most c.in-Changes.changes = subst (IsBatchWithin most) c.in-Changes.is c.in_ok-place.ensures.plan in
    let is = batch_is_change c.args.number c.args.writes.now schema c.batch_bound-bound.result c.batch_bound-bound.ensures.bound in
    let e = c.in_err-commit-in-Changes.ensures in
    rw (p.1, p.2, ← c.catalog-catalog.ensures) (commit_broke c.args.number _ schema _ _ is c.in-Changes.changes c.in_err-commit-in-Changes.field-0.0 _ _ _ _ _ _ _ _ _ _ _ _ _ _ c.grant-allowance.ensures c.in_ok-place.ensures.reads e.within.spends
    (batch_made c.args.number c.args.writes.now schema _ c.batch_bound-bound.ensures.bound c.in-Changes.changes _ _ c.in-Changes.is c.in_ok-place.ensures.answer) e.stopped e.sound e.damage e.kept (λ is. e.memory (ap Err is)) whole.intended e.within.spends.few e.partway
    (batch_planned c.args.number c.args.writes.now schema _ c.batch_bound-bound.ensures.bound c.in-Changes.changes _ _ c.in-Changes.is c.in_ok-place.ensures.own))

pub returns-in_err-commit-in-Changes-clause-answered : goal.returns-in_err-commit-in-Changes-clause-answered
returns-in_err-commit-in-Changes-clause-answered g c =
    let p = err_from_is_err_and c.from_residual-in_err-commit-in-Changes.result c.from_residual-in_err-commit-in-Changes.ensures.1 in
    rw (p.1, p.2) (plain_answered c.args.planned c.args.writes.now g.S.Store.answers c.in_err-commit-in-Changes.field-0.0 c.in_err-commit-in-Changes.ensures.within.answered)

pub returns-in-Refused-clause-step : goal.returns-in-Refused-clause-step
returns-in-Refused-clause-step g c =
    let schema = c.catalog-catalog.result.now in
    let is = batch_is_change c.args.number c.args.writes.now schema c.batch_bound-bound.result c.batch_bound-bound.ensures.bound in
    rw (c.in_batch_report-report.ensures, c.used.ensures, ← c.catalog-catalog.ensures) (refused_done c.args.number _ schema _ _ is (unmade_end (InBatch c.in-Refused.place c.in-Refused.cause)) _ _ _ _ _ _ _ _ _ _ c.grant-allowance.ensures c.in_ok-place.ensures.reads
    (batch_refused c.args.number c.args.writes.now schema _ c.batch_bound-bound.ensures.bound c.in-Refused.place c.in-Refused.cause _ _ c.in-Refused.is c.in_ok-place.ensures.answer)
    (refused_can c.args.number c.args.writes.now schema _ c.batch_bound-bound.ensures.bound c.in-Refused.place c.in-Refused.cause _ c.in-Refused.is c.in_ok-place.ensures.can) tt)

pub returns-in-TooLong-clause-step : goal.returns-in-TooLong-clause-step
returns-in-TooLong-clause-step g c =
    let schema = c.catalog-catalog.result.now in
    let is = batch_is_change c.args.number c.args.writes.now schema c.batch_bound-bound.result c.batch_bound-bound.ensures.bound in
    rw (c.refusal_report-report.ensures, c.used-in-TooLong.ensures, ← c.catalog-catalog.ensures) (refused_done c.args.number _ schema _ _ is (unmade_end (TooLong c.in-TooLong.length)) _ _ _ _ _ _ _ _ _ _ c.grant-allowance.ensures c.in_ok-place.ensures.reads
    (batch_long c.args.number c.args.writes.now schema _ c.batch_bound-bound.ensures.bound c.in-TooLong.length _ _ c.in-TooLong.is c.in_ok-place.ensures.answer)
    (long_can c.args.number c.args.writes.now schema _ c.batch_bound-bound.ensures.bound c.in-TooLong.length _ c.in-TooLong.is c.in_ok-place.ensures.can) tt)

pub returns-in_ok-commit-in-Changes-clause-step : goal.returns-in_ok-commit-in-Changes-clause-step
returns-in_ok-commit-in-Changes-clause-step g c =
    let schema = c.catalog-catalog.result.now in
    let is = batch_is_change c.args.number c.args.writes.now schema c.batch_bound-bound.result c.batch_bound-bound.ensures.bound in
    rw (c.done_report-report.ensures, c.used-in-Changes.ensures, ← c.catalog-catalog.ensures) (made_done c.args.number _ schema _ _ is c.in-Changes.changes _ _ _ _ _ _ _ _ _ _ _ _ _ _ c.grant-allowance.ensures c.in_ok-place.ensures.reads
    (batch_made c.args.number c.args.writes.now schema _ c.batch_bound-bound.ensures.bound c.in-Changes.changes _ _ c.in-Changes.is c.in_ok-place.ensures.answer) c.in_ok-commit-in-Changes.ensures.made c.in_ok-commit-in-Changes.ensures.within.spends c.in_ok-commit-in-Changes.ensures.whole
    (batch_planned c.args.number c.args.writes.now schema _ c.batch_bound-bound.ensures.bound c.in-Changes.changes _ _ c.in-Changes.is c.in_ok-place.ensures.own))

pub returns-in_err-place-clause-rounds : goal.returns-in_err-place-clause-rounds
returns-in_err-place-clause-rounds g c =
    let few = c.in_err-place.ensures.rounds in
    rw (← c.catalog-catalog.ensures) (omega (arith, few))

pub returns-in-Refused-clause-rounds : goal.returns-in-Refused-clause-rounds
returns-in-Refused-clause-rounds g c =
    let few = c.in_ok-place.ensures.rounds in
    rw (← c.catalog-catalog.ensures) (omega (arith, few))

pub returns-in-TooLong-clause-rounds : goal.returns-in-TooLong-clause-rounds
returns-in-TooLong-clause-rounds g c =
    let few = c.in_ok-place.ensures.rounds in
    rw (← c.catalog-catalog.ensures) (omega (arith, few))

pub returns-in_err-commit-in-Changes-clause-rounds : goal.returns-in_err-commit-in-Changes-clause-rounds
returns-in_err-commit-in-Changes-clause-rounds g c =
    let most = batch_changes c.catalog-catalog.result.now c.args.writes.now in
    let whole : AreWhole most c.in-Changes.changes = subst (IsBatchWithin most) c.in-Changes.is c.in_ok-place.ensures.plan in
    let fewer : write_ops (length c.in-Changes.changes) ≤ write_ops most = commits_within (length c.in-Changes.changes) most whole.some whole.few in
    let few = c.in_ok-place.ensures.rounds in
    let made = c.in_err-commit-in-Changes.ensures.within.rounds in
    rw (← c.catalog-catalog.ensures) (omega (arith, few, made, fewer))

pub returns-in_ok-commit-in-Changes-clause-rounds : goal.returns-in_ok-commit-in-Changes-clause-rounds
returns-in_ok-commit-in-Changes-clause-rounds g c =
    let most = batch_changes c.catalog-catalog.result.now c.args.writes.now in
    let whole : AreWhole most c.in-Changes.changes = subst (IsBatchWithin most) c.in-Changes.is c.in_ok-place.ensures.plan in
    let fewer : write_ops (length c.in-Changes.changes) ≤ write_ops most = commits_within (length c.in-Changes.changes) most whole.some whole.few in
    let few = c.in_ok-place.ensures.rounds in
    let made = c.in_ok-commit-in-Changes.ensures.within.rounds in
    rw (← c.catalog-catalog.ensures) (omega (arith, few, made, fewer))
