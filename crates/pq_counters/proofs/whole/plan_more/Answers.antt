use Rattle.std.proofs.Common.{subst}
use Rattle.pq_pending.specs.Calls.{seen, seen_world}
use Rattle.pq_index_keep.specs.Bounds.{removers_of}
use Rattle.pq_index_keep.specs.declared.plan.Planned.TheVariants.{Changes}
use Rattle.pq_counters.specs.Planning.{CountsRows}
use Rattle.pq_counters.proofs.Joining.{are_whole, has_whole, full_refused, whole_made}
use Rattle.pq_counters.proofs.Short.{all_short, removes_same}
use Rattle.pq_counters.proofs.Showing.{undamaged_over}
use Rattle.pq_counters.proofs.whole.plan_more.Goals as goal

pub returns-in-Err-clause-undamaged : goal.returns-in-Err-clause-undamaged
returns-in-Err-clause-undamaged g c =
    undamaged_over c.args.catalog.now c.known.ensures (seen_world g.S.Store.content g.S.Store.faults c.args.calls.now) (seen_world g.S.Store.content g.S.Store.faults c.plan_any.new.calls) c.in-Err.error c.in-Err.ensures.asks.cause

pub returns-in-Ok-Refused-clause-answer : goal.returns-in-Ok-Refused-clause-answer
returns-in-Ok-Refused-clause-answer g c = λ rows made others s is makes.
    let schema = c.args.catalog.now in
    let w = c.args.write.now in
    let by = subst (CountsRows schema w (seen g.S.Store.content c.args.calls.now) c.args.old.now) c.in-Ok-Refused.field-0-is c.in-Ok-Refused.ensures.plan in
    full_refused schema rows others w made c.in-Ok-Refused.why is (by.counted.answer rows made others s is)

pub returns-in-Ok-clause-plan : goal.returns-in-Ok-clause-plan
returns-in-Ok-clause-plan g c =
    let schema = c.args.catalog.now in
    let w = c.args.write.now in
    let told = seen g.S.Store.content c.args.calls.now in
    let all = c.in-Ok.all in
    let changes = c.args.changes in
    let more = c.in-Ok-Changes.more in
    let rows = c.requires.rows in
    let own = c.requires.planned in
    let by : CountsRows schema w told c.args.old.now (Changes more) = subst (CountsRows schema w told c.args.old.now) c.in-Ok-Changes.field-0-is c.in-Ok-Changes.ensures.plan in
    let each = by.counted.within.each in
    record {
      within = are_whole schema w changes more all c.known.ensures c.requires.write own.planned by.counted.within c.in-Ok.ensures;
      own = has_whole schema told w c.args.old.now changes more all rows.read own.passed rows.fits own.own each by.counts c.in-Ok.ensures;
      can = tt;
      short = all_short changes more all own.short each c.in-Ok.ensures;
      thin = removes_same (removers_of w) changes more all own.thin each c.in-Ok.ensures;
    }

pub returns-in-Ok-clause-answer : goal.returns-in-Ok-clause-answer
returns-in-Ok-clause-answer g c = λ rows made others s is makes.
    let schema = c.args.catalog.now in
    let w = c.args.write.now in
    let told = seen g.S.Store.content c.args.calls.now in
    let by : CountsRows schema w told c.args.old.now (Changes c.in-Ok-Changes.more) = subst (CountsRows schema w told c.args.old.now) c.in-Ok-Changes.field-0-is c.in-Ok-Changes.ensures.plan in
    whole_made schema rows others w made c.args.changes c.in-Ok-Changes.more c.in-Ok.all is makes (by.counted.answer rows made others s is) c.in-Ok.ensures
