use Rattle.std.proofs.Common.{arith, ◌≡◌, Some, Err, subst}
use Rattle.pq_base.specs.Answers.{Passes}
use Rattle.pq_base.specs.declared.refusal.Stopped.{Stopped}
use Rattle.pq_schema.specs.Definitions.{counted_schema, counter_refusal, new_counter}
use Rattle.pq_define.proofs.Defining.{none_asked, some_asked}
use Rattle.pq_define.proofs.Counting.{counter_accepted, counter_refused}
use Rattle.pq_reports.proofs.Promises.{broken_same, unread_done}
use Rattle.pq_define.proofs.counter.create_counter.Goals as goal

pub count_over-requires-clause-accepted : goal.count_over-requires-clause-accepted
count_over-requires-clause-accepted g c = counter_accepted c.args.planned c.args.def c.in-Ok.ensures.passes

pub returns-in-Err-NoMem-clause-step : goal.returns-in-Err-NoMem-clause-step
returns-in-Err-NoMem-clause-step g c = broken_same _ _ _ c.args.planned _ _ tt

pub returns-in-Err-Refused-clause-step : goal.returns-in-Err-Refused-clause-step
returns-in-Err-Refused-clause-step g c =
    let refused : counter_refusal c.args.planned c.args.def ≡ Some c.in-Err-Refused.why =
    subst (λ (s : Stopped). Passes {A = Unit {0}} (Err s) (counter_refusal c.args.planned c.args.def)) c.in-Err-Refused.field-0-is c.in-Err-Refused.ensures.passes in
    rw (c.unread_report.ensures, counter_refused c.args.planned c.args.def c.in-Err-Refused.why refused) (unread_done c.args.number c.in-Err-Refused.why _ c.args.planned _)

pub returns-in-Ok-clause-step : goal.returns-in-Ok-clause-step
returns-in-Ok-clause-step g c = rw (counter_accepted c.args.planned c.args.def c.in-Ok.ensures.passes) c.count_over.ensures.step

pub returns-in-Err-NoMem-clause-rounds : goal.returns-in-Err-NoMem-clause-rounds
returns-in-Err-NoMem-clause-rounds g c = none_asked 2 (new_counter c.args.planned c.args.def) (g.S.Store.rounds c.args.store.now) (g.S.Store.rounds c.args.store.now) (omega arith)

pub returns-in-Err-Refused-clause-rounds : goal.returns-in-Err-Refused-clause-rounds
returns-in-Err-Refused-clause-rounds g c = none_asked 2 (new_counter c.args.planned c.args.def) (g.S.Store.rounds c.args.store.now) (g.S.Store.rounds c.args.store.now) (omega arith)

pub returns-in-Ok-clause-rounds : goal.returns-in-Ok-clause-rounds
returns-in-Ok-clause-rounds g c = some_asked 2 (new_counter c.args.planned c.args.def) (counted_schema c.args.planned c.args.def) _ _ (counter_accepted c.args.planned c.args.def c.in-Ok.ensures.passes) c.count_over.ensures.rounds
