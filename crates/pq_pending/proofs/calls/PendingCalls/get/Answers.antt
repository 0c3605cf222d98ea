use Rattle.std.proofs.Common.{ap, ◌∙◌}
use Rattle.std.proofs.Common.{Some}
use Rattle.pq_pending.proofs.Contents.{value_changed, value_stored}
use Rattle.pq_pending.proofs.calls.PendingCalls.get.Goals as goal

pub returns-in_ok-copy_of-in-Some-clause-answer : goal.returns-in_ok-copy_of-in-Some-clause-answer
returns-in_ok-copy_of-in-Some-clause-answer g c =
    value_changed c.args.self.now.pending.now.changes c.known.ensures.distinct (g.S.Store.content c.args.self.now.store.now) c.args.key.now c.in_ok-copy_of-in-Some.field-0
    (ap Some c.in_ok-copy_of-in-Some.ensures ∙ c.in-Some.ensures)

pub returns-in-None-clause-answer : goal.returns-in-None-clause-answer
returns-in-None-clause-answer g c =
    value_stored c.args.self.now.pending.now.changes c.known.ensures.distinct (g.S.Store.content c.args.self.now.store.now) c.args.key.now c.in-None.ensures c.stored.result c.stored.ensures.answer
