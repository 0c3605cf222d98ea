use Rattle.pq_pending.proofs.Joining.{values_none, answered_none}
use Rattle.pq_pending.proofs.calls.PendingCalls.gets.Goals as goal

pub returns-then-is_empty-clause-answer : goal.returns-then-is_empty-clause-answer
returns-then-is_empty-clause-answer g c =
    values_none c.args.self.now.pending.now.changes (g.S.Store.content c.args.self.now.store.now) (c.is_empty.ensures c.if-is_empty.true) c.args.keys.now c.stored_gets.result c.stored_gets.ensures.answer

pub returns-then-is_empty-clause-answers : goal.returns-then-is_empty-clause-answers
returns-then-is_empty-clause-answers g c =
    answered_none g.S.Store.answers c.args.self.now.pending.now.changes (c.is_empty.ensures c.if-is_empty.true) c.args.keys.now c.stored_gets.result c.stored_gets.ensures.answers
