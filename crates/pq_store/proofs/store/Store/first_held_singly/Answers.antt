use Rattle.pq_store.proofs.Rounds.{held_here}
use Rattle.pq_store.proofs.store.Store.first_held_singly.Goals as goal

pub returns-then-branch-clause-answer : goal.returns-then-branch-clause-answer
returns-then-branch-clause-answer g c =
    held_here (g.Self.Store.content c.args.self.now) (g.Self.Store.content c.loop-i.self) c.args.tests.now c.loop-i.i c.index-tests-i.result c.in_ok-holds.field-0
    c.loop-i-test.true c.index-tests-i.is c.loop-i.invariant.same c.loop-i.invariant.none c.in_ok-holds.ensures.answer c.if-branch.true
