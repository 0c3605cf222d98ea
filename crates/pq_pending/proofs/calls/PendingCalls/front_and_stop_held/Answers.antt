use Rattle.std.proofs.Common.{length, refl}
use Rattle.pq_pending.specs.Calls.{seen}
use Rattle.pq_pending.proofs.Held.{found_stop}
use Rattle.pq_pending.proofs.calls.PendingCalls.front_and_stop_held.Goals as goal

pub returns-then-branch-clause-answer : goal.returns-then-branch-clause-answer
returns-then-branch-clause-answer g c =
    found_stop (seen g.S.Store.content c.args.self.now) (seen g.S.Store.content c.front_held.new.self) c.args.front.now c.args.stop.now c.front_held.ensures.asks.uses.reads.same c.in_ok-at.field-0 c.in_ok-holds.field-0 (length c.args.front.now) refl c.in_default.is
    c.in_ok-at.ensures.answer c.in_ok-holds.ensures.answer c.if-branch.true
