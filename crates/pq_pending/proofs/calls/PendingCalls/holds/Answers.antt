use Rattle.std.proofs.Common.{rules, ℕ, subst}
use Rattle.pq_pending.specs.Calls.{Uses}
use Rattle.pq_pending.proofs.Held.{entries_are}
use Rattle.pq_pending.proofs.calls.PendingCalls.holds.Goals as goal

pub returns-in_err-count-in-Full-clause-asks : goal.returns-in_err-count-in-Full-clause-asks
returns-in_err-count-in-Full-clause-asks g c = record {
  uses =
      subst (λ (e : ℕ). Uses g.S.Store.content g.S.Store.faults c.args.self.now c.count.new.self 1 e)
      (entries_are c.args.self.now.pending.now.changes c.args.test.now c.in-Full.ends c.in-Full.n c.items-in-Full.result.now c.items-in-Full-2.result.now c.in-Full.is c.items-in-Full.ensures c.items-in-Full-2.ensures)
      c.count.ensures.asks.uses;
  rounds = search rules;
  cause = search rules;
  answered = search rules;
}

pub returns-in_ok-count-in-Full-clause-asks : goal.returns-in_ok-count-in-Full-clause-asks
returns-in_ok-count-in-Full-clause-asks g c = record {
  uses =
      subst (λ (e : ℕ). Uses g.S.Store.content g.S.Store.faults c.args.self.now c.count.new.self 1 e)
      (entries_are c.args.self.now.pending.now.changes c.args.test.now c.in-Full.ends c.in-Full.n c.items-in-Full.result.now c.items-in-Full-2.result.now c.in-Full.is c.items-in-Full.ensures c.items-in-Full-2.ensures)
      c.count.ensures.asks.uses;
  rounds = search rules;
  cause = search rules;
  answered = search rules;
}
