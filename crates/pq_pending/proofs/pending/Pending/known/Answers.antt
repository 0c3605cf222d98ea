use Rattle.std.proofs.Common.{subst}
use Rattle.pq_pending.specs.Pending.{Ahead, RemovesAtMost}
use Rattle.pq_pending.proofs.pending.Pending.known.Goals as goal

pub returns-clause-thin : goal.returns-clause-thin
returns-clause-thin c = subst (λ (ahead : Ahead). RemovesAtMost ahead.removers ahead.changes) c.self.view_is c.self.invariant.1
