-- What calls that see pending changes spend.
use Rattle.std.proofs.Common.{◌≤◌, ℕ}
use Rattle.pq_base.specs.declared.number.Bound.{Bound}
use Rattle.pq_store.specs.declared.store.Store.{Ghosts}
use Rattle.pq_pending.specs.declared.calls.PendingCalls.{PendingCalls}
use Rattle.pq_pending.proofs.Steps.{uses_within}
use Rattle.pq_index_keep.specs.Spending.{Spends}

pub spends_within : {S L : Type 0} (s : Ghosts S L) (before after : PendingCalls S L) (bound more : Bound) (most : ℕ) → Spends s before after bound most → bound.ops ≤ more.ops → bound.entries ≤ more.entries → Spends s before after more most
spends_within s before after bound more most spent ops entries = record { uses = uses_within s.content s.faults before after _ _ _ _ spent.uses ops entries; rounds = spent.rounds }
