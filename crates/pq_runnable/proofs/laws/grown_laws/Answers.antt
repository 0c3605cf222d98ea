use Rattle.pq_runnable.proofs.Same.{same_candidates}
use Rattle.pq_runnable.proofs.Staying.{query_resolved, query_planned, query_chosen}
use Rattle.pq_runnable.proofs.laws.grown_laws.Goals as goal

pub returns : goal.returns
returns c = record {
  resolved = query_resolved;
  planned = query_planned;
  chosen = query_chosen;
  candidates = λ before now query grown resolved. same_candidates before now query grown resolved;
}
