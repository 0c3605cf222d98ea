use Rattle.std.proofs.Common.{length}
use Rattle.pq_index_keep.proofs.references.+child_refusal_at.Given as goal

abbrev pub decreases-child_refusal_at : goal.decreases-child_refusal_at
decreases-child_refusal_at l = length l.tables.now
