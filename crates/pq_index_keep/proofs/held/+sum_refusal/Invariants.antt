use Rattle.std.proofs.Common.{length}
use Rattle.pq_index_keep.proofs.held.+sum_refusal.Given as goal

abbrev pub decreases-sum_refusal : goal.decreases-sum_refusal
decreases-sum_refusal l = length l.sets.now
