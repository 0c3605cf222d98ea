use Rattle.std.proofs.Common.{length}
use Rattle.pq_local_ops.proofs.order.+compare_at.Given as goal

abbrev pub decreases-compare_at : goal.decreases-compare_at
decreases-compare_at l = length l.cols.now
