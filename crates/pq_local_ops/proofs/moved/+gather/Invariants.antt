use Rattle.std.proofs.Common.{length}
use Rattle.pq_local_ops.proofs.moved.+gather.Given as goal

abbrev pub decreases-gather : goal.decreases-gather
decreases-gather l = length l.cols.now
