use Rattle.std.proofs.Common.{length}
use Rattle.pq_local_ops.proofs.order.+are_ordered.Given as goal

abbrev pub decreases-are_ordered : goal.decreases-are_ordered
decreases-are_ordered l = length l.combos.now
