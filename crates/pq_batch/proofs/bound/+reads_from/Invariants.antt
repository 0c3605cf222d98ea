use Rattle.std.proofs.Common.{length}
use Rattle.pq_batch.proofs.bound.+reads_from.Given as goal

abbrev pub decreases-reads_from : goal.decreases-reads_from
decreases-reads_from l = length l.writes.now
