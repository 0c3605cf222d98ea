use Rattle.std.proofs.Common.{length}
use Rattle.pq_batch.proofs.bound.+changes_from.Given as goal

abbrev pub decreases-changes_from : goal.decreases-changes_from
decreases-changes_from l = length l.writes.now
