use Rattle.std.proofs.Common.{length}
use Rattle.pq_arrange.proofs.placing.Placing.+first_bound.Given as goal

abbrev pub decreases-first_bound : goal.decreases-first_bound
decreases-first_bound l = length l.rest.now
