use Rattle.std.proofs.Common.{length}
use Rattle.pq_arrange.proofs.placing.Placing.+least_next.Given as goal

abbrev pub decreases-least_next : goal.decreases-least_next
decreases-least_next l = length l.rest.now
