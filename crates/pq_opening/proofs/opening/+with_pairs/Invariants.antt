use Rattle.std.proofs.Common.{length}
use Rattle.pq_opening.proofs.opening.+with_pairs.Given as goal

abbrev pub decreases-with_pairs : goal.decreases-with_pairs
decreases-with_pairs l = length l.pairs.now
