use Rattle.std.proofs.Common.{length}
use Rattle.pq_index_keep.proofs.settings.+check_sets.Given as goal

abbrev pub decreases-check_sets : goal.decreases-check_sets
decreases-check_sets l = length l.sets.now
