use Rattle.std.proofs.Common.{length}
use Rattle.pq_index_keep.proofs.parents.+parent_place.Given as goal

abbrev pub decreases-parent_place : goal.decreases-parent_place
decreases-parent_place l = length l.foreign.now
