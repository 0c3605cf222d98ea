use Rattle.std.proofs.Common.{length}
use Rattle.pq_index_keep.proofs.children.+naming_place.Given as goal

abbrev pub decreases-naming_place : goal.decreases-naming_place
decreases-naming_place l = length l.foreign.now
