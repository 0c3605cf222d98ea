use Rattle.std.proofs.Common.{length}
use Rattle.pq_index_keep.proofs.limits.+room_place.Given as goal

abbrev pub decreases-room_place : goal.decreases-room_place
decreases-room_place l = length l.limits.now
