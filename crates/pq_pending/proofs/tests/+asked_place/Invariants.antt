use Rattle.std.proofs.Common.{length}
use Rattle.pq_pending.proofs.tests.+asked_place.Given as goal

abbrev pub decreases-asked_place : goal.decreases-asked_place
decreases-asked_place l = length l.tests.now
