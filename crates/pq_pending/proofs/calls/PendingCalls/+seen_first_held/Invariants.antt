use Rattle.std.proofs.Common.{length}
use Rattle.pq_pending.proofs.calls.PendingCalls.+seen_first_held.Given as goal

abbrev pub decreases-seen_first_held : goal.decreases-seen_first_held
decreases-seen_first_held g l = length l.tests.now
