use Rattle.std.proofs.Common.{length}
use Rattle.pq_entries.proofs.keys.+given.Given as goal

abbrev pub decreases-given : goal.decreases-given
decreases-given l = length l.parts.now
