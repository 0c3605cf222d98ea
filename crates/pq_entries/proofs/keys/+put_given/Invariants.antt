use Rattle.std.proofs.Common.{length}
use Rattle.pq_entries.proofs.keys.+put_given.Given as goal

abbrev pub decreases-put_given : goal.decreases-put_given
decreases-put_given l = length l.parts.now
