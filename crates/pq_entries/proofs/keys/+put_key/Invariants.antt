use Rattle.std.proofs.Common.{length}
use Rattle.pq_entries.proofs.keys.+put_key.Given as goal

abbrev pub decreases-put_key : goal.decreases-put_key
decreases-put_key l = length l.key.now
