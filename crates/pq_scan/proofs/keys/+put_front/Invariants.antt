use Rattle.std.proofs.Common.{length}
use Rattle.pq_scan.proofs.keys.+put_front.Given as goal

abbrev pub decreases-put_front : goal.decreases-put_front
decreases-put_front l = length l.dirs.now
