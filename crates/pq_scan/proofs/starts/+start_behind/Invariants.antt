use Rattle.std.proofs.Common.{length}
use Rattle.pq_scan.proofs.starts.+start_behind.Given as goal

abbrev pub decreases-start_behind : goal.decreases-start_behind
decreases-start_behind l = length l.dirs.now
