use Rattle.std.proofs.Common.{length}
use Rattle.pq_scan.proofs.keys.+farthest_from.Given as goal

abbrev pub decreases-farthest_from : goal.decreases-farthest_from
decreases-farthest_from l = length l.preds.now
