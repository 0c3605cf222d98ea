use Rattle.std.proofs.Common.{length}
use Rattle.pq_scan.proofs.passing.+passes_each.Given as goal

abbrev pub decreases-passes_each : goal.decreases-passes_each
decreases-passes_each l = length l.preds.now
