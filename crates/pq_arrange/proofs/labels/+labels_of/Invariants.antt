use Rattle.std.proofs.Common.{length}
use Rattle.pq_arrange.proofs.labels.+labels_of.Given as goal

abbrev pub decreases-labels_of : goal.decreases-labels_of
decreases-labels_of l = length l.preds.now
