use Rattle.std.proofs.Common.{length}
use Rattle.pq_arrange.proofs.closing.+push_classes.Given as goal

abbrev pub decreases-push_classes : goal.decreases-push_classes
decreases-push_classes l = length l.preds.now
