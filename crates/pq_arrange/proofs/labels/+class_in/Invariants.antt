use Rattle.std.proofs.Common.{length}
use Rattle.pq_arrange.proofs.labels.+class_in.Given as goal

abbrev pub decreases-class_in : goal.decreases-class_in
decreases-class_in l = length l.labels.now
