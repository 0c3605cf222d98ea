use Rattle.std.proofs.Common.{length}
use Rattle.pq_running.proofs.beginning.+misfit.Given as goal

abbrev pub decreases-misfit : goal.decreases-misfit
decreases-misfit l = length l.types.now
