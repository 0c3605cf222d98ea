use Rattle.std.proofs.Common.{length}
use Rattle.pq_plan.specs.Nodes.{nodes}
use Rattle.pq_exec.proofs.tree.+run.Given as goal

abbrev pub decreases-run : goal.decreases-run
decreases-run g l = length (nodes l.tree.now)
