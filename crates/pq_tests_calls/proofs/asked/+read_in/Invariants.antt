use Rattle.std.proofs.Common.{length}
use Rattle.pq_plan.specs.Nodes.{nodes}
use Rattle.pq_tests_calls.proofs.asked.+read_in.Given as goal

abbrev pub decreases-read_in : goal.decreases-read_in
decreases-read_in l = length (nodes l.tree.now)
