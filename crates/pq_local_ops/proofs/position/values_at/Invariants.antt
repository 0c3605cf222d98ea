use Rattle.std.proofs.Common.{◌≡◌, take}
use Rattle.pq_plan.specs.Answer.{values_at}
use Rattle.pq_local_ops.proofs.position.values_at.Given as goal

abbrev pub invariant-loop-col : goal.invariant-loop-col
invariant-loop-col l = l.values ≡ values_at l.combo (take l.col-index l.cols)
