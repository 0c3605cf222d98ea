use Rattle.std.proofs.Common.{◌≡◌, ◌++◌, drop}
use Rattle.pq_key_code.specs.KeyCode.{code_of}
use Rattle.pq_plan.specs.Answer.{values_at}
use Rattle.pq_local_ops.proofs.position.code_at.Given as goal

abbrev pub invariant-loop-i : goal.invariant-loop-i
invariant-loop-i l = l.code ++ code_of (drop l.i l.dirs) (values_at l.combo (drop l.i l.cols)) ≡ code_of l.dirs (values_at l.combo l.cols)
