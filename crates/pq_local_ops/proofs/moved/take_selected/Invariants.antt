use Rattle.std.proofs.Common.{◌≡◌, map}
use Rattle.pq_plan.specs.Answer.{selected_values}
use Rattle.pq_local_ops.proofs.moved.take_selected.Given as goal

abbrev pub invariant-loop-combo : goal.invariant-loop-combo
invariant-loop-combo l = l.rows ≡ map (selected_values l.query) l.yielded
