use Rattle.std.proofs.Common.{◌≡◌, map, take}
use Rattle.pq_plan.specs.Answer.{selected_values}
use Rattle.pq_local_ops.proofs.position.project.Given as goal

abbrev pub invariant-loop-combo : goal.invariant-loop-combo
invariant-loop-combo l = l.rows ≡ map (selected_values l.query) (take l.combo-index l.combos)
