use Rattle.std.proofs.Common.{◌≡◌, take}
use Rattle.pq_plan.proofs.combo.Combo.copy.Given as goal

abbrev pub invariant-loop-row : goal.invariant-loop-row
invariant-loop-row l = l.copy ≡ take l.row-index l.row-items
