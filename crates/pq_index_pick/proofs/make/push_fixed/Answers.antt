use Rattle.std.proofs.Common.{arith}
use Rattle.std.proofs.lemmas.Grind.{common_steps}
use Rattle.pq_base.specs.Columns.{has_col}
use Rattle.pq_index_pick.proofs.Columns.{columns_more}
use Rattle.pq_index_pick.proofs.make.push_fixed.Goals as goal
use Rattle.pq_index_pick.proofs.make.push_fixed.Goals.{then-has+in_ok-push, else-has}

pub loop-col-preserved : goal.loop-col-preserved
loop-col-preserved c = rw (columns_more (has_col c.args.fixed) c.loop-col.col) (elim c.if-has.branch [ then-has+in_ok-push w ↦ grind (arith, common_steps) | else-has w ↦ grind (arith, common_steps) ])
