use Rattle.std.proofs.Common.{◌≡◌, take, map}
use Rattle.pq_index_keep.specs.Checking.{cond_of_def}
use Rattle.pq_index_keep.proofs.conditions.conds_of.Given as goal

abbrev pub invariant-loop-cond : goal.invariant-loop-cond
invariant-loop-cond l = l.made ≡ map (cond_of_def l.table) (take l.cond-index l.conds)
