use Rattle.std.proofs.Common.{◌≡◌, take}
use Rattle.pq_index_keep.specs.Checking.{cond_names}
use Rattle.pq_index_keep.proofs.conditions.cond_names.Given as goal

abbrev pub invariant-loop-cond : goal.invariant-loop-cond
invariant-loop-cond l = l.names ≡ cond_names (take l.cond-index l.conds)
