use Rattle.std.proofs.Common.{take}
use Rattle.pq_def_read.specs.Known.{AreConditions}
use Rattle.pq_index_keep.proofs.conditions.known_conds.Given as goal

abbrev pub invariant-loop-cond : goal.invariant-loop-cond
invariant-loop-cond l = AreConditions (take l.cond-index l.conds)
