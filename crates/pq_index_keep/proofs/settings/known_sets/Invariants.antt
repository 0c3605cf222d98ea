use Rattle.std.proofs.Common.{take}
use Rattle.pq_def_read.specs.Known.{AreSettings}
use Rattle.pq_index_keep.proofs.settings.known_sets.Given as goal

abbrev pub invariant-loop-set : goal.invariant-loop-set
invariant-loop-set l = AreSettings (take l.set-index l.sets)
