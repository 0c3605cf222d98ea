use Rattle.std.proofs.Common.{take}
use Rattle.pq_def_read.specs.Known.{AreKnown}
use Rattle.pq_index_keep.proofs.keyed.known_assigns.Given as goal

abbrev pub invariant-loop-assign : goal.invariant-loop-assign
invariant-loop-assign l = AreKnown (take l.assign-index l.assigns)
