use Rattle.std.proofs.Common.{◌≡◌, take}
use Rattle.pq_index_keep.specs.Checking.{names_in}
use Rattle.pq_index_keep.proofs.keyed.names_in.Given as goal

abbrev pub invariant-loop-assign : goal.invariant-loop-assign
invariant-loop-assign l = l.names ≡ names_in (take l.assign-index l.assigns)
