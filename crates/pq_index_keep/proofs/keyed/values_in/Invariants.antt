use Rattle.std.proofs.Common.{◌≡◌, take}
use Rattle.pq_index_keep.specs.Checking.{values_in}
use Rattle.pq_index_keep.proofs.keyed.values_in.Given as goal

abbrev pub invariant-loop-assign : goal.invariant-loop-assign
invariant-loop-assign l = l.values ≡ values_in (take l.assign-index l.assigns)
