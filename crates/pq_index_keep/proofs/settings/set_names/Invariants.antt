use Rattle.std.proofs.Common.{◌≡◌, take}
use Rattle.pq_index_keep.specs.Checking.{set_names}
use Rattle.pq_index_keep.proofs.settings.set_names.Given as goal

abbrev pub invariant-loop-set : goal.invariant-loop-set
invariant-loop-set l = l.names ≡ set_names (take l.set-index l.sets)
