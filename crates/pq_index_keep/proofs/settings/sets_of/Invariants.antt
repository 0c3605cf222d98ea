use Rattle.std.proofs.Common.{◌≡◌, take, map}
use Rattle.pq_index_keep.specs.Checking.{set_of_def}
use Rattle.pq_index_keep.proofs.settings.sets_of.Given as goal

abbrev pub invariant-loop-set : goal.invariant-loop-set
invariant-loop-set l = l.made ≡ map (set_of_def l.table) (take l.set-index l.sets)
