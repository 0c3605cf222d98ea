use Rattle.std.proofs.Common.{◌≡◌, take}
use Rattle.pq_base.specs.Columns.{set_of}
use Rattle.pq_index_keep.specs.Tested.{set_columns}
use Rattle.pq_index_keep.proofs.write.Scope.of.Given as goal

abbrev pub invariant-loop-set : goal.invariant-loop-set
invariant-loop-set l = l.columns ≡ set_of (set_columns (take l.set-index l.sets))
