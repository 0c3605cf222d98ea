use Rattle.std.proofs.Common.{◌≡◌, ◌≤◌, take}
use Rattle.std.specs.List.{count_by}
use Rattle.pq_index_keep.specs.Tested.{touches_index}
use Rattle.pq_index_keep.proofs.bound.touched_indexes.Given as goal

abbrev pub invariant-loop-index : goal.invariant-loop-index
invariant-loop-index l = (l.count ≡ count_by (touches_index l.scope l.table) (take l.index-index l.index-items)) × (l.count ≤ l.index-index)
