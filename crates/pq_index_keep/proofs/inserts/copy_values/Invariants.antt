use Rattle.std.proofs.Common.{◌≡◌, take}
use Rattle.pq_index_keep.proofs.inserts.copy_values.Given as goal

abbrev pub invariant-loop-value : goal.invariant-loop-value
invariant-loop-value l = l.row ≡ take l.value-index l.values
