use Rattle.std.proofs.Common.{◌≡◌, ◌≤◌, take}
use Rattle.pq_index_keep.specs.Bounds.{tested_foreign}
use Rattle.pq_index_keep.proofs.bound.tested_foreign.Given as goal

abbrev pub invariant-loop-key : goal.invariant-loop-key
invariant-loop-key l = (l.count ≡ tested_foreign l.scope (take l.key-index l.foreign)) × (l.count ≤ l.key-index)
