use Rattle.std.proofs.Common.{◌≡◌, ◌≤◌, take}
use Rattle.pq_index_keep.specs.Bounds.{tested_limits}
use Rattle.pq_index_keep.proofs.bound.tested_limits.Given as goal

abbrev pub invariant-loop-limit : goal.invariant-loop-limit
invariant-loop-limit l = (l.count ≡ tested_limits l.scope (take l.limit-index l.limits)) × (l.count ≤ l.limit-index)
