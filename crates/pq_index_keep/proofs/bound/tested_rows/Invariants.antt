use Rattle.std.proofs.Common.{◌≡◌, ◌≤◌, ◌*◌, ◌^◌, take}
use Rattle.std.specs.List.{sum_by}
use Rattle.pq_index_keep.specs.Bounds.{tested_n}
use Rattle.pq_index_keep.proofs.bound.tested_rows.Given as goal

abbrev pub invariant-loop-limit : goal.invariant-loop-limit
invariant-loop-limit l = (l.sum ≡ sum_by (tested_n l.scope) (take l.limit-index l.limits)) × (l.sum ≤ 2 ^ 32 * l.limit-index)
