use Rattle.std.proofs.Common.{◌≡◌, ◌≤◌, ◌*◌, ◌^◌, take}
use Rattle.pq_index_keep.specs.Bounds.{referring_count}
use Rattle.pq_index_keep.proofs.bound.referring.Given as goal

abbrev pub invariant-loop-table : goal.invariant-loop-table
invariant-loop-table l = (l.sum ≡ referring_count (take l.table-index l.tables) l.number) × (l.sum ≤ 2 ^ 64 * l.table-index)
