use Rattle.std.proofs.Common.{◌≡◌, ◌++◌, length}
use Rattle.std.specs.BinaryHeap.{heap_items}
use Rattle.pq_scan.specs.Merging.{IsMerge, merged_lists}
use Rattle.pq_scan.proofs.merge.Heads.first.Given as goal

abbrev pub invariant-loop : goal.invariant-loop
invariant-loop g l = IsMerge (heap_items l.self.heap) × (merged_lists (heap_items l.fn.self.heap) ≡ l.first ++ merged_lists (heap_items l.self.heap)) × (length l.first ≡ l.counter)
