use Rattle.std.proofs.Common.{◌≡◌, ◌++◌, map, take}
use Rattle.pq_store.specs.Content.{entry}
use Rattle.pq_mem_store.proofs.block.BlockRun.copy_all.Given as goal

abbrev pub invariant-loop-pair : goal.invariant-loop-pair
invariant-loop-pair l = map entry l.copies ≡ map entry l.fn.copies ++ take l.pair-index l.pair-items
