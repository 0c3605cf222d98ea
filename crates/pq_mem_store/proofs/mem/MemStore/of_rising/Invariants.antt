use Rattle.std.proofs.Common.{◌≡◌, ◌++◌, map, drop}
use Rattle.std.specs.FinMap.{entries}
use Rattle.pq_store.specs.Content.{entry}
use Rattle.pq_mem_store.proofs.mem.MemStore.of_rising.Given as goal

abbrev pub invariant-loop-pair : goal.invariant-loop-pair
invariant-loop-pair l = entries l.store ++ map entry (drop l.pair-index l.fn.pairs) ≡ map entry l.fn.pairs
