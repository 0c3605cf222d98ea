use Rattle.std.proofs.Common.{◌≡◌, ◌++◌, map}
use Rattle.std.specs.FinMap.{entries}
use Rattle.pq_store.specs.Content.{entry}
use Rattle.pq_mem_store.specs.Split.{pair_bytes}
use Rattle.pq_mem_store.proofs.pair_map.PairMap.copy_all.Given as goal

abbrev pub invariant-loop-key : goal.invariant-loop-key
invariant-loop-key l = map entry l.copies ++ map (pair_bytes (λ k. k.items) (λ v. v.items)) l.key-iterator ≡ map entry l.fn.copies ++ entries l.self
