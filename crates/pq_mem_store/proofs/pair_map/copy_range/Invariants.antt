use Rattle.std.proofs.Common.{◌≡◌, ◌++◌, map, take}
use Rattle.std.specs.Iterator.Adapters.{take_source, take_count}
use Rattle.pq_store.specs.Content.{entry}
use Rattle.pq_mem_store.specs.Split.{pair_bytes}
use Rattle.pq_mem_store.proofs.pair_map.copy_range.Given as goal

abbrev pub invariant-loop-key : goal.invariant-loop-key
invariant-loop-key l = map entry l.copies ++ take (take_count l.key-iterator) (map (pair_bytes (λ k. k.items) (λ v. v.items)) (take_source l.key-iterator))
    ≡ map entry l.fn.copies ++ take l.fn.limit (map (pair_bytes (λ k. k.items) (λ v. v.items)) l.fn.range)
