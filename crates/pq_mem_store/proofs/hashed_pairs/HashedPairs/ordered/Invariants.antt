use Rattle.std.proofs.Common.{◌≡◌, map}
use Rattle.pq_mem_store.specs.Split.{pair_bytes, poured}
use Rattle.pq_mem_store.proofs.hashed_pairs.HashedPairs.ordered.Given as goal

abbrev pub invariant-loop-key : goal.invariant-loop-key
invariant-loop-key l = poured l.ordered (map (pair_bytes (λ k. k.items) (λ v. v.items)) l.key-iterator) ≡ l.self
