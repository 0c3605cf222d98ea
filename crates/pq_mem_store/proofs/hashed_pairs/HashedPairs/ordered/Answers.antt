use Rattle.std.proofs.Common.{◌∙◌}
use Rattle.pq_mem_store.specs.Split.{poured}
use Rattle.pq_mem_store.proofs.PairMaps.{bytes_of, pairs_bytes}
use Rattle.pq_mem_store.proofs.Hashed.{poured_all}
use Rattle.pq_mem_store.proofs.hashed_pairs.HashedPairs.ordered.Goals as goal

pub loop-key-init : goal.loop-key-init
loop-key-init c =
    let gives = c.into_iter-key-iterator.ensures.into_iter_gives in
    rw (← c.self.view_is)
    ((λ i. poured (c.new-ordered.ensures i) (pairs_bytes bytes_of bytes_of (gives.0 i))) ∙ poured_all bytes_of bytes_of c.self.inside.values.entries gives.4)
