use Rattle.pq_mem_store.proofs.PairMaps.{bytes_of}
use Rattle.pq_mem_store.proofs.Hashed.{hashed_removed}
use Rattle.pq_mem_store.proofs.hashed_pairs.HashedPairs.take_out.Goals as goal

pub returns : goal.returns
returns c = rw (← c.self.view_is)
    (hashed_removed bytes_of bytes_of c.self.inside.values.entries c.remove.new.self.entries c.args.key.now c.remove.ensures.updates.1 c.remove.ensures.updates.3)
