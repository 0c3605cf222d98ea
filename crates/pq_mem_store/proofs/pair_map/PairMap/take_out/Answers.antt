use Rattle.pq_mem_store.proofs.PairMaps.{bytes_of, seen_less, up_less}
use Rattle.pq_mem_store.proofs.pair_map.PairMap.take_out.Goals as goal

pub invariant_of-self : goal.invariant_of-self
invariant_of-self c = up_less bytes_of bytes_of c.self.inside.values.entries c.self.invariant c.args.key.now c.remove.new.self.entries c.remove.ensures.entries

pub returns : goal.returns
returns c = rw (← c.self.view_is)
    (seen_less bytes_of bytes_of c.self.inside.values.entries c.self.invariant c.args.key.now c.remove.new.self.entries c.remove.ensures.entries)
