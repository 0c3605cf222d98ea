use Rattle.std.proofs.Common.{◌++◌, ◌∙◌, ap, sym, map}
use Rattle.pq_store.specs.Content.{entry}
use Rattle.pq_store.proofs.Views.{seen_entries}
use Rattle.pq_mem_store.proofs.PairMaps.{bytes_of, pairs_bytes}
use Rattle.pq_mem_store.proofs.pair_map.PairMap.copy_all.Goals as goal

pub loop-key-init : goal.loop-key-init
loop-key-init c = rw (← c.self.view_is) (ap (λ pairs. map entry c.args.copies.now ++ pairs)
    (ap (pairs_bytes bytes_of bytes_of) c.into_iter-key-iterator.ensures.into_iter_gives.0 ∙ sym (seen_entries (pairs_bytes bytes_of bytes_of c.self.inside.values.entries) c.self.invariant)))
