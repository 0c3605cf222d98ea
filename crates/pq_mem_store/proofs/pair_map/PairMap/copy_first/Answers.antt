use Rattle.pq_mem_store.proofs.HeldPairs.{runs_forward}
use Rattle.pq_mem_store.proofs.PairMaps.{bytes_of, seen_part}
use Rattle.pq_mem_store.proofs.pair_map.PairMap.copy_first.Goals as goal

pub range-requires : goal.range-requires
range-requires c = runs_forward c.args.low.now c.args.high.now _ _ c.in_ok-bounds.ensures.start c.in_ok-bounds.ensures.end

pub returns : goal.returns
returns c =
    let is = seen_part bytes_of bytes_of c.self.inside.values.entries c.self.invariant c.args.low.now c.args.high.now c.in_ok-bounds.bounds.start c.in_ok-bounds.bounds.end c.range.result
    c.in_ok-bounds.ensures.start c.in_ok-bounds.ensures.end (c.range.ensures.between tt) in
    rw (← c.self.view_is, ← is) c.copy_range.ensures
