use Rattle.pq_parts.proofs.Nodes.{placed_moved, asks_moved}
use Rattle.pq_parts.proofs.Gather.{ranges_here}
use Rattle.pq_parts.proofs.part_store.PartStore.ask_ranges.Goals as goal

pub invariant_of-self : goal.invariant_of-self
invariant_of-self g c = placed_moved c.index_mut.result.now c.put_pairs.new.self c.put_pairs.ensures.asks.from c.self.inside.parts.items c.args.at c.index_mut.ensures.value c.self.invariant

pub returns-clause-put : goal.returns-clause-put
returns-clause-put g c =
    rw (← c.self.view_is) (ranges_here g.S.Store.content c.self.inside.parts.items c.self.invariant c.args.at (rw (← c.self.view_is) at c.requires.within) c.index_mut.result.now c.index_mut.ensures.value
    c.args.until.now (rw (← c.self.view_is) at c.requires.end) c.args.limit c.args.asks.now _ _ c.put_pairs.result c.put_pairs.ensures.put)

pub returns-clause-asks : goal.returns-clause-asks
returns-clause-asks g c =
    rw (← c.self.view_is) (asks_moved g.S.Store c.index_mut.result.now c.put_pairs.new.self c.self.inside.parts.items c.args.at c.index_mut.ensures.value (rw (← c.self.view_is) at c.requires.within) c.put_pairs.result c.put_pairs.ensures.asks)
