use Rattle.pq_parts.proofs.Nodes.{placed_moved, asks_moved}
use Rattle.pq_parts.proofs.Gather.{gets_here}
use Rattle.pq_parts.proofs.part_store.PartStore.ask_gets.Goals as goal

pub invariant_of-self : goal.invariant_of-self
invariant_of-self g c = placed_moved c.index_mut.result.now c.gets.new.self c.gets.ensures.asks.from c.self.inside.parts.items c.args.at c.index_mut.ensures.value c.self.invariant

pub returns-clause-put : goal.returns-clause-put
returns-clause-put g c =
    rw (← c.self.view_is) (gets_here g.S.Store.content c.self.inside.parts.items c.self.invariant c.args.at (rw (← c.self.view_is) at c.requires.within) c.index_mut.result.now c.index_mut.ensures.value
    c.args.until.now (rw (← c.self.view_is) at c.requires.end) c.args.keys.now _ _ c.gets.result c.gets.ensures.put)

pub returns-clause-asks : goal.returns-clause-asks
returns-clause-asks g c =
    rw (← c.self.view_is) (asks_moved g.S.Store c.index_mut.result.now c.gets.new.self c.self.inside.parts.items c.args.at c.index_mut.ensures.value (rw (← c.self.view_is) at c.requires.within) c.gets.result c.gets.ensures.asks)
