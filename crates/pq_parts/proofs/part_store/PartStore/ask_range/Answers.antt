use Rattle.pq_parts.proofs.Nodes.{placed_moved, asks_moved}
use Rattle.pq_parts.proofs.Gather.{piece_here}
use Rattle.pq_parts.proofs.part_store.PartStore.ask_range.Goals as goal

pub invariant_of-self : goal.invariant_of-self
invariant_of-self g c = placed_moved c.index_mut.result.now c.range.new.self c.range.ensures.asks.from c.self.inside.parts.items c.args.at c.index_mut.ensures.value c.self.invariant

pub returns-clause-piece : goal.returns-clause-piece
returns-clause-piece g c =
    rw (← c.self.view_is) (piece_here g.S.Store.content c.self.inside.parts.items c.self.invariant c.args.at (rw (← c.self.view_is) at c.requires.within) c.index_mut.result.now c.index_mut.ensures.value
    c.args.until.now (rw (← c.self.view_is) at c.requires.end) c.args.low.now c.args.high.now c.args.limit _ _ c.range.result c.range.ensures.tally c.range.ensures.part c.range.ensures.answer)

pub returns-clause-asks : goal.returns-clause-asks
returns-clause-asks g c =
    rw (← c.self.view_is) (asks_moved g.S.Store c.index_mut.result.now c.range.new.self c.self.inside.parts.items c.args.at c.index_mut.ensures.value (rw (← c.self.view_is) at c.requires.within) c.range.result c.range.ensures.asks)
