use Rattle.pq_parts.proofs.Nodes.{placed_set, asks_set}
use Rattle.pq_parts.proofs.InRow.{row_answer, row_counted}
use Rattle.pq_parts.proofs.part_store.PartStore.row_held.Goals as goal

pub invariant_of-self : goal.invariant_of-self
invariant_of-self g c = placed_set c.index_mut.result.now c.first_held-held.new.node c.self.inside.parts.items c.args.at c.index_mut.ensures.value c.self.invariant

pub returns-clause-answer : goal.returns-clause-answer
returns-clause-answer g c =
    rw (← c.self.view_is) (row_answer g.S.Store.content c.self.inside.parts.items c.self.invariant c.args.at (rw (← c.self.view_is) at c.requires.place) c.index_mut.result.now c.index_mut.ensures.value
    c.args.tests.now (rw (← c.self.view_is) at c.requires.alone) c.first_held-held.result c.first_held-held.ensures.answer)

pub returns-clause-asks : goal.returns-clause-asks
returns-clause-asks g c =
    rw (← c.self.view_is) (asks_set g.S.Store c.index_mut.result.now c.first_held-held.new.node c.self.inside.parts.items c.args.at c.index_mut.ensures.value (rw (← c.self.view_is) at c.requires.place)
    c.first_held-held.result c.first_held-held.ensures.asks)

pub returns-clause-counted : goal.returns-clause-counted
returns-clause-counted g c =
    rw (← c.self.view_is) (row_counted g.S.Store.content c.self.inside.parts.items c.self.invariant c.args.at (rw (← c.self.view_is) at c.requires.place) c.index_mut.result.now c.index_mut.ensures.value
    c.args.tests.now (rw (← c.self.view_is) at c.requires.alone) c.args.allowance.now c.share_of-share.result c.first_held-held.new.share _ _ _ _ c.share_of-share.ensures c.first_held-held.ensures.paid
    c.args.meter.now c.pay_used.new.meter c.requires.some (rw c.used.ensures at c.pay_used.ensures.counted) c.first_held-held.result c.first_held-held.ensures.counted)
