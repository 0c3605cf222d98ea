use Rattle.std.proofs.Common.{◌≡◌, ap}
use Rattle.pq_parts.specs.Spans.{joined_content}
use Rattle.pq_parts.proofs.Nodes.{placed_set, firsts_set, same_set, cause_set, answer_set}
use Rattle.pq_parts.proofs.part_store.PartStoreStore.get.Goals as goal

pub invariant_of-self : goal.invariant_of-self
invariant_of-self g c = placed_set c.index_mut.result.now c.get-found.new.node c.self.inside.parts.items c.place-at.result c.index_mut.ensures.value c.self.invariant

pub returns-clause-answer : goal.returns-clause-answer
returns-clause-answer g c =
    rw (← c.self.view_is) (answer_set g.S.Store.content c.self.inside.parts.items c.self.invariant c.place-at.result c.args.key.now
    (rw (← c.self.view_is) at c.place-at.ensures.has) (rw (← c.self.view_is) at c.place-at.ensures.within) c.index_mut.result.now c.index_mut.ensures.value (λ found held. found ≡ held) c.get-found.result c.get-found.ensures.answer)

pub returns-clause-same : goal.returns-clause-same
returns-clause-same g c =
    rw (← c.self.view_is) (ap joined_content (same_set c.index_mut.result.now c.get-found.new.node g.S.Store.content c.self.inside.parts.items c.place-at.result c.index_mut.ensures.value c.get-found.ensures.asks.same))

pub returns-clause-cause : goal.returns-clause-cause
returns-clause-cause g c =
    rw (← c.self.view_is) (cause_set c.index_mut.result.now c.get-found.new.node g.S.Store.faults c.self.inside.parts.items c.place-at.result (rw (← c.self.view_is) at c.place-at.ensures.within) c.index_mut.ensures.value c.get-found.result c.get-found.ensures.asks.cause)

pub returns-clause-places : goal.returns-clause-places
returns-clause-places g c =
    rw (← c.self.view_is) (firsts_set c.index_mut.result.now c.get-found.new.node c.self.inside.parts.items c.place-at.result c.index_mut.ensures.value)
