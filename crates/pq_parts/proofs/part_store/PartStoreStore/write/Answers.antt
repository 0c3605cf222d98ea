use Rattle.std.proofs.Common.{◌≡◌, inl, inr, ap}
use Rattle.pq_store.specs.Content.{admits}
use Rattle.pq_parts.specs.Spans.{joined_content}
use Rattle.pq_parts.proofs.Nodes.{placed_set, firsts_set, same_set, cause_set, answer_set, content_set, done_by}
use Rattle.pq_parts.proofs.part_store.PartStoreStore.write.Goals as goal

pub invariant_of-self : goal.invariant_of-self
invariant_of-self g c = placed_set c.index_mut.result.now c.write.new.node c.self.inside.parts.items c.place-at.result c.index_mut.ensures.value c.self.invariant

pub returns-clause-answer : goal.returns-clause-answer
returns-clause-answer g c =
    rw (← c.self.view_is) (answer_set g.S.Store.content c.self.inside.parts.items c.self.invariant c.place-at.result c.args.key.now
    (rw (← c.self.view_is) at c.place-at.ensures.has) (rw (← c.self.view_is) at c.place-at.ensures.within) c.index_mut.result.now c.index_mut.ensures.value
    (λ done held. done ≡ admits c.args.guard held) c.write.result c.write.ensures.answer)

pub returns-clause-content : goal.returns-clause-content
returns-clause-content g c =
    rw (← c.self.view_is) (done_by _ _ c.write.result (content_set g.S.Store.content c.self.inside.parts.items c.self.invariant c.place-at.result c.args.key.now
    (rw (← c.self.view_is) at c.place-at.ensures.has) (rw (← c.self.view_is) at c.place-at.ensures.within) c.index_mut.result.now c.index_mut.ensures.value
    c.args.guard _ c.write.new.node) c.write.ensures.content)

pub returns-clause-no_memory : goal.returns-clause-no_memory
returns-clause-no_memory g c = λ is.
    rw (← c.self.view_is) (ap joined_content (same_set c.index_mut.result.now c.write.new.node g.S.Store.content c.self.inside.parts.items c.place-at.result c.index_mut.ensures.value (c.write.ensures.no_memory is)))

pub returns-clause-failed : goal.returns-clause-failed
returns-clause-failed g c = λ is.
    rw (← c.self.view_is) (elim (c.write.ensures.failed is) [
      | inl same ↦ inl (ap joined_content (same_set c.index_mut.result.now c.write.new.node g.S.Store.content c.self.inside.parts.items c.place-at.result c.index_mut.ensures.value same))
      | inr made ↦ inr (content_set g.S.Store.content c.self.inside.parts.items c.self.invariant c.place-at.result c.args.key.now
          (rw (← c.self.view_is) at c.place-at.ensures.has) (rw (← c.self.view_is) at c.place-at.ensures.within) c.index_mut.result.now c.index_mut.ensures.value
          c.args.guard _ c.write.new.node made)
    ])

pub returns-clause-cause : goal.returns-clause-cause
returns-clause-cause g c =
    rw (← c.self.view_is) (cause_set c.index_mut.result.now c.write.new.node g.S.Store.faults c.self.inside.parts.items c.place-at.result (rw (← c.self.view_is) at c.place-at.ensures.within) c.index_mut.ensures.value c.write.result c.write.ensures.cause)

pub returns-clause-places : goal.returns-clause-places
returns-clause-places g c =
    rw (← c.self.view_is) (firsts_set c.index_mut.result.now c.write.new.node c.self.inside.parts.items c.place-at.result c.index_mut.ensures.value)
