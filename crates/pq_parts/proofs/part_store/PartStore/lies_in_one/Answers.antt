use Rattle.std.proofs.Common.{◌+◌, List, ℕ, drop, IsTrue, ap, sym, subst, ◌∙◌}
use Rattle.pq_parts.specs.Spans.{first_from, part_has_key}
use Rattle.pq_parts.specs.Asking.{is_end_within}
use Rattle.pq_parts.proofs.Ranged.{lies_there}
use Rattle.pq_parts.proofs.Spread.{spread_there}
use Rattle.pq_parts.proofs.part_store.PartStore.lies_in_one.Goals as goal

pub returns-clause-lies : goal.returns-clause-lies
returns-clause-lies g c = λ content lies.
    let parts = c.args.self.now.parts in
    let at = c.place-at.result in
    let has : IsTrue (part_has_key parts at c.args.ends.now.low) = subst (λ (key : List ℕ). IsTrue (part_has_key parts at key)) c.items.ensures c.place-at.ensures.has in
    lies_there content parts at c.args.ends.now has (sym (c.ends_before.ensures ∙ ap (λ high. is_end_within high (first_from (drop (at + 1) parts))) c.items-2.ensures) ∙ lies)

pub returns-clause-spread : goal.returns-clause-spread
returns-clause-spread g c = λ content over.
    let parts = c.args.self.now.parts in
    let at = c.place-at.result in
    let has : IsTrue (part_has_key parts at c.args.ends.now.low) = subst (λ (key : List ℕ). IsTrue (part_has_key parts at key)) c.items.ensures c.place-at.ensures.has in
    spread_there content parts c.place-at.ensures.placed at c.args.ends.now has (sym (c.ends_before.ensures ∙ ap (λ high. is_end_within high (first_from (drop (at + 1) parts))) c.items-2.ensures) ∙ over)
