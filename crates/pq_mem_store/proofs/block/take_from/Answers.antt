use Rattle.std.proofs.Common.{◌∙◌, ap, sym, subst, drop}
use Rattle.pq_mem_store.specs.Runs.{begins_with, IsPlace}
use Rattle.pq_mem_store.proofs.Places.{others_found, others_absent}
use Rattle.pq_mem_store.proofs.block.take_from.Goals as goal

pub returns-then-place : goal.returns-then-place
returns-then-place c =
    let at = c.place-place.result.at in
    let place = subst (λ ps. IsPlace ps c.args.key.now at) c.as_slice.ensures.value c.place-place.ensures.at in
    let begins = ap (λ ps. begins_with c.args.key.now (drop at ps)) (sym c.as_slice.ensures.value) ∙ sym c.place-place.ensures.is_held ∙ c.if-place.true in
    c.remove.ensures.items ∙ others_found c.args.held.now.items c.args.key.now c.requires at place begins

pub returns-else-place : goal.returns-else-place
returns-else-place c =
    let at = c.place-place.result.at in
    let place = subst (λ ps. IsPlace ps c.args.key.now at) c.as_slice.ensures.value c.place-place.ensures.at in
    let begins = ap (λ ps. begins_with c.args.key.now (drop at ps)) (sym c.as_slice.ensures.value) ∙ sym c.place-place.ensures.is_held ∙ c.if-place.false in
    others_absent c.args.held.now.items c.args.key.now c.requires at place begins
