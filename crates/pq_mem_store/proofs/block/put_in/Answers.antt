use Rattle.std.proofs.Common.{◌∙◌, ap, sym, subst, drop}
use Rattle.pq_mem_store.specs.Runs.{begins_with, IsPlace}
use Rattle.pq_mem_store.proofs.Places.{put_found, put_absent}
use Rattle.pq_mem_store.proofs.block.put_in.Goals as goal

pub returns-then-place : goal.returns-then-place
returns-then-place c =
    let at = c.place-place.result.at in
    let place = subst (λ ps. IsPlace ps c.args.pair.0 at) c.as_slice.ensures.value (subst (λ key. IsPlace c.as_slice.result.now key at) c.key.ensures c.place-place.ensures.at) in
    let begins = ap (λ key. begins_with key (drop at c.args.held.now.items)) (sym c.key.ensures) ∙ ap (λ ps. begins_with c.key.result.now (drop at ps)) (sym c.as_slice.ensures.value)
    ∙ sym c.place-place.ensures.is_held ∙ c.if-place.true in
    record { ok = put_found c.args.held.now.items c.args.pair.0 c.requires at place c.args.pair.1 begins; err = tt }

pub returns : goal.returns
returns c =
    let at = c.place-place.result.at in
    let place = subst (λ ps. IsPlace ps c.args.pair.0 at) c.as_slice.ensures.value (subst (λ key. IsPlace c.as_slice.result.now key at) c.key.ensures c.place-place.ensures.at) in
    let begins = ap (λ key. begins_with key (drop at c.args.held.now.items)) (sym c.key.ensures) ∙ ap (λ ps. begins_with c.key.result.now (drop at ps)) (sym c.as_slice.ensures.value)
    ∙ sym c.place-place.ensures.is_held ∙ c.if-place.false in
    record { ok = c.in_ok-insert.ensures.items ∙ put_absent c.args.held.now.items c.args.pair.0 c.requires at place c.args.pair.1 begins; err = tt }
