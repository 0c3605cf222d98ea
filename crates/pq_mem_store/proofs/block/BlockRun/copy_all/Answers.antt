use Rattle.std.proofs.Common.{◌<◌, ◌++◌, ◌∷◌, [], ◌∙◌, map, take, length, ap, sym, append_assoc, arith}
use Rattle.std.proofs.lemmas.List.{append-nil, map-append, take_all}
use Rattle.pq_store.specs.Content.{entry}
use Rattle.pq_mem_store.proofs.Places.{take_next}
use Rattle.pq_mem_store.proofs.block.BlockRun.copy_all.Goals as goal

pub loop-pair-init : goal.loop-pair-init
loop-pair-init c = sym (append-nil (map entry c.args.copies.now))

pub loop-pair-preserved : goal.loop-pair-preserved
loop-pair-preserved c =
    let within : c.loop-pair.pair-index < length c.deref-pair-items.result.now = omega arith in
    let copy = c.in_ok-pair_of.ensures ∙ ap (λ key. (key, c.value.result.now)) c.key.ensures ∙ ap (λ value. (c.pair-item.result.0, value)) c.value.ensures in
    ap (map entry) c.in_ok-push.ensures.ok ∙ map-append entry c.loop-pair.copies (c.in_ok-pair_of.field-0 ∷ [])
    ∙ ap (λ p. map entry c.loop-pair.copies ++ p ∷ []) copy
    ∙ ap (λ ps. ps ++ c.pair-item.result ∷ []) c.loop-pair.invariant
    ∙ append_assoc (map entry c.args.copies.now) (take c.loop-pair.pair-index c.deref-pair-items.result.now) (c.pair-item.result ∷ [])
    ∙ ap (λ ps. map entry c.args.copies.now ++ ps) (sym (take_next c.deref-pair-items.result.now c.loop-pair.pair-index c.pair-item.result within c.pair-item.is))

pub returns : goal.returns
returns c = c.loop-pair.invariant ∙ ap (λ ps. map entry c.args.copies.now ++ ps)
    (take_all c.loop-pair.pair-index c.deref-pair-items.result.now c.loop-pair-test.false ∙ c.deref-pair-items.ensures.value ∙ c.self.view_is)
