use Rattle.std.proofs.Common.{◌∙◌, Some, IsTrue, ap, sym, subst}
use Rattle.std.specs.FinMap.{find}
use Rattle.pq_store.specs.Content.{key_cmp, is_rising}
use Rattle.pq_mem_store.proofs.Places.{find_found, find_absent}
use Rattle.pq_mem_store.proofs.block.BlockRun.find.Goals as goal

pub returns-then-place : goal.returns-then-place
returns-then-place c =
    let up = subst (λ ps. IsTrue (is_rising ps)) (sym c.as_slice-held.ensures.value) c.self.invariant in
    ap (λ value. Some value) c.value.ensures ∙ ap (λ pair. Some pair.1) c.index-held-place.is
    ∙ sym (find_found c.as_slice-held.result.now c.args.key.now up c.place-place.result.at c.place-place.ensures.at c.index-held-place.result (sym c.place-place.ensures.is_held ∙ c.if-place.true))
    ∙ ap (find key_cmp c.args.key.now) (c.as_slice-held.ensures.value ∙ c.self.view_is)

pub returns : goal.returns
returns c =
    let up = subst (λ ps. IsTrue (is_rising ps)) (sym c.as_slice-held.ensures.value) c.self.invariant in
    sym (find_absent c.as_slice-held.result.now c.args.key.now up c.place-place.result.at c.place-place.ensures.at (sym c.place-place.ensures.is_held ∙ c.if-place.false))
    ∙ ap (find key_cmp c.args.key.now) (c.as_slice-held.ensures.value ∙ c.self.view_is)
