use Rattle.std.proofs.Common.{◌∙◌, IsTrue, take, ap, sym, subst}
use Rattle.std.proofs.lemmas.List.{take_rest}
use Rattle.pq_store.specs.Content.{is_rising}
use Rattle.pq_mem_store.specs.Runs.{IsPlace}
use Rattle.pq_mem_store.proofs.Places.{rises_from, within_part}
use Rattle.pq_mem_store.proofs.block.between.Goals as goal

pub place-requires-2 : goal.place-requires-2
place-requires-2 c = subst (λ ps. IsTrue (is_rising ps)) (sym (take_rest c.args.held.now c.place.result.at))
    (rises_from c.args.held.now c.args.low.now c.requires c.place.result.at)

pub returns : goal.returns
returns c =
    let rest = take_rest c.args.held.now c.place.result.at in
    ap (take c.place-2.result.at) rest
    ∙ within_part c.args.held.now c.args.low.now c.args.high.now c.place.result.at c.place-2.result.at c.place.ensures.at
    (subst (λ ps. IsPlace ps c.args.high.now c.place-2.result.at) rest c.place-2.ensures.at)
