use Rattle.std.proofs.Common.{◌≡◌, ◌∙◌, ap, drop, [], ◌∷◌, ◌+◌, ◌<◌, length, arith, add-one, drop-cons}
use Rattle.std.proofs.lemmas.Grind.{common_steps}
use Rattle.std.specs.declared.cmp.Ordering.TheVariants.{Less}
use Rattle.pq_store.specs.Content.{key_cmp}
use Rattle.pq_store.proofs.Places.{rising_more}
use Rattle.pq_parts.specs.Spans.{are_rising, firsts}
use Rattle.pq_parts.proofs.placing.rise.Goals as goal

pub loop-part-preserved : goal.loop-part-preserved
loop-part-preserved g c =
    let less : key_cmp c.loop-part.last.now.from c.part-item.result.from ≡ Less = grind (arith, common_steps, c.cmp.ensures, c.is_lt.ensures, c.items.ensures, c.items-in-loop-part.ensures) in
    let within : c.loop-part.part-index < length c.in-Some.rest.now = omega arith in
    let cut : drop c.loop-part.part-index c.in-Some.rest.now ≡ c.part-item.result ∷ drop (c.loop-part.part-index + 1) c.in-Some.rest.now =
    drop-cons c.in-Some.rest.now c.loop-part.part-index c.part-item.result within ∙ rw (add-one, ← c.part-item.is) in
    c.loop-part.invariant ∙ ap (λ parts. are_rising (c.loop-part.last.now ∷ parts)) cut ∙ rising_more (c.loop-part.last.now.from, []) (c.part-item.result.from, []) (firsts (drop (c.loop-part.part-index + 1) c.in-Some.rest.now)) less
