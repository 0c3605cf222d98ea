use Rattle.std.proofs.Common.{◌≡◌, ◌∙◌, ap, map, drop, ◌∷◌, ◌+◌, ◌<◌, length, arith, add-one, drop-cons}
use Rattle.std.proofs.lemmas.Grind.{common_steps}
use Rattle.std.specs.declared.cmp.Ordering.TheVariants.{Less}
use Rattle.pq_store.specs.Content.{entry, is_rising, key_cmp}
use Rattle.pq_store.proofs.Places.{rising_more}
use Rattle.pq_store.proofs.part_check.rise.Goals as goal

pub loop-pair-preserved : goal.loop-pair-preserved
loop-pair-preserved c =
    let less : key_cmp c.loop-pair.last.now.key c.pair-item.result.key ≡ Less = grind (arith, common_steps, c.cmp.ensures, c.is_lt.ensures, c.items.ensures, c.items-in-loop-pair.ensures) in
    let within : c.loop-pair.pair-index < length c.in-Some.rest.now = omega arith in
    let cut : drop c.loop-pair.pair-index c.in-Some.rest.now ≡ c.pair-item.result ∷ drop (c.loop-pair.pair-index + 1) c.in-Some.rest.now =
    drop-cons c.in-Some.rest.now c.loop-pair.pair-index c.pair-item.result within ∙ rw (add-one, ← c.pair-item.is) in
    c.loop-pair.invariant ∙ ap (λ pairs. is_rising (map entry (c.loop-pair.last.now ∷ pairs))) cut ∙ rising_more (entry c.loop-pair.last.now) (entry c.pair-item.result) _ less
