use Rattle.std.proofs.Common.{◌≡◌, ◌∙◌, ◌++◌, ap, map, drop, ◌∷◌, ◌+◌, ◌<◌, length, arith, add-one, drop-cons}
use Rattle.std.specs.FinMap.{insert}
use Rattle.pq_store.specs.Content.{entry}
use Rattle.pq_mem_store.specs.Split.{first_late}
use Rattle.pq_mem_store.proofs.Split.{none_held}
use Rattle.pq_store.proofs.Uses.{filled_more}
use Rattle.pq_mem_store.proofs.mem.MemStore.of_rising.Goals as goal

pub loop-pair-init : goal.loop-pair-init
loop-pair-init c = ap (λ pairs. pairs ++ map entry c.args.pairs.now) (none_held first_late c.new-store.result c.new-store.ensures)

pub loop-pair-preserved : goal.loop-pair-preserved
loop-pair-preserved c =
    let within : c.loop-pair.pair-index < length c.args.pairs.now = omega arith in
    let cut : drop c.loop-pair.pair-index c.args.pairs.now ≡ c.pair-item.result ∷ drop (c.loop-pair.pair-index + 1) c.args.pairs.now =
    drop-cons c.args.pairs.now c.loop-pair.pair-index c.pair-item.result within ∙ rw (add-one, ← c.pair-item.is) in
    filled_more c.loop-pair.store c.set.new.self c.pair-item.result (drop c.loop-pair.pair-index c.args.pairs.now) (drop (c.loop-pair.pair-index + 1) c.args.pairs.now) c.args.pairs.now c.requires
    cut c.loop-pair.invariant
    (c.in_ok-set.ensures.ok ∙ ap (λ key. insert c.loop-pair.store key c.items-in-loop-pair.result.now) c.items.ensures ∙ ap (insert c.loop-pair.store c.pair-item.result.key) c.items-in-loop-pair.ensures)
