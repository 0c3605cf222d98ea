use Rattle.std.proofs.Common.{◌<◌, ◌++◌, ◌∙◌, map, take, drop, length, ap, sym, arith}
use Rattle.std.proofs.lemmas.List.{take_all, take-append-drop}
use Rattle.pq_store.specs.Content.{entry}
use Rattle.pq_mem_store.proofs.Seats.{range_start, range_push, range_full}
use Rattle.pq_mem_store.proofs.Places.{take_next}
use Rattle.pq_mem_store.proofs.block.copy_first.Goals as goal

pub loop-pair-init : goal.loop-pair-init
loop-pair-init c = record {
  few = c.requires;
  so_far = range_start c.args.most c.args.copies.now c.requires;
}

pub loop-pair-preserved : goal.loop-pair-preserved
loop-pair-preserved c =
    let within : c.loop-pair.pair-index < length c.args.held.now = omega arith in
    let pushed = range_push c.args.most (map entry c.args.copies.now) (take c.loop-pair.pair-index c.args.held.now) _ c.loop-pair.copies c.push.new.self c.in_ok-pair_of.field-0 c.pair-item.result
    c.loop-pair.invariant.so_far c.loop-pair.invariant.few (λ full. c.if-items-most.false (ap length c.items.ensures ∙ full)) c.in_ok-push.ensures.ok
    (c.in_ok-pair_of.ensures ∙ ap (λ key. (key, c.value.result.now)) c.key.ensures ∙ ap (λ value. (c.pair-item.result.0, value)) c.value.ensures)
    (take_next c.args.held.now c.loop-pair.pair-index c.pair-item.result within c.pair-item.is) in
    record { few = pushed.0; so_far = pushed.1 }

pub returns-then-items-most : goal.returns-then-items-most
returns-then-items-most c = record {
  few = c.loop-pair.invariant.few;
  ok = range_full c.args.most (map entry c.args.copies.now) (take c.loop-pair.pair-index c.args.held.now) (drop c.loop-pair.pair-index c.args.held.now) c.args.held.now c.loop-pair.copies
      c.loop-pair.invariant.so_far (ap length (sym c.items.ensures) ∙ c.if-items-most.true) (sym (take-append-drop c.loop-pair.pair-index c.args.held.now));
}

pub returns : goal.returns
returns c = record {
  few = c.loop-pair.invariant.few;
  ok = c.loop-pair.invariant.so_far ∙ ap (λ ps. take c.args.most (map entry c.args.copies.now ++ ps)) (take_all c.loop-pair.pair-index c.args.held.now c.loop-pair-test.false);
}
