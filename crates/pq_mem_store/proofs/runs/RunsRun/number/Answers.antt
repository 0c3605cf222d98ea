use Rattle.std.proofs.Common.{◌<◌, ◌∙◌, ap, sym, filter, take, drop, length, min, arith}
use Rattle.std.specs.List.{flat_map}
use Rattle.std.specs.Ordering.{is_le}
use Rattle.std.proofs.lemmas.List.{take_all}
use Rattle.pq_store.specs.Content.{is_within, key_cmp}
use Rattle.pq_mem_store.proofs.Seats.{have_read, count_more, count_full, within_more, within_rest, within_whole, within_done}
use Rattle.pq_mem_store.proofs.runs.RunsRun.number.Goals as goal

pub key-requires : goal.key-requires
key-requires g c =
    let within : c.loop-run.run-index < length c.from_seat-run-items.result.now = omega arith in
    have_read g.R.Begins.pairs c.from_seat-run-items.result.now c.loop-run.run-index c.run-item.result c.from_seat-run-items.ensures.have within c.run-item.is

pub loop-run-init : goal.loop-run-init
loop-run-init g c = omega arith

pub loop-run-preserved : goal.loop-run-preserved
loop-run-preserved g c =
    let within : c.loop-run.run-index < length c.from_seat-run-items.result.now = omega arith in
    count_more c.args.cap c.loop-run.n c.number-n.result _ _ _ c.loop-run.invariant c.number-n.ensures
    (within_more g.R.Begins.pairs c.args.low.now c.args.high.now c.from_seat-run-items.result.now c.loop-run.run-index c.run-item.result within c.run-item.is)

pub returns-then-n-cap : goal.returns-then-n-cap
returns-then-n-cap g c =
    let pairs = g.R.Begins.pairs in
    let runs = c.from_seat-run-items.result.now in
    count_full c.args.cap c.loop-run.n (filter (is_within c.args.low.now c.args.high.now) (flat_map pairs (take c.loop-run.run-index runs)))
    (filter (is_within c.args.low.now c.args.high.now) (flat_map pairs (drop c.loop-run.run-index runs))) (filter (is_within c.args.low.now c.args.high.now) c.args.self.now)
    c.loop-run.invariant c.if-n-cap.true
    (within_whole pairs c.args.low.now c.args.high.now c.self.inside.runs.items c.as_slice.result.now runs c.args.self.now c.self.view_is c.as_slice.ensures.value (c.from_seat-run-items.ensures.same c.args.high.now)
    ∙ within_rest pairs c.args.low.now c.args.high.now runs c.loop-run.run-index)

pub returns-then-is_le : goal.returns-then-is_le
returns-then-is_le g c =
    let pairs = g.R.Begins.pairs in
    let runs = c.from_seat-run-items.result.now in
    let within : c.loop-run.run-index < length runs = omega arith in
    c.loop-run.invariant ∙ ap (λ ps. min c.args.cap (length ps)) (sym
    (within_whole pairs c.args.low.now c.args.high.now c.self.inside.runs.items c.as_slice.result.now runs c.args.self.now c.self.view_is c.as_slice.ensures.value (c.from_seat-run-items.ensures.same c.args.high.now)
    ∙ within_done pairs c.args.low.now c.args.high.now runs c.loop-run.run-index c.run-item.result c.from_seat-run-items.ensures.have c.from_seat-run-items.ensures.rising within c.run-item.is
    (ap (λ k. is_le (key_cmp c.args.high.now k)) (sym c.key.ensures) ∙ ap is_le (sym c.cmp.ensures) ∙ sym c.is_le.ensures ∙ c.if-is_le.true)))

pub returns : goal.returns
returns g c = c.loop-run.invariant
    ∙ ap (λ rs. min c.args.cap (length (filter (is_within c.args.low.now c.args.high.now) (flat_map g.R.Begins.pairs rs))))
    (take_all c.loop-run.run-index c.from_seat-run-items.result.now c.loop-run-test.false)
    ∙ ap (λ ps. min c.args.cap (length ps)) (
    c.from_seat-run-items.ensures.same c.args.high.now
    ∙ ap (λ rs. filter (is_within c.args.low.now c.args.high.now) (flat_map g.R.Begins.pairs rs)) c.as_slice.ensures.value
    ∙ ap (filter (is_within c.args.low.now c.args.high.now)) c.self.view_is)
