use Rattle.std.proofs.Common.{◌≤◌, ◌+◌, length, take, sum_by, ap, arith, rules, ◌∙◌}
use Rattle.pq_store.specs.Rounds.{test_entries}
use Rattle.pq_store.proofs.Rounds.{affords_rest, pays_then, held_here}
use Rattle.pq_parts.specs.Spans.{spans, joined_content}
use Rattle.pq_parts.proofs.InRow.{part_long, sum_on, sum_within, none_on, held_on, none_behind, held_behind}
use Rattle.pq_parts.proofs.part_store.PartStoreStore.first_held.Goals as goal

pub returns-then-branch-clause-answer : goal.returns-then-branch-clause-answer
returns-then-branch-clause-answer g c =
    let h = c.loop-made.invariant in
    held_here (joined_content (spans g.S.Store.content c.args.self.now.parts)) (joined_content (spans g.S.Store.content c.loop-made.self.parts)) c.args.tests.now c.loop-made.made c.index-tests-made.result c.in_ok-holds.field-0
    c.loop-made-test.true c.index-tests-made.is h.same h.none c.in_ok-holds.ensures.answer c.if-branch.true

pub row_held-requires-clause-share : goal.row_held-requires-clause-share
row_held-requires-clause-share g c =
    let tests = c.args.tests.now in
    let made = c.loop-made.made in
    let end = made + c.in-Some.row.len in
    let low : made ≤ end = omega arith in
    let high : end ≤ length tests = search rules in
    let long = part_long tests made end low high in
    affords_rest _ _ _ _ made (sum_by test_entries (take made tests)) _ _ _ _ c.loop-made.invariant.paid c.requires.share
    (omega (arith, long, low, high)) (sum_within tests made end low high)

pub returns-in_err-held-clause-paid : goal.returns-in_err-held-clause-paid
returns-in_err-held-clause-paid g c =
    let tests = c.args.tests.now in
    let made = c.loop-made.made in
    let end = made + c.in-Some.row.len in
    let low : made ≤ end = omega arith in
    let high : end ≤ length tests = search rules in
    let long = part_long tests made end low high in
    pays_then _ _ _ _ _ _ made (sum_by test_entries (take made tests)) _ _ _ _ c.loop-made.invariant.paid c.row_held.ensures.paid
    (omega (arith, long, low, high)) (sum_within tests made end low high)

pub returns-in-Some-held-clause-answer : goal.returns-in-Some-held-clause-answer
returns-in-Some-held-clause-answer g c =
    let h = c.loop-made.invariant in
    let tests = c.args.tests.now in
    let made = c.loop-made.made in
    let end = made + c.in-Some.row.len in
    let low : made ≤ end = omega arith in
    let high : end ≤ length tests = search rules in
    held_on (joined_content (spans g.S.Store.content c.args.self.now.parts)) tests made end low high h.none c.in-Some-held.place (rw (c.in-Some-held.is, h.same) at c.in_ok-held.ensures.answer)

pub returns-in-Some-held-clause-paid : goal.returns-in-Some-held-clause-paid
returns-in-Some-held-clause-paid g c =
    let tests = c.args.tests.now in
    let made = c.loop-made.made in
    let end = made + c.in-Some.row.len in
    let low : made ≤ end = omega arith in
    let high : end ≤ length tests = search rules in
    let long = part_long tests made end low high in
    pays_then _ _ _ _ _ _ made (sum_by test_entries (take made tests)) _ _ _ _ c.loop-made.invariant.paid c.row_held.ensures.paid
    (omega (arith, long, low, high)) (sum_within tests made end low high)

pub returns-in-Some-held-clause-counted : goal.returns-in-Some-held-clause-counted
returns-in-Some-held-clause-counted g c =
    let h = c.loop-made.invariant in
    let tests = c.args.tests.now in
    let made = c.loop-made.made in
    let end = made + c.in-Some.row.len in
    let low : made ≤ end = omega arith in
    let high : end ≤ length tests = search rules in
    held_behind (joined_content (spans g.S.Store.content c.args.self.now.parts)) c.args.meter.now c.loop-made.meter c.row_held.new.meter tests made end low high h.counted c.in-Some-held.place
    (rw c.in-Some-held.is at c.in_ok-held.ensures.within) (rw (c.in-Some-held.is, h.same) at c.in_ok-held.ensures.counted)

pub loop-made-preserved : goal.loop-made-preserved
loop-made-preserved g c =
    let h = c.loop-made.invariant in
    let one = c.in_ok-held.ensures in
    let tests = c.args.tests.now in
    let made = c.loop-made.made in
    let end = made + c.in-Some.row.len in
    let low : made ≤ end = omega arith in
    let high : end ≤ length tests = search rules in
    let long = part_long tests made end low high in
    let sums = sum_on test_entries tests made end low high in
    let told = joined_content (spans g.S.Store.content c.args.self.now.parts) in
    record {
      few = high;
      none = none_on told tests made end low high h.none c.in_ok-held.held c.in_default-held.is (rw h.same at one.answer);
      same = ap joined_content one.asks.same ∙ h.same;
      later = omega (arith, h.later, one.asks.cause.later);
      paid = pays_then _ _ _ _ _ _ made (sum_by test_entries (take made tests)) _ _ _ _ h.paid one.paid (omega (arith, long, low)) (omega (arith, sums));
      counted = none_behind told c.args.meter.now c.loop-made.meter c.row_held.new.meter tests made end low high h.counted c.in_ok-held.held c.in_default-held.is (rw h.same at one.counted);
    }
