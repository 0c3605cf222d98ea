use Rattle.std.proofs.Common.{◌≡◌, ◌≤◌, ◌-◌, [], length, take, drop, sum_by, None, refl, ◌∙◌, ap, arith, rules}
use Rattle.std.proofs.lemmas.List.{length-take-le, take_all}
use Rattle.pq_store.specs.Rounds.{test_entries}
use Rattle.pq_store.proofs.Rounds.{affords_rest, pays_then, pays_nothing, nothing_counted}
use Rattle.pq_host.specs.Ends.HasAskedAll.{Begun}
use Rattle.pq_host.specs.Ends.HasFoundHeld.{NoneHeld, OneHeld}
use Rattle.pq_host.proofs.Broken.{tests_still, fails_still, unexchanged, not_ok}
use Rattle.pq_host.proofs.Asking.{part_long, parts_of, sum_on, asked_behind, failed_on, on_error}
use Rattle.pq_host.proofs.Testing.{none_behind, held_behind, sum_within}
use Rattle.pq_host.proofs.host_store.HostStoreStore.first_held.Goals as goal

pub loop-begin-init : goal.loop-begin-init
loop-begin-init g c = record {
  few = omega arith;
  later = omega arith;
  paid = pays_nothing c.args.allowance.now c.args.meter.now;
  counted = nothing_counted None c.args.meter.now;
  asked = Begun;
  node = refl;
  rounds = refl;
}

pub paid_place-requires-clause-share : goal.paid_place-requires-clause-share
paid_place-requires-clause-share g c =
    let tests = c.args.tests.now in
    let begin = c.loop-begin.begin in
    let end = c.min-end.result in
    let low : begin ≤ end = search rules in
    let high : end ≤ length tests = search rules in
    let long = part_long tests begin end low high in
    affords_rest _ _ _ _ begin (sum_by test_entries (take begin tests)) _ _ _ _ c.loop-begin.invariant.paid c.requires.share
    (omega (arith, long, low, high)) (sum_within tests begin end low high)

pub returns-in_err-held-clause-paid : goal.returns-in_err-held-clause-paid
returns-in_err-held-clause-paid g c =
    let tests = c.args.tests.now in
    let begin = c.loop-begin.begin in
    let end = c.min-end.result in
    let low : begin ≤ end = search rules in
    let high : end ≤ length tests = search rules in
    let long = part_long tests begin end low high in
    pays_then _ _ _ _ _ _ begin (sum_by test_entries (take begin tests)) _ _ _ _ c.loop-begin.invariant.paid c.paid_place.ensures.paid
    (omega (arith, long, low, high)) (sum_within tests begin end low high)

pub returns-in_err-held-clause-failed : goal.returns-in_err-held-clause-failed
returns-in_err-held-clause-failed g c =
    let h = c.loop-begin.invariant in
    let tests = c.args.tests.now in
    let begin = c.loop-begin.begin in
    let end = c.min-end.result in
    let low : begin ≤ end = search rules in
    let high : end ≤ length tests = search rules in
    on_error c.from_residual.result
    (failed_on _ _ _ tests _ _ _ [] begin end low high (rw c.at_once-most.ensures at h.asked) (rw h.node at c.in_err-held.ensures.failed))

pub returns-in-Some-clause-paid : goal.returns-in-Some-clause-paid
returns-in-Some-clause-paid g c =
    let tests = c.args.tests.now in
    let begin = c.loop-begin.begin in
    let end = c.min-end.result in
    let low : begin ≤ end = search rules in
    let high : end ≤ length tests = search rules in
    let long = part_long tests begin end low high in
    pays_then _ _ _ _ _ _ begin (sum_by test_entries (take begin tests)) _ _ _ _ c.loop-begin.invariant.paid c.paid_place.ensures.paid
    (omega (arith, long, low, high)) (sum_within tests begin end low high)

pub returns-in-Some-clause-counted : goal.returns-in-Some-clause-counted
returns-in-Some-clause-counted g c =
    let tests = c.args.tests.now in
    let begin = c.loop-begin.begin in
    let end = c.min-end.result in
    let low : begin ≤ end = search rules in
    let high : end ≤ length tests = search rules in
    held_behind _ _ _ tests begin end low high c.loop-begin.invariant.counted c.in-Some.place (rw c.in-Some.is at c.in_ok-held.ensures.within) (rw c.in-Some.is at c.in_ok-held.ensures.counted)

pub returns-in-Some-clause-exchanged : goal.returns-in-Some-clause-exchanged
returns-in-Some-clause-exchanged g c =
    let h = c.loop-begin.invariant in
    let tests = c.args.tests.now in
    let begin = c.loop-begin.begin in
    let end = c.min-end.result in
    let low : begin ≤ end = search rules in
    let high : end ≤ length tests = search rules in
    let long = part_long tests begin end low high in
    let within : end - begin ≤ c.at_once-most.result = search rules in
    let few : length (take (end - begin) (drop begin tests)) ≤ c.at_once-most.result = omega (arith, long, within) in
    let front = length-take-le begin tests h.few in
    OneHeld c.loop-begin.self.link (take begin tests) (take (end - begin) (drop begin tests)) (drop end tests) c.in-Some.place _ (parts_of tests begin end low high)
    (rw c.at_once-most.ensures at h.asked) (rw c.at_once-most.ensures at few) (rw (c.in-Some.is, h.node) at c.in_ok-held.ensures.exchanged) (omega (arith, front))

pub loop-begin-preserved : goal.loop-begin-preserved
loop-begin-preserved g c =
    let h = c.loop-begin.invariant in
    let one = c.in_ok-held.ensures in
    let tests = c.args.tests.now in
    let begin = c.loop-begin.begin in
    let end = c.min-end.result in
    let low : begin ≤ end = search rules in
    let high : end ≤ length tests = search rules in
    let few : end - begin ≤ c.at_once-most.result = search rules in
    let long = part_long tests begin end low high in
    let sums = sum_on test_entries tests begin end low high in
    let none : c.in_ok-held.held ≡ None = c.in_default.is in
    record {
      few = high;
      later = omega (arith, h.later, one.cause.later);
      paid = pays_then _ _ _ _ _ _ begin (sum_by test_entries (take begin tests)) _ _ _ _ h.paid one.paid (omega (arith, long, low)) (omega (arith, sums));
      counted = none_behind _ _ _ tests begin end low high h.counted (rw none at one.counted);
      asked = asked_behind c.at_once-most.result _ tests _ _ _ begin end low high few h.asked (rw (none, h.node) at one.exchanged);
      node = one.same.node ∙ h.node;
      rounds = one.same.rounds ∙ h.rounds;
    }

pub returns-clause-exchanged : goal.returns-clause-exchanged
returns-clause-exchanged g c =
    let h = c.loop-begin.invariant in
    let tests = c.args.tests.now in
    let all : length tests ≤ c.loop-begin.begin = search rules in
    NoneHeld (rw (take_all c.loop-begin.begin tests all, c.at_once-most.ensures) at h.asked)

pub returns-in_err-held-clause-broken : goal.returns-in_err-held-clause-broken
returns-in_err-held-clause-broken g c = λ some broken.
    let first = tests_still _ _ _ _ _ c.loop-begin.invariant.asked broken in
    (fails_still _ _ _ c.in_err-held.ensures.failed (ap (λ l. l.unanswered) first.0 ∙ broken) ∙ first.0, not_ok c.from_residual.result c.from_residual.ensures.0)

pub returns-in-Some-clause-broken : goal.returns-in-Some-clause-broken
returns-in-Some-clause-broken g c = λ some broken.
    let first = tests_still _ _ _ _ _ c.loop-begin.invariant.asked broken in
    let asked = c.in_ok-held.ensures.exchanged in
    absurd (unexchanged _ _ _ _ asked.3 (ap (λ l. l.unanswered) first.0 ∙ broken))

pub returns-clause-broken : goal.returns-clause-broken
returns-clause-broken g c = λ some broken.
    let h = c.loop-begin.invariant in
    let tests = c.args.tests.now in
    let all : length tests ≤ c.loop-begin.begin = search rules in
    let asked = rw (take_all c.loop-begin.begin tests all) at h.asked in
    let none = (tests_still _ _ _ _ _ asked broken).1 in
    absurd (omega (arith, some, none))
