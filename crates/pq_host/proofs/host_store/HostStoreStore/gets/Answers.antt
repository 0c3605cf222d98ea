use Rattle.std.proofs.Common.{◌≤◌, ◌-◌, ◌++◌, length, refl, ◌∙◌, ap, arith, rules}
use Rattle.std.proofs.lemmas.List.{take_all}
use Rattle.pq_store.specs.Rounds.{IsValueAnswered, one_if_some}
use Rattle.pq_store.proofs.Rounds.{pays_then, pays_nothing, nothing_raised}
use Rattle.pq_host.specs.Ends.{any_answer}
use Rattle.pq_host.specs.Ends.HasAskedAll.{Begun}
use Rattle.pq_host.proofs.Broken.{values_still, fails_still, not_ok}
use Rattle.pq_host.proofs.Asking.{part_long, longer, zip_on, counted_on, asked_on, failed_on, stopped_on, on_error}
use Rattle.pq_host.proofs.host_store.HostStoreStore.gets.Goals as goal

pub loop-alloc-init : goal.loop-alloc-init
loop-alloc-init g c = rw c.new-found.ensures (record {
  few = omega arith;
  zip = tt;
  later = omega arith;
  paid = pays_nothing c.args.allowance.now c.args.meter.now;
  counted = nothing_raised c.args.meter.now;
  asked = Begun;
  node = refl;
  rounds = refl;
})

pub returns-in_err-values-clause-failed : goal.returns-in_err-values-clause-failed
returns-in_err-values-clause-failed g c =
    let h = c.loop-alloc.invariant in
    let one = rw (c.items-begin.ensures, h.node) at c.in_err-values.ensures.failed in
    let found = c.loop-alloc.found in
    let end = c.min-end.result in
    let low : length found ≤ end = search rules in
    let high : end ≤ length c.args.keys.now = search rules in
    let done = rw c.at_once-most.ensures at h.asked in
    on_error c.from_residual.result (failed_on _ _ _ c.args.keys.now _ _ _ found _ end low high done one)

pub returns-in_err-append-clause-failed : goal.returns-in_err-append-clause-failed
returns-in_err-append-clause-failed g c =
    let h = c.loop-alloc.invariant in
    let all = c.args.keys.now in
    let found = c.loop-alloc.found in
    let values = c.in_ok-values.values in
    let end = c.min-end.result in
    let low : length found ≤ end = search rules in
    let high : end ≤ length all = search rules in
    let few : end - length found ≤ c.at_once-most.result = search rules in
    let answered = rw c.items-begin.ensures at c.in_ok-values.ensures.answered in
    let exchanged = rw (c.items-begin.ensures, h.node) at c.in_ok-values.ensures.exchanged in
    let done = asked_on (IsValueAnswered any_answer) all found values end low high answered c.at_once-most.result _ _ _ _ few h.asked exchanged in
    on_error c.from_residual-in_err-append.result (stopped_on _ _ _ all _ _ (found ++ values) (rw c.at_once-most.ensures at done))

pub loop-alloc-preserved : goal.loop-alloc-preserved
loop-alloc-preserved g c =
    let h = c.loop-alloc.invariant in
    let one = rw c.items-begin.ensures at c.in_ok-values.ensures in
    let all = c.args.keys.now in
    let found = c.loop-alloc.found in
    let values = c.in_ok-values.values in
    let end = c.min-end.result in
    let low : length found ≤ end = search rules in
    let high : end ≤ length all = search rules in
    let few : end - length found ≤ c.at_once-most.result = search rules in
    let long = longer (IsValueAnswered any_answer) all found values end low high one.answered in
    let asked = part_long all (length found) end low high in
    rw c.in_ok-append.ensures (record {
      few = omega (arith, long, high);
      zip = zip_on (IsValueAnswered any_answer) all found values end low high one.answered h.zip;
      later = omega (arith, h.later, one.cause.later);
      paid = pays_then _ _ _ _ _ _ (length found) (length found) _ _ _ _ h.paid one.paid (omega (arith, long, asked, low)) (omega (arith, long, asked, low));
      counted = counted_on (IsValueAnswered any_answer) all found values end low high one.answered one_if_some one_if_some _ _ _ h.counted one.counted;
      asked = asked_on (IsValueAnswered any_answer) all found values end low high one.answered c.at_once-most.result _ _ _ _ few h.asked (rw h.node at one.exchanged);
      node = one.same.node ∙ h.node;
      rounds = one.same.rounds ∙ h.rounds;
    })

pub returns-in_err-values-clause-broken : goal.returns-in_err-values-clause-broken
returns-in_err-values-clause-broken g c = λ some broken.
    let h = c.loop-alloc.invariant in
    let first = values_still _ _ _ _ _ _ h.asked broken in
    (fails_still _ _ _ c.in_err-values.ensures.failed (ap (λ l. l.unanswered) first.0 ∙ broken) ∙ first.0, not_ok c.from_residual.result c.from_residual.ensures.0)

pub returns-in_err-append-clause-broken : goal.returns-in_err-append-clause-broken
returns-in_err-append-clause-broken g c = λ some broken.
    let h = c.loop-alloc.invariant in
    let all = c.args.keys.now in
    let found = c.loop-alloc.found in
    let values = c.in_ok-values.values in
    let end = c.min-end.result in
    let low : length found ≤ end = search rules in
    let high : end ≤ length all = search rules in
    let few : end - length found ≤ c.at_once-most.result = search rules in
    let answered = rw c.items-begin.ensures at c.in_ok-values.ensures.answered in
    let exchanged = rw (c.items-begin.ensures, h.node) at c.in_ok-values.ensures.exchanged in
    let done = asked_on (IsValueAnswered any_answer) all found values end low high answered c.at_once-most.result _ _ _ _ few h.asked exchanged in
    ((values_still _ _ _ _ _ _ done broken).0, not_ok c.from_residual-in_err-append.result c.from_residual-in_err-append.ensures.0)

pub returns-clause-broken : goal.returns-clause-broken
returns-clause-broken g c = λ some broken.
    let h = c.loop-alloc.invariant in
    let all = c.args.keys.now in
    let whole : length all ≤ length c.loop-alloc.found = search rules in
    let asked = rw (take_all (length c.loop-alloc.found) all whole) at h.asked in
    let none = (values_still _ _ _ _ _ _ asked broken).1 in
    absurd (omega (arith, some, none))
