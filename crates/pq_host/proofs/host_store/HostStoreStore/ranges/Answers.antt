use Rattle.std.proofs.Common.{◌≤◌, ◌-◌, ◌*◌, ◌++◌, length, refl, ◌∙◌, ap, arith, rules}
use Rattle.std.proofs.lemmas.List.{take_all}
use Rattle.pq_store.specs.Rounds.{IsPartAsked, one_if_some}
use Rattle.pq_store.proofs.Rounds.{affords_rest, pays_then, pays_within, pays_nothing, nothing_raised}
use Rattle.pq_host.specs.Ends.HasAskedAll.{Begun}
use Rattle.pq_host.proofs.Broken.{parts_still, fails_still, not_ok}
use Rattle.pq_host.proofs.Asking.{part_long, longer, zip_on, counted_on, asked_on, failed_on, stopped_on, on_error, times_within}
use Rattle.pq_host.proofs.host_store.HostStoreStore.ranges.Goals as goal

pub loop-alloc-init : goal.loop-alloc-init
loop-alloc-init g c = rw c.new-found.ensures (record {
  few = omega arith;
  zip = tt;
  later = omega arith;
  paid = pays_within _ _ _ _ 0 0 0 _ (pays_nothing c.args.allowance.now c.args.meter.now) (omega arith) (omega arith);
  counted = nothing_raised c.args.meter.now;
  asked = Begun;
  node = refl;
  rounds = refl;
})

pub returns-in_err-parts-clause-failed : goal.returns-in_err-parts-clause-failed
returns-in_err-parts-clause-failed g c =
    let h = c.loop-alloc.invariant in
    let one = rw (c.items-begin.ensures, h.node) at c.in_err-parts.ensures.failed in
    let found = c.loop-alloc.found in
    let end = c.min-end.result in
    let low : length found ≤ end = search rules in
    let high : end ≤ length c.args.asks.now = search rules in
    let done = rw c.ranges_at_once-most.ensures.most at h.asked in
    on_error c.from_residual.result (failed_on _ _ _ c.args.asks.now _ _ _ found _ end low high done one)

pub returns-in_err-append-clause-failed : goal.returns-in_err-append-clause-failed
returns-in_err-append-clause-failed g c =
    let h = c.loop-alloc.invariant in
    let all = c.args.asks.now in
    let found = c.loop-alloc.found in
    let parts = c.in_ok-parts.parts in
    let end = c.min-end.result in
    let low : length found ≤ end = search rules in
    let high : end ≤ length all = search rules in
    let few : end - length found ≤ c.ranges_at_once-most.result = search rules in
    let answered = rw c.items-begin.ensures at c.in_ok-parts.ensures.parts in
    let exchanged = rw (c.items-begin.ensures, h.node) at c.in_ok-parts.ensures.exchanged in
    let done = asked_on (IsPartAsked c.args.limit) all found parts end low high answered c.ranges_at_once-most.result _ _ _ _ few h.asked exchanged in
    on_error c.from_residual-in_err-append.result (stopped_on _ _ _ all _ _ (found ++ parts) (rw c.ranges_at_once-most.ensures.most at done))

pub loop-alloc-preserved : goal.loop-alloc-preserved
loop-alloc-preserved g c =
    let h = c.loop-alloc.invariant in
    let one = rw c.items-begin.ensures at c.in_ok-parts.ensures in
    let all = c.args.asks.now in
    let found = c.loop-alloc.found in
    let parts = c.in_ok-parts.parts in
    let end = c.min-end.result in
    let low : length found ≤ end = search rules in
    let high : end ≤ length all = search rules in
    let few : end - length found ≤ c.ranges_at_once-most.result = search rules in
    let long = longer (IsPartAsked c.args.limit) all found parts end low high one.parts in
    let asked = part_long all (length found) end low high in
    rw c.in_ok-append.ensures (record {
      few = omega (arith, long, high);
      zip = zip_on (IsPartAsked c.args.limit) all found parts end low high one.parts h.zip;
      later = omega (arith, h.later, one.cause.later);
      paid = pays_then _ _ _ _ _ _ (length found) (length found * c.args.limit) _ _ _ _ h.paid one.paid (omega (arith, long, asked, low)) (times_within (length found) _ _ c.args.limit (omega (arith, long, asked, low)));
      counted = counted_on (IsPartAsked c.args.limit) all found parts end low high one.parts one_if_some length _ _ _ h.counted one.counted;
      asked = asked_on (IsPartAsked c.args.limit) all found parts end low high one.parts c.ranges_at_once-most.result _ _ _ _ few h.asked (rw h.node at one.exchanged);
      node = one.same.node ∙ h.node;
      rounds = one.same.rounds ∙ h.rounds;
    })

pub paid_parts-requires-clause-share : goal.paid_parts-requires-clause-share
paid_parts-requires-clause-share g c =
    let all = c.args.asks.now in
    let found = c.loop-alloc.found in
    let end = c.min-end.result in
    let low : length found ≤ end = search rules in
    let high : end ≤ length all = search rules in
    let asked = part_long all (length found) end low high in
    rw c.items-begin.ensures
    (affords_rest _ _ _ _ (length found) (length found * c.args.limit) _ _ _ _ c.loop-alloc.invariant.paid c.requires.share
    (omega (arith, asked, low, high)) (times_within (length found) _ (length all) c.args.limit (omega (arith, asked, low, high))))

pub returns-in_err-parts-clause-paid : goal.returns-in_err-parts-clause-paid
returns-in_err-parts-clause-paid g c =
    let all = c.args.asks.now in
    let found = c.loop-alloc.found in
    let end = c.min-end.result in
    let low : length found ≤ end = search rules in
    let high : end ≤ length all = search rules in
    let asked = part_long all (length found) end low high in
    let one = rw c.items-begin.ensures at c.paid_parts.ensures.paid in
    pays_then _ _ _ _ _ _ (length found) (length found * c.args.limit) _ _ _ _ c.loop-alloc.invariant.paid one
    (omega (arith, asked, low, high)) (times_within (length found) _ (length all) c.args.limit (omega (arith, asked, low, high)))

pub returns-in_err-append-clause-paid : goal.returns-in_err-append-clause-paid
returns-in_err-append-clause-paid g c =
    let all = c.args.asks.now in
    let found = c.loop-alloc.found in
    let end = c.min-end.result in
    let low : length found ≤ end = search rules in
    let high : end ≤ length all = search rules in
    let asked = part_long all (length found) end low high in
    let one = rw c.items-begin.ensures at c.paid_parts.ensures.paid in
    pays_then _ _ _ _ _ _ (length found) (length found * c.args.limit) _ _ _ _ c.loop-alloc.invariant.paid one
    (omega (arith, asked, low, high)) (times_within (length found) _ (length all) c.args.limit (omega (arith, asked, low, high)))

pub returns-in_err-parts-clause-broken : goal.returns-in_err-parts-clause-broken
returns-in_err-parts-clause-broken g c = λ some broken.
    let h = c.loop-alloc.invariant in
    let first = parts_still _ _ _ _ _ _ _ h.asked broken in
    (fails_still _ _ _ c.in_err-parts.ensures.failed (ap (λ l. l.unanswered) first.0 ∙ broken) ∙ first.0, not_ok c.from_residual.result c.from_residual.ensures.0)

pub returns-in_err-append-clause-broken : goal.returns-in_err-append-clause-broken
returns-in_err-append-clause-broken g c = λ some broken.
    let h = c.loop-alloc.invariant in
    let all = c.args.asks.now in
    let found = c.loop-alloc.found in
    let parts = c.in_ok-parts.parts in
    let end = c.min-end.result in
    let low : length found ≤ end = search rules in
    let high : end ≤ length all = search rules in
    let few : end - length found ≤ c.ranges_at_once-most.result = search rules in
    let answered = rw c.items-begin.ensures at c.in_ok-parts.ensures.parts in
    let exchanged = rw (c.items-begin.ensures, h.node) at c.in_ok-parts.ensures.exchanged in
    let done = asked_on (IsPartAsked c.args.limit) all found parts end low high answered c.ranges_at_once-most.result _ _ _ _ few h.asked exchanged in
    ((parts_still _ _ _ _ _ _ _ done broken).0, not_ok c.from_residual-in_err-append.result c.from_residual-in_err-append.ensures.0)

pub returns-clause-broken : goal.returns-clause-broken
returns-clause-broken g c = λ some broken.
    let h = c.loop-alloc.invariant in
    let all = c.args.asks.now in
    let whole : length all ≤ length c.loop-alloc.found = search rules in
    let asked = rw (take_all (length c.loop-alloc.found) all whole) at h.asked in
    let none = (parts_still _ _ _ _ _ _ _ asked broken).1 in
    absurd (omega (arith, some, none))
