-- The calls of nodes that a call has made.
use Rattle.std.proofs.Common.{◌≡◌, ℕ, ◌+◌, ◌≤◌, Bool, true, cond, List, map, Result, Ok, Err, IfOk, refl, arith}
use Rattle.std.proofs.lemmas.List.{length-map}
use Rattle.pq_store.specs.declared.store.Pair.{Pair}
use Rattle.pq_store.specs.declared.store.StoreErr.{StoreErr}
use Rattle.pq_store.specs.Content.{entry, IsPartOf, ranged_entries, counted_entries}
use Rattle.pq_parts.specs.Tally.{TalliedCalls, raised_number, counted_call, HasCalled, HasAsked}

none_counted : (before : TalliedCalls) → before ≡ counted_call before 0 0
none_counted before =
    let ops : before.nodes.ops ≡ before.nodes.ops + 0 = omega arith in
    let entries : before.nodes.entries ≡ before.nodes.entries + 0 = omega arith in
    let shown_ops : before.ops ≡ raised_number before.ops 0 = omega arith in
    let shown_entries : before.entries ≡ raised_number before.entries 0 = omega arith in
    λ i. record { nodes = record { ops = ops i; entries = entries i }; ops = shown_ops i; entries = shown_entries i }

-- no node was asked
pub not_asked : {A : Type 0} (before : TalliedCalls) (met limit : ℕ) (result : Result A StoreErr) → HasAsked before before met limit 0 result
not_asked before met limit result = record {
  found = 0;
  called = record { calls = 0; few = omega arith; counts = none_counted before };
  within = omega arith;
  whole = λ _. refl;
}

-- one node was asked
pub asked_once : {A : Type 0} (before now : TalliedCalls) (met limit answered : ℕ) (result : Result A StoreErr) → 1 ≤ met → answered ≤ limit
    → now ≡ counted_call before 1 answered → HasAsked before now met limit answered result
asked_once before now met limit answered result few within counts = record {
  found = answered;
  called = record { calls = 1; few = few; counts = counts };
  within = within;
  whole = λ _. refl;
}

pub met_once : (b : Bool) → b ≡ true → 1 ≤ 0 + cond b 1 0
met_once b is = rw is (omega arith)

pub few_counted : (cap : ℕ) (result : Result ℕ StoreErr) → IfOk result (λ n. n ≤ cap) → counted_entries result ≤ cap
few_counted cap (Ok n) few = few
few_counted cap (Err e) few = omega arith

pub few_ranged : (low high : List ℕ) (limit : ℕ) (result : Result (List Pair) StoreErr) → IfOk result (λ found. IsPartOf low high limit (map entry found)) → ranged_entries result ≤ limit
few_ranged low high limit (Ok pairs) part = let few = part.few in omega (arith, length-map pairs entry)
few_ranged low high limit (Err e) part = omega arith

-- some calls, and then some more
pub called_more : (before mid now : TalliedCalls) (most more first found : ℕ) → HasCalled before mid most first → HasCalled mid now more found → HasCalled before now (most + more) (first + found)
called_more before mid now most more first found done then = record {
  calls = done.calls + then.calls;
  few = let x = done.few in let y = then.few in omega arith;
  counts = rw (then.counts, done.counts) (both before done.calls then.calls first found);
}
  where
    both : (t : TalliedCalls) (a b x y : ℕ) → counted_call (counted_call t a x) b y ≡ counted_call t (a + b) (x + y)
    both t a b x y =
        let ops : t.nodes.ops + a + b ≡ t.nodes.ops + (a + b) = omega arith in
        let entries : t.nodes.entries + x + y ≡ t.nodes.entries + (x + y) = omega arith in
        let shown_ops : raised_number (raised_number t.ops a) b ≡ raised_number t.ops (a + b) = omega arith in
        let shown_entries : raised_number (raised_number t.entries x) y ≡ raised_number t.entries (x + y) = omega arith in
        λ i. record { nodes = record { ops = ops i; entries = entries i }; ops = shown_ops i; entries = shown_entries i }

pub called_fewer : (before now : TalliedCalls) (most more found : ℕ) → most ≤ more → HasCalled before now most found → HasCalled before now more found
called_fewer before now most more found le called = record { calls = called.calls; few = let x = called.few in omega arith; counts = called.counts }
