-- Tests that are asked part by part, and what they count.
use Rattle.std.proofs.Common.{◌≡◌, ◌≤◌, ◌<◌, ◌+◌, ◌-◌, ℕ, zero, suc, Bool, true, false, List, [], ◌∷◌, length, take, drop, sum_by, Option, None, Some, IfSome, refl, sym, ap, ◌∙◌, arith}
use Rattle.std.proofs.lemmas.List.Sums.{sum_by-append, sum_by-le-sum_by, sum_by-take-le}
use Rattle.pq_store.specs.Counts.{Counts, AllowedCounts, raised_counts}
use Rattle.pq_store.specs.Rounds.{Affords, Pays, AreTestsCounted, test_entries, least_entries, most_entries, tests_made, sum_made}
use Rattle.pq_store.specs.declared.store.Test.{Test}
use Rattle.pq_store.specs.declared.store.Test.TheVariants.{Has, Lacks, Full}
use Rattle.pq_store.proofs.Rounds.{AreNoneCounted, pays_within}
use Rattle.pq_host.specs.Ends.{LinkEnds, HasExchanged, HasAskedTests}
use Rattle.pq_host.specs.Frames.{answer, first_held_request, place_body, told_place}
use Rattle.pq_host.proofs.Asking.{part_long, rest_on, sum_on}

most_within : (held : Bool) (test : Test) → most_entries held test ≤ test_entries test
most_within true (Has key) = omega arith
most_within true (Lacks key) = omega arith
most_within true (Full ends n) = omega arith
most_within false (Has key) = omega arith
most_within false (Lacks key) = omega arith
most_within false (Full ends n) = omega arith

-- what was made is within the whole
pub made_within : (tests : List Test) (at : Option ℕ) → sum_made most_entries tests at ≤ sum_by test_entries tests
made_within tests None = sum_by-le-sum_by (most_entries false) test_entries tests (most_within false)
made_within tests (Some at) =
    let front = sum_by-le-sum_by (most_entries false) test_entries (take at tests) (most_within false) in
    let one = sum_by-le-sum_by (most_entries true) test_entries (take 1 (drop at tests)) (most_within true) in
    let rest = sum_by-take-le test_entries (drop at tests) 1 in
    let whole = ap (sum_by test_entries) (rest_on tests at) ∙ sum_by-append test_entries (take at tests) (drop at tests) in
    omega (arith, front, one, rest, whole)

pub made_few : (tests : List Test) (at : Option ℕ) → IfSome at (λ i. i < length tests) → tests_made tests at ≤ length tests
made_few tests None h = omega arith
made_few tests (Some at) h = omega (arith, h)

module _ (tests : List Test) (at : Option ℕ) (entries : ℕ) (within : IfSome at (λ i. i < length tests)) where
  pub afforded : (a : AllowedCounts) → entries ≤ sum_made most_entries tests at → Affords a (length tests) (sum_by test_entries tests) → Affords a (tests_made tests at) entries
  afforded a most left =
      let few = made_few tests at within in
      let all = made_within tests at in
      record { ops_left = omega (arith, few, left.ops_left); entries_left = omega (arith, most, all, left.entries_left) }

  pub tests_paid : (a b : AllowedCounts) (m n : Counts) → entries ≤ sum_made most_entries tests at → Pays a b m n (tests_made tests at) entries → Pays a b m n (length tests) (sum_by test_entries tests)
  tests_paid a b m n most paid =
      let few = made_few tests at within in
      let all = made_within tests at in
      pays_within a b m n (tests_made tests at) entries _ _ paid few (omega (arith, most, all))

pub tests_counted : (tests : List Test) (at : Option ℕ) (entries : ℕ) (m n : Counts) → sum_made least_entries tests at ≤ entries → entries ≤ sum_made most_entries tests at
    → n ≡ raised_counts m (tests_made tests at) entries → AreTestsCounted None m n tests at
tests_counted tests at entries m n least most raised =
    let ops = ap (λ k. k.ops) raised in
    let all = ap (λ k. k.entries) raised in
    record { made = ops; found = tt; at_least = omega (arith, least, all); at_most = omega (arith, most, all) }

-- several tests are told by a frame of their own
pub told_together : (node : ℕ) (before now : LinkEnds) (tests : List Test) (told : Option ℕ × ℕ) → ¬ (length tests ≡ 1)
    → HasExchanged before now (first_held_request node tests) (answer (place_body (told_place tests told.0) told.1)) → HasAskedTests node before now tests told.0
told_together node before now [] told several h = (place_body (told_place [] told.0) told.1, told.1, refl, h)
told_together node before now (test ∷ []) told several h = absurd (several refl)
told_together node before now (test ∷ other ∷ tests) told several h = (place_body (told_place (test ∷ other ∷ tests) told.0) told.1, told.1, refl, h)

-- ---- tests of a part behind others

same_ones : {X : Type 0} (xs : List X) (j m : ℕ) → j ≤ m → take j (take m xs) ≡ take j xs
same_ones xs zero m less = refl
same_ones [] (suc j) zero less = refl
same_ones [] (suc j) (suc m) less = refl
same_ones (x ∷ xs) (suc j) zero less = absurd (omega arith)
same_ones (x ∷ xs) (suc j) (suc m) less = ap (λ l. x ∷ l) (same_ones xs j m (omega (arith, less)))

same_one : {X : Type 0} (xs : List X) (j m : ℕ) → j < m → take 1 (drop j (take m xs)) ≡ take 1 (drop j xs)
same_one xs j zero less = absurd (omega arith)
same_one [] zero (suc m) less = refl
same_one (x ∷ xs) zero (suc m) less = refl
same_one [] (suc j) (suc m) less = refl
same_one (x ∷ xs) (suc j) (suc m) less = same_one xs j m (omega (arith, less))

behind : {X : Type 0} (xs : List X) (n j : ℕ) → drop j (drop n xs) ≡ drop (n + j) xs
behind xs zero j = let same : j ≡ 0 + j = omega arith in ap (λ (k : ℕ). drop k xs) same
behind [] (suc n) j = none_behind_none j ∙ sym (none_behind_none (suc n + j))
  where
    none_behind_none : {X : Type 0} (k : ℕ) → drop {A = X} k [] ≡ []
    none_behind_none zero = refl
    none_behind_none (suc k) = refl
behind (x ∷ xs) (suc n) j = let same : suc (n + j) ≡ suc n + j = omega arith in behind xs n j ∙ ap (λ (k : ℕ). drop k (x ∷ xs)) same

module _ (a b c : Counts) (tests : List Test) (n m : ℕ) (low : n ≤ m) (high : m ≤ length tests) (before : AreNoneCounted None a b tests n) where
  pub none_behind : AreTestsCounted None b c (take (m - n) (drop n tests)) None → AreNoneCounted None a c tests m
  none_behind one =
      let long = part_long tests n m low high in
      let least = sum_on (least_entries false) tests n m low high in
      let most = sum_on (most_entries false) tests n m low high in
      record {
        made = omega (arith, before.made, one.made, long, low);
        found = tt;
        at_least = omega (arith, before.at_least, one.at_least, least);
        at_most = omega (arith, before.at_most, one.at_most, most);
      }

  module _ (j : ℕ) (within : j < length (take (m - n) (drop n tests))) where
    sum_behind : (entries : Bool → Test → ℕ) → sum_made entries tests (Some (n + j)) ≡ sum_by (entries false) (take n tests) + sum_made entries (take (m - n) (drop n tests)) (Some j)
    sum_behind entries =
        let long = part_long tests n m low high in
        let less : j < m - n = omega (arith, within, long) in
        let here : n + j - n ≡ j = omega arith in
        let front = sum_on (entries false) tests n (n + j) (omega arith) (omega (arith, less, high)) ∙ ap (λ k. sum_by (entries false) (take n tests) + sum_by (entries false) (take k (drop n tests))) here in
        let ones = ap (sum_by (entries false)) (same_ones (drop n tests) j (m - n) (omega (arith, less))) in
        let one = ap (sum_by (entries true)) (same_one (drop n tests) j (m - n) less ∙ ap (take 1) (behind tests n j)) in
        omega (arith, front, ones, one)

    pub held_behind : AreTestsCounted None b c (take (m - n) (drop n tests)) (Some j) → AreTestsCounted None a c tests (Some (n + j))
    held_behind one =
        let least = sum_behind least_entries in
        let most = sum_behind most_entries in
        record {
          made = omega (arith, before.made, one.made);
          found = tt;
          at_least = omega (arith, before.at_least, one.at_least, least);
          at_most = omega (arith, before.at_most, one.at_most, most);
        }

pub sum_within : (tests : List Test) (n m : ℕ) → n ≤ m → m ≤ length tests → sum_by test_entries (take n tests) + sum_by test_entries (take (m - n) (drop n tests)) ≤ sum_by test_entries tests
sum_within tests n m low high =
    let on = sum_on test_entries tests n m low high in
    let all = sum_by-take-le test_entries tests m in
    omega (arith, on, all)
