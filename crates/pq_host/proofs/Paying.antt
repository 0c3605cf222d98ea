-- What the ranges of a round cost.
use Rattle.std.proofs.Common.{◌≡◌, ◌≤◌, ◌<◌, ◌-◌, ◌*◌, ℕ, List, [], ◌∷◌, length, take, drop, get_or, sum_by, Option, None, Some, refl, ap, ◌∙◌, arith}
use Rattle.std.specs.List.{AllZip}
use Rattle.std.proofs.lemmas.List.{length-map, take_all}
use Rattle.std.proofs.lemmas.List.Sums.{sum_by-cons}
use Rattle.pq_store.specs.Content.{entry}
use Rattle.pq_store.specs.Counts.{Counts, AllowedCounts, raised_counts}
use Rattle.pq_store.specs.Rounds.{Affords, Pays, IsValueAnswered, IsPartAsked, one_if_some}
use Rattle.pq_store.specs.declared.store.Ends.{Ends}
use Rattle.pq_store.specs.declared.store.Pair.{Pair}
use Rattle.pq_host.specs.Ends.{any_answer}
use Rattle.pq_store.proofs.Rounds.{nothing_raised, pays_then}

pub part_few : (limit : ℕ) (asked : Option Ends) (part : List Pair) → IsPartAsked limit asked part → length part ≤ limit
part_few limit None part h = let none = ap length h in omega (arith, none)
part_few limit (Some ends) part h = let few = h.few in let same = length-map part entry in omega (arith, few, same)

module _ (limit : ℕ) where
  first_few : (asks : List (Option Ends)) (parts : List (List Pair)) (part : List Pair) → 1 ≤ length asks → AllZip (IsPartAsked limit) asks parts → part ≡ get_or parts 0 part → length part ≤ limit
  first_few [] parts part some h is = absurd (omega arith)
  first_few (asked ∷ asks) [] part some h is = absurd h
  first_few (asked ∷ asks) (x ∷ parts) part some h is = let few = part_few limit asked x h.0 in let same = ap length is in omega (arith, few, same)

  pub first_afforded : (a : AllowedCounts) (asks : List (Option Ends)) (parts : List (List Pair)) (part items : List Pair) → 1 ≤ length asks → AllZip (IsPartAsked limit) asks parts → part ≡ get_or parts 0 part → items ≡ part
      → Affords a (length asks) (length asks * limit) → Affords a 1 (length items)
  first_afforded a [] parts part items some h is same left = absurd (omega arith)
  first_afforded a (asked ∷ asks) parts part items some h is same left =
      let few = first_few (asked ∷ asks) parts part some h is in
      let long = ap length same in
      record { ops_left = omega (arith, left.ops_left); entries_left = omega (arith, few, long, left.entries_left) }

  pub none_counted : (m : Counts) (asks : List (Option Ends)) (parts : List (List Pair)) → length parts < 1 → AllZip (IsPartAsked limit) asks parts → m ≡ raised_counts m (sum_by one_if_some asks) (sum_by length parts)
  none_counted m [] [] none h = nothing_raised m
  none_counted m [] (part ∷ parts) none h = absurd h
  none_counted m (asked ∷ asks) [] none h = absurd h
  none_counted m (asked ∷ asks) (part ∷ parts) none h = absurd (omega arith)

  pub paid_behind : (a b c : AllowedCounts) (m n k : Counts) (asks rest : List (Option Ends)) (parts : List (List Pair)) (part items : List Pair) → 1 ≤ length asks → AllZip (IsPartAsked limit) asks parts → part ≡ get_or parts 0 part → items ≡ part
      → rest ≡ take (length asks - 1) (drop 1 asks) → Pays a b m n 1 (length items) → Pays b c n k (length rest) (length rest * limit) → Pays a c m k (length asks) (length asks * limit)
  paid_behind a b c m n k [] rest parts part items some h is same behind one then = absurd (omega arith)
  paid_behind a b c m n k (asked ∷ asks) rest parts part items some h is same behind one then =
      let few = first_few (asked ∷ asks) parts part some h is in
      let long = ap length same in
      let all = behind ∙ take_all (length (asked ∷ asks) - 1) asks (omega arith) in
      let left = ap length all in
      let product = ap (λ (l : List (Option Ends)). length l * limit) all in
      pays_then a b c m n k 1 (length items) (length rest) (length rest * limit) _ _ one then (omega (arith, left)) (omega (arith, few, long, product))

one_few : {A : Type 0} (place : Option A) → one_if_some place ≤ 1
one_few None = omega arith
one_few (Some x) = let here : one_if_some (Some x) ≡ 1 = refl in omega (arith, here)

pub asked_few : {A : Type 0} (asks : List (Option A)) → sum_by one_if_some asks ≤ length asks
asked_few [] = omega arith
asked_few (asked ∷ asks) =
    let here = sum_by-cons one_if_some asked asks in
    let one = one_few asked in
    let rest = asked_few asks in omega (arith, here, one, rest)

-- no more values than keys
answered_few : (key value : Option (List ℕ)) → IsValueAnswered any_answer key value → one_if_some value ≤ one_if_some key
answered_few None value h = let here = ap one_if_some h in omega (arith, here)
answered_few (Some key) value h = one_few value

pub found_few : (keys found : List (Option (List ℕ))) → AllZip (IsValueAnswered any_answer) keys found → sum_by one_if_some found ≤ sum_by one_if_some keys
found_few [] [] h = omega arith
found_few [] (value ∷ found) h = absurd h
found_few (key ∷ keys) [] h = absurd h
found_few (key ∷ keys) (value ∷ found) h =
    let asked = sum_by-cons one_if_some key keys in
    let told = sum_by-cons one_if_some value found in
    let one = answered_few key value h.0 in
    let rest = found_few keys found h.1 in omega (arith, asked, told, one, rest)
