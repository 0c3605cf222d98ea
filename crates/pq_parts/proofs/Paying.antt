-- What the questions of a round cost at most.
use Rattle.std.proofs.Common.{◌≡◌, ℕ, ◌≤◌, List, [], ◌∷◌, length, sum_by, Option, None, Some, refl, ap, arith}
use Rattle.std.specs.Prelude.{⊤}
use Rattle.std.specs.List.{AllZip}
use Rattle.std.proofs.lemmas.List.Sums.{sum_by-cons}
use Rattle.pq_store.specs.Rounds.{IsValueAnswered, one_if_some}

one_few : {A : Type 0} (place : Option A) → one_if_some place ≤ 1
one_few None = omega arith
one_few (Some x) = let here : one_if_some (Some x) ≡ 1 = refl in omega (arith, here)

pub asked_few : {A : Type 0} (asks : List (Option A)) → sum_by one_if_some asks ≤ length asks
asked_few [] = omega arith
asked_few (asked ∷ asks) =
    let here = sum_by-cons one_if_some asked asks in
    let one = one_few asked in
    let rest = asked_few asks in omega (arith, here, one, rest)

-- no more values than keys
answered_few : (key value : Option (List ℕ)) → IsValueAnswered (λ _ _. ⊤) key value → one_if_some value ≤ one_if_some key
answered_few None value h = let here = ap one_if_some h in omega (arith, here)
answered_few (Some key) value h = one_few value

pub found_few : (keys found : List (Option (List ℕ))) → AllZip (IsValueAnswered (λ _ _. ⊤)) keys found → sum_by one_if_some found ≤ sum_by one_if_some keys
found_few [] [] h = omega arith
found_few [] (value ∷ found) h = absurd h
found_few (key ∷ keys) [] h = absurd h
found_few (key ∷ keys) (value ∷ found) h =
    let asked = sum_by-cons one_if_some key keys in
    let told = sum_by-cons one_if_some value found in
    let one = answered_few key value h.0 in
    let rest = found_few keys found h.1 in omega (arith, asked, told, one, rest)
