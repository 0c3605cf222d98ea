-- Tests of the items that a filter keeps.
use Rattle.std.proofs.Common.{◌≡◌, Bool, true, false, not, cond, ◌||◌, ◌&&◌, List, [], ◌∷◌, filter, refl, ap}
use Rattle.std.specs.List.{list_all}

pub all_filtered : {X : Type 0} (own test : X → Bool) (xs : List X) → list_all test (filter own xs) ≡ list_all (λ x. not (own x) || test x) xs
all_filtered own test [] = refl
all_filtered own test (x ∷ xs) = elim (own x) as (λ b. list_all test (cond b (x ∷ filter own xs) (filter own xs)) ≡ ((not b || test x) && list_all (λ x. not (own x) || test x) xs)) [
  | true ↦ ap (λ b. test x && b) (all_filtered own test xs)
  | false ↦ all_filtered own test xs
]
