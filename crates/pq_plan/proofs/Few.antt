-- Numbers below n that differ are at most n.
use Rattle.std.proofs.Common.{◌≡◌, ◌≢◌, subst, ℕ, zero, suc, ◌<◌, ◌≤◌, true, false, not, nat_eq, length, List, [], ◌∷◌, refl, ap, arith, cond}
use Rattle.std.specs.Prelude.{All, filter}
use Rattle.std.proofs.lemmas.List.Elements.{All-head, All-tail, All-filter, All-cons, All-nil}
use Rattle.std.proofs.lemmas.Bool.Decides.{nat_tests}
use Rattle.pq_plan.specs.Cost.{AreDistinct}

abbrev others : ℕ → List ℕ → List ℕ
others n xs = filter (λ x. not (nat_eq x n)) xs

apart_others : (n : ℕ) (xs : List ℕ) → AreDistinct xs → AreDistinct (others n xs)
apart_others n [] h = h
apart_others n (x ∷ xs) h = elim (not (nat_eq x n)) as (λ b. AreDistinct (cond b (x ∷ others n xs) (others n xs))) [
  | true ↦ (All-filter (λ y. not (nat_eq y n)) (λ y. y ≢ x) xs h.0, apart_others n xs h.1)
  | false ↦ apart_others n xs h.1
]

kept : (n : ℕ) (xs : List ℕ) → All (λ y. y ≢ n) xs → others n xs ≡ xs
kept n [] h = refl
kept n (x ∷ xs) h =
    let ne : x ≢ n = All-head (λ y. y ≢ n) x xs h in
    let e : not (nat_eq x n) ≡ true = grind (arith, nat_tests, ne) in
    rw e (ap (λ ys. x ∷ ys) (kept n xs (All-tail (λ y. y ≢ n) x xs h)))

one_less : (n : ℕ) (xs : List ℕ) → AreDistinct xs → length xs ≤ suc (length (others n xs))
one_less n [] h = omega arith
one_less n (x ∷ xs) h = elim (nat_eq x n) as (λ b. nat_eq x n ≡ b → length (x ∷ xs) ≤ suc (length (cond (not b) (x ∷ others n xs) (others n xs)))) [
  | true ↦ λ e.
      let same : x ≡ n = grind (arith, nat_tests, e) in
      let all : All (λ y. y ≢ n) xs = subst (λ m. All (λ y. y ≢ m) xs) same h.0 in
      rw (kept n xs all) (omega arith)
  | false ↦ λ e. let rest = one_less n xs h.1 in omega (arith, rest)
] refl

below : (n : ℕ) (xs : List ℕ) → All (λ x. x < suc n) xs → All (λ x. x < n) (others n xs)
below n [] h = All-nil (λ x. x < n)
below n (x ∷ xs) h = elim (nat_eq x n) as (λ b. nat_eq x n ≡ b → All (λ x. x < n) (cond (not b) (x ∷ others n xs) (others n xs))) [
  | true ↦ λ e. below n xs (All-tail (λ x. x < suc n) x xs h)
  | false ↦ λ e.
      let ne : x ≢ n = grind (arith, nat_tests, e) in
      let lt : x < suc n = All-head (λ x. x < suc n) x xs h in
      All-cons (λ x. x < n) x (others n xs) (omega arith) (below n xs (All-tail (λ x. x < suc n) x xs h))
] refl

pub few : (n : ℕ) (xs : List ℕ) → AreDistinct xs → All (λ x. x < n) xs → length xs ≤ n
few zero [] apart all = omega arith
few zero (x ∷ xs) apart all = let lt : x < zero = All-head (λ x. x < zero) x xs all in absurd (omega arith)
few (suc n) xs apart all =
    let rest = few n (others n xs) (apart_others n xs apart) (below n xs all) in
    let one = one_less n xs apart in
    omega (arith, rest, one)
