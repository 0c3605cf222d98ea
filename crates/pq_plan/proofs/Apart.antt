-- Lists whose keys differ, and tests by an order that ties only equal keys.
use Rattle.std.proofs.Common.{◌≡◌, ℕ, zero, suc, Bool, true, false, cond, inl, inr, List, [], ◌∷◌, ◌++◌, filter, take, refl, sym, ap, ◌∙◌}
use Rattle.std.specs.declared.cmp.Ordering.{Ordering}
use Rattle.std.specs.declared.cmp.Ordering.TheVariants.{Less, Equal, Greater}
use Rattle.std.specs.Ordering.{is_eq, eq_by_cmp}
use Rattle.std.specs.List.{AllByRecursion}
use Rattle.std.specs.Cmp.{IsTotalOrder, tied_itself}
use Rattle.std.specs.FinMap.{IsAntisymmetric}
use Rattle.std.proofs.lemmas.Bool.{false≢true, false_from_ne_true}
use Rattle.pq_base.specs.Members.{In, Apart}
use Rattle.pq_plan.proofs.Orders.{each_take, each_filter}

module _ {K X : Type 0} (R : K → K → Ordering) (key : X → K) where
  pub apart_both : (xs ys : List X) → Apart R key xs → Apart R key ys → AllByRecursion (λ x. AllByRecursion (λ y. eq_by_cmp R (key x) (key y) ≡ false) ys) xs → Apart R key (xs ++ ys)
  apart_both [] ys g h a = h
  apart_both (x ∷ xs) ys g h a = (each_append (λ y. eq_by_cmp R (key x) (key y) ≡ false) xs ys g.0 a.0, apart_both xs ys g.1 h a.1)
    where
      each_append : (P : X → Type 0) (xs ys : List X) → AllByRecursion P xs → AllByRecursion P ys → AllByRecursion P (xs ++ ys)
      each_append P [] ys g h = h
      each_append P (x ∷ xs) ys g h = (g.0, each_append P xs ys g.1 h)

  pub apart_take : (k : ℕ) (xs : List X) → Apart R key xs → Apart R key (take k xs)
  apart_take zero xs h = tt
  apart_take (suc k) [] h = tt
  apart_take (suc k) (x ∷ xs) h = (each_take R key (λ y. eq_by_cmp R (key x) (key y) ≡ false) k xs h.0, apart_take k xs h.1)

  pub apart_filter : (p : X → Bool) (xs : List X) → Apart R key xs → Apart R key (filter p xs)
  apart_filter p [] h = tt
  apart_filter p (x ∷ xs) h = elim (p x) as (λ b. Apart R key (cond b (x ∷ filter p xs) (filter p xs))) [
    | true ↦ (each_filter R key (λ y. eq_by_cmp R (key x) (key y) ≡ false) p xs h.0, apart_filter p xs h.1)
    | false ↦ apart_filter p xs h.1
  ]

  -- by another key that tells them apart
  pub apart_by : {J : Type 0} (S : J → J → Ordering) (other : X → J) (xs : List X) → Apart R key xs → ((x y : X) → In x xs → In y xs → eq_by_cmp R (key x) (key y) ≡ false → eq_by_cmp S (other x) (other y) ≡ false) → Apart S other xs
  apart_by S other [] h f = tt
  apart_by S other (x ∷ xs) h f = (each xs h.0 (λ y i e. f x y (inl refl) (inr i) e), apart_by S other xs h.1 (λ y z i j e. f y z (inr i) (inr j) e))
    where
      each : (ys : List X) → AllByRecursion (λ y. eq_by_cmp R (key x) (key y) ≡ false) ys → ((y : X) → In y ys → eq_by_cmp R (key x) (key y) ≡ false → eq_by_cmp S (other x) (other y) ≡ false) → AllByRecursion (λ y. eq_by_cmp S (other x) (other y) ≡ false) ys
      each [] h f = tt
      each (y ∷ ys) h f = (f y (inl refl) h.0, each ys h.1 (λ z i e. f z (inr i) e))

module _ {K : Type 0} (R : K → K → Ordering) (o : IsTotalOrder R) where
  -- what tests as different is different, and the other way
  pub differs : (x y : K) → eq_by_cmp R x y ≡ false → x ≡ y → ⊥
  differs x y h e = false≢true (sym h ∙ ap (λ z. is_eq (R x z)) (sym e) ∙ ap is_eq (tied_itself o x))

  pub same_test : (x y : K) → x ≡ y → eq_by_cmp R x y ≡ true
  same_test x y e = ap (λ z. is_eq (R x z)) (sym e) ∙ ap is_eq (tied_itself o x)

  pub equal : IsAntisymmetric R → (x y : K) → eq_by_cmp R x y ≡ true → x ≡ y
  equal only x y h = only x y (tied (R x y) h)
    where
      tied : (r : Ordering) → is_eq r ≡ true → r ≡ Equal
      tied Less h = absurd (false≢true h)
      tied Equal h = refl
      tied Greater h = absurd (false≢true h)

  pub differing : IsAntisymmetric R → (x y : K) → (x ≡ y → ⊥) → eq_by_cmp R x y ≡ false
  differing only x y n = false_from_ne_true (eq_by_cmp R x y) (λ e. n (equal only x y e))
