-- The order of a key, and that of the bytes that stand for it.
use Rattle.std.proofs.Common.{◌≡◌, suc, true, false, cond, List, [], ◌∷◌, length, map, IsPermutation, refl, sym, ap, ◌∙◌, true≢false}
use Rattle.std.specs.declared.cmp.Ordering.{Ordering}
use Rattle.std.specs.declared.cmp.Ordering.TheVariants.{Less, Equal, Greater}
use Rattle.std.specs.Ordering.{is_eq, is_gt, eq_by_cmp}
use Rattle.std.specs.Cmp.{IsTotalOrder}
use Rattle.std.specs.List.{AllByRecursion}
use Rattle.std.specs.FinMap.{entries, entries-insert, from_entries, empty, len-empty, len-entries}
use Rattle.std.proofs.lemmas.List.{nil_from_length}
use Rattle.std.proofs.lemmas.List.Sorted.{IsPermutation-refl, IsPermutation-trans, IsPermutation-cons, IsPermutation-middle}
use Rattle.std.specs.FinMap.Entries.{put, by_order}
use Rattle.pq_base.specs.Sorting.{placed, sort_by}

module _ {K X : Type 0} (R : K → K → Ordering) (key : X → K) where
  pub length-placed : (x : X) (xs : List X) → length (placed R key x xs) ≡ suc (length xs)
  length-placed x [] = refl
  length-placed x (y ∷ ys) = elim (is_gt (R (key x) (key y))) as (λ b. length (cond b (y ∷ placed R key x ys) (x ∷ y ∷ ys)) ≡ suc (suc (length ys))) [ true ↦ ap suc (length-placed x ys) | false ↦ refl ]

  pub length-sort_by : (xs : List X) → length (sort_by R key xs) ≡ length xs
  length-sort_by [] = refl
  length-sort_by (x ∷ xs) = length-placed x (sort_by R key xs) ∙ ap suc (length-sort_by xs)

  pub each-placed : (P : X → Type 0) (x : X) (xs : List X) → P x → AllByRecursion P xs → AllByRecursion P (placed R key x xs)
  each-placed P x [] p h = (p, tt)
  each-placed P x (y ∷ ys) p h = elim (is_gt (R (key x) (key y))) as (λ b. AllByRecursion P (cond b (y ∷ placed R key x ys) (x ∷ y ∷ ys))) [ true ↦ (h.0, each-placed P x ys p h.1) | false ↦ (p, h) ]

  pub each-sort_by : (P : X → Type 0) (xs : List X) → AllByRecursion P xs → AllByRecursion P (sort_by R key xs)
  each-sort_by P [] h = tt
  each-sort_by P (x ∷ xs) h = each-placed P x (sort_by R key xs) h.0 (each-sort_by P xs h.1)

  -- a sort only moves elements
  pub IsPermutation-placed : (x : X) (xs : List X) → IsPermutation (x ∷ xs) (placed R key x xs)
  IsPermutation-placed x [] = IsPermutation-refl (x ∷ [])
  IsPermutation-placed x (y ∷ ys) = elim (is_gt (R (key x) (key y))) as (λ b. IsPermutation (x ∷ y ∷ ys) (cond b (y ∷ placed R key x ys) (x ∷ y ∷ ys))) [
    | true ↦ IsPermutation-trans (x ∷ y ∷ ys) (y ∷ x ∷ ys) (y ∷ placed R key x ys) (IsPermutation-middle (x ∷ []) y ys) (IsPermutation-cons y (x ∷ ys) (placed R key x ys) (IsPermutation-placed x ys))
    | false ↦ IsPermutation-refl (x ∷ y ∷ ys)
  ]

  pub IsPermutation-sort_by : (xs : List X) → IsPermutation xs (sort_by R key xs)
  IsPermutation-sort_by [] = IsPermutation-refl []
  IsPermutation-sort_by (x ∷ xs) = IsPermutation-trans (x ∷ xs) (x ∷ sort_by R key xs) (placed R key x (sort_by R key xs)) (IsPermutation-cons x xs (sort_by R key xs) (IsPermutation-sort_by xs)) (IsPermutation-placed x (sort_by R key xs))

  -- the entries made of the elements, by keys in an order that agrees
  module _ {J V : Type 0} (Q : J → J → Ordering) (f : X → J × V) where
    -- where the orders agree and say that the keys differ
    abbrev pub Agree : X → X → Type 0
    Agree x y = (Q (f x).0 (f y).0 ≡ R (key x) (key y)) × (eq_by_cmp R (key x) (key y) ≡ false)

    put-map : (x : X) (ys : List X) → AllByRecursion (Agree x) ys → put Q (f x).0 (f x).1 (map f ys) ≡ map f (placed R key x ys)
    put-map x [] h = refl
    put-map x (y ∷ ys) h =
        ap (λ r. by_order r (f x ∷ f y ∷ map f ys) (((f y).0, (f x).1) ∷ map f ys) (f y ∷ put Q (f x).0 (f x).1 (map f ys))) h.0.0
        ∙ elim (R (key x) (key y)) as (λ r. R (key x) (key y) ≡ r → by_order r (f x ∷ f y ∷ map f ys) (((f y).0, (f x).1) ∷ map f ys) (f y ∷ put Q (f x).0 (f x).1 (map f ys)) ≡ map f (cond (is_gt r) (y ∷ placed R key x ys) (x ∷ y ∷ ys))) [
          | Less ↦ λ _. refl
          | Equal ↦ λ e. absurd (true≢false (sym (ap is_eq e) ∙ h.0.1))
          | Greater ↦ λ _. ap (λ l. f y ∷ l) (put-map x ys h.1)
        ] refl

    abbrev pub EachAgree : List X → Type 0
    EachAgree [] = Unit {0}
    EachAgree (x ∷ xs) = AllByRecursion (Agree x) xs × EachAgree xs

    -- a map of such entries has them in the order of the keys
    pub entries-sort_by : IsTotalOrder Q → (xs : List X) → EachAgree xs → entries (from_entries {R = Q} (map f xs)) ≡ map f (sort_by R key xs)
    entries-sort_by o [] h = nil_from_length _ (sym (len-entries (empty {X = V} {R = Q})) ∙ len-empty Q V)
    entries-sort_by o (x ∷ xs) h =
        entries-insert o (from_entries {R = Q} (map f xs)) (f x).0 (f x).1
        ∙ ap (put Q (f x).0 (f x).1) (entries-sort_by o xs h.1)
        ∙ put-map x (sort_by R key xs) (each-sort_by (Agree x) xs h.0)
