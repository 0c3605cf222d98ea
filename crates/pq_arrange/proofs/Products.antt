-- The product of a query's relations, as rows that are assigned to relations.
use Rattle.std.proofs.Common.{◌≡◌, ℕ, zero, suc, ◌+◌, ◌<◌, ◌≤◌, Bool, cond, ◌==◌, inl, inr, List, [], ◌∷◌, ◌++◌, length, get_or, take, map, flat_map, IsPermutation, refl, sym, ap, ◌∙◌, subst, arith}
use Rattle.std.specs.List.{range_with_len, IsDistinct}
use Rattle.std.proofs.lemmas.Bool.{cases_eq, false≢true, ne_eqb, eq-eqb}
use Rattle.std.proofs.lemmas.List.{take_more}
use Rattle.std.proofs.lemmas.List.FromFn.{length-range_with_len, get_or-range_with_len}
use Rattle.std.proofs.lemmas.Map.Keys.{IsDistinct-IsPermutation, IsDistinct-from_apart, apart_from_distinct}
use Rattle.pq_base.specs.declared.value.Value.{Value}
use Rattle.pq_base.specs.Members.{In}
use Rattle.pq_plan.specs.Answer.{Question, rows_at, product}
use Rattle.pq_base.proofs.Members.{in_either}
use Rattle.pq_arrange.proofs.Assigned.{put, assigned, Differ}

abbrev same_number : ℕ → ℕ → Bool
same_number a b = a == b

flips : (a b : ℕ) → same_number a b ≡ same_number b a
flips a b = elim (cases_eq a b) [
  | inl e ↦ eq-eqb a b e ∙ sym (eq-eqb b a (sym e))
  | inr other ↦ ne_eqb a b other ∙ sym (ne_eqb b a (λ e. other (sym e)))
]

-- the first members of an order, the last of them first
abbrev pub down : List ℕ → ℕ → List ℕ
down order zero = []
down order (suc i) = get_or order i 0 ∷ down order i

pub down_long : (order : List ℕ) (i : ℕ) → length (down order i) ≡ i
down_long order zero = refl
down_long order (suc i) = let h : length (down order i) ≡ i = down_long order i in omega (arith, h)

pub in_down : (order : List ℕ) (x i : ℕ) → In x (down order i) → (j : ℕ) × (j < i) × (get_or order j 0 ≡ x)
in_down order x zero i = absurd i
in_down order x (suc i) (inl e) = (i, omega arith, e)
in_down order x (suc i) (inr r) = let h = in_down order x i r in (h.0, omega (arith, h.1), h.2)

pub down_in : (order : List ℕ) (j i : ℕ) → j < i → In (get_or order j 0) (down order i)
down_in order j zero h = absurd (omega arith)
down_in order j (suc i) h = elim (cases_eq i j) [
  | inl e ↦ inl (ap (λ (n : ℕ). get_or order n 0) e)
  | inr other ↦ inr (down_in order j i (omega arith))
]

-- an order of numbers that differ
pub record IsOrder (order : List ℕ) : Type 0 where
  pub apart : IsDistinct same_number order

fresh : (order : List ℕ) → IsOrder order → (i : ℕ) → i < length order → In (get_or order i 0) (down order i) → ⊥
fresh order o i inside here =
    let h = in_down order (get_or order i 0) i here in
    false≢true (sym (apart_from_distinct same_number order h.0 i 0 o.apart h.1 inside) ∙ eq-eqb _ _ h.2)

pub differ : (order : List ℕ) → IsOrder order → (i : ℕ) → i ≤ length order → Differ (down order i)
differ order o zero h = tt
differ order o (suc i) h = (fresh order o i (omega arith), differ order o i (omega arith))

take_next : (order : List ℕ) (i : ℕ) → i < length order → take (suc i) order ≡ take i order ++ get_or order i 0 ∷ []
take_next order i inside = let e : suc i ≡ i + 1 = omega arith in ap (λ (n : ℕ). take n order) e ∙ take_more order i 0 inside

in_take : (order : List ℕ) (x i : ℕ) → i ≤ length order → In x (take i order) → In x (down order i)
in_take order x zero h here = here
in_take order x (suc i) h here =
    let inside : i < length order = omega arith in
    let more : take (suc i) order ≡ take i order ++ get_or order i 0 ∷ [] = take_next order i inside in
    elim (in_either x (take i order) (get_or order i 0 ∷ []) (subst (In x) more here)) [
      | inl early ↦ inr (in_take order x i (omega arith) early)
      | inr (inl e) ↦ inl e
      | inr (inr none) ↦ absurd none
    ]

take_all : {X : Type 0} (xs : List X) → take (length xs) xs ≡ xs
take_all [] = refl
take_all (x ∷ xs) = ap (λ l. x ∷ l) (take_all xs)

-- the whole range is in order
pub range_order : (m : ℕ) → IsOrder (range_with_len 1 m)
range_order m = record {
  apart = IsDistinct-from_apart same_number (range_with_len 1 m) (λ i j d low high.
      let inside : j < m = subst (λ (n : ℕ). j < n) (length-range_with_len 1 m) high in
      let a : get_or (range_with_len 1 m) i d ≡ 1 + i = get_or-range_with_len 1 m i d (omega arith) in
      let b : get_or (range_with_len 1 m) j d ≡ 1 + j = get_or-range_with_len 1 m j d inside in
      ne_eqb _ _ (λ e. absurd (omega (arith, a, b, e, low))));
}

pub permuted_order : (m : ℕ) (order : List ℕ) → IsPermutation (range_with_len 1 m) order → IsOrder order
permuted_order m order p = record { apart = IsDistinct-IsPermutation same_number flips (range_with_len 1 m) order p (range_order m).apart }

-- ---- lists of lists
map_map : {A B C : Type 0} (f : B → C) (g : A → B) (xs : List A) → map f (map g xs) ≡ map (λ x. f (g x)) xs
map_map f g [] = refl
map_map f g (x ∷ xs) = ap (λ l. f (g x) ∷ l) (map_map f g xs)

map_append : {A B : Type 0} (f : A → B) (xs ys : List A) → map f (xs ++ ys) ≡ map f xs ++ map f ys
map_append f [] ys = refl
map_append f (x ∷ xs) ys = ap (λ l. f x ∷ l) (map_append f xs ys)

map_flat : {A B C : Type 0} (f : B → C) (g : A → List B) (xs : List A) → map f (flat_map g xs) ≡ flat_map (λ x. map f (g x)) xs
map_flat f g [] = refl
map_flat f g (x ∷ xs) = map_append f (g x) (flat_map g xs) ∙ ap (λ l. map f (g x) ++ l) (map_flat f g xs)

flat_map_map : {A B C : Type 0} (f : B → List C) (g : A → B) (xs : List A) → flat_map f (map g xs) ≡ flat_map (λ x. f (g x)) xs
flat_map_map f g [] = refl
flat_map_map f g (x ∷ xs) = ap (λ l. f (g x) ++ l) (flat_map_map f g xs)

pub map_same : {A B : Type 0} (f g : A → B) (xs : List A) → ((x : A) → In x xs → f x ≡ g x) → map f xs ≡ map g xs
map_same f g [] h = refl
map_same f g (x ∷ xs) h = λ i. h x (inl refl) i ∷ map_same f g xs (λ y r. h y (inr r)) i

abbrev pub base : ℕ → List Value
base rel = []

-- the product of relations whose rows are those of an order's members
module _ (q : Question) (order : List ℕ) (rows : ℕ → List (List Value)) (o : IsOrder order) (at : (i : ℕ) → i < length order → rows_at q (suc i) ≡ rows (get_or order i 0)) where
  one : (i : ℕ) → i < length order → (g : ℕ → List Value) (r : List Value) → map g (take i order) ++ r ∷ [] ≡ map (put g (get_or order i 0) r) (take (suc i) order)
  one i inside g r =
      let k : ℕ = get_or order i 0 in
      let more : take (suc i) order ≡ take i order ++ k ∷ [] = take_next order i inside in
      let last : put g k r k ≡ r = ap (λ b. cond b r (g k)) (eq-eqb k k refl) in
      let early : map (put g k r) (take i order) ≡ map g (take i order) = map_same (put g k r) g (take i order) (λ x here. ap (λ b. cond b r (g x)) (ne_eqb x k (λ e. fresh order o i inside (subst (λ (n : ℕ). In n (down order i)) e (in_take order x i (omega arith) here))))) in
      sym (ap (map (put g k r)) more ∙ map_append (put g k r) (take i order) (k ∷ []) ∙ (λ j. early j ++ last j ∷ []))

  upto : (i : ℕ) → i ≤ length order → product q i ≡ map (λ g. map g (take i order)) (assigned rows base (down order i))
  upto zero h = refl
  upto (suc i) h =
      let k : ℕ = get_or order i 0 in
      let inside : i < length order = omega arith in
      let gs : List (ℕ → List Value) = assigned rows base (down order i) in
      (λ j. flat_map (λ combo. map (λ row. combo ++ row ∷ []) (at i inside j)) (upto i (omega arith) j))
      ∙ flat_map_map (λ (combo : List (List Value)). map (λ row. combo ++ row ∷ []) (rows k)) (λ (g : ℕ → List Value). map g (take i order)) gs
      ∙ ap (λ (f : (ℕ → List Value) → List (List (List Value))). flat_map f gs) (λ j g. map (λ row. one i inside g row j) (rows k))
      ∙ ap (λ (f : (ℕ → List Value) → List (List (List Value))). flat_map f gs) (λ j g. sym (map_map (λ (h : ℕ → List Value). map h (take (suc i) order)) (put g k) (rows k)) j)
      ∙ sym (map_flat (λ (h : ℕ → List Value). map h (take (suc i) order)) (λ g. map (put g k) (rows k)) gs)

  pub products : product q (length order) ≡ map (λ g. map g order) (assigned rows base (down order (length order)))
  products = upto (length order) (omega arith) ∙ ap (λ (l : List ℕ). map (λ g. map g l) (assigned rows base (down order (length order)))) (take_all order)
