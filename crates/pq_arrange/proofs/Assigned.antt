-- Rows that are assigned to relations, one relation after the other, in any order of them.
use Rattle.std.proofs.Common.{◌≡◌, ℕ, zero, suc, true, false, cond, ◌==◌, inl, inr, List, [], ◌∷◌, ◌++◌, length, map, flat_map, append_assoc, refl, sym, ap, ◌∙◌, subst, arith}
use Rattle.std.proofs.lemmas.Bool.{cases_eq, eqb-true}
use Rattle.pq_base.specs.Members.{In}
use Rattle.pq_base.proofs.Members.{in_left, in_right, in_either}
use Rattle.pq_base.proofs.Shuffles.{Shuffle, same, then, equal, back, flattened, each_shuffled, exchanged}

abbrev pub Differ : List ℕ → Type 0
Differ [] = Unit {0}
Differ (x ∷ xs) = (In x xs → ⊥) × Differ xs

module _ {R : Type 0} where
  abbrev pub put : (ℕ → R) → ℕ → R → ℕ → R
  put g k r j = cond (j == k) r (g j)

  -- each way to assign rows to these relations, the first of them last
  abbrev pub assigned : (ℕ → List R) → (ℕ → R) → List ℕ → List (ℕ → R)
  assigned rows base [] = base ∷ []
  assigned rows base (k ∷ ks) = flat_map (λ g. map (put g k) (rows k)) (assigned rows base ks)

  module _ (rows : ℕ → List R) (base : ℕ → R) where
    abbrev step : ℕ → List (ℕ → R) → List (ℕ → R)
    step k gs = flat_map (λ g. map (put g k) (rows k)) gs

    crossed : (k j : ℕ) → (k ≡ j → ⊥) → (g : ℕ → R) (r s : R) → put (put g k r) j s ≡ put (put g j s) k r
    crossed k j apart g r s = λ i n. one n i
      where
        one : (n : ℕ) → put (put g k r) j s n ≡ put (put g j s) k r n
        one n =
            elim (n == j) as (λ b. (n == j) ≡ b → cond b s (cond (n == k) r (g n)) ≡ cond (n == k) r (cond b s (g n))) [
              | true ↦ λ e. elim (n == k) as (λ c. (n == k) ≡ c → s ≡ cond c r s) [
                | true ↦ λ f. absurd (apart (sym (eqb-true n k f) ∙ eqb-true n j e))
                | false ↦ λ _. refl
              ] refl
              | false ↦ λ _. refl
            ] refl

    map_map : {A B C : Type 0} (f : B → C) (g : A → B) (xs : List A) → map f (map g xs) ≡ map (λ x. f (g x)) xs
    map_map f g [] = refl
    map_map f g (x ∷ xs) = ap (λ l. f (g x) ∷ l) (map_map f g xs)

    flat_map_map : {A B C : Type 0} (f : B → List C) (g : A → B) (xs : List A) → flat_map f (map g xs) ≡ flat_map (λ x. f (g x)) xs
    flat_map_map f g [] = refl
    flat_map_map f g (x ∷ xs) = ap (λ l. f (g x) ++ l) (flat_map_map f g xs)

    flat_map_flat : {A B C : Type 0} (f : B → List C) (g : A → List B) (xs : List A) → flat_map f (flat_map g xs) ≡ flat_map (λ x. flat_map f (g x)) xs
    flat_map_flat f g [] = refl
    flat_map_flat f g (x ∷ xs) = over (g x) (flat_map g xs) ∙ ap (λ l. flat_map f (g x) ++ l) (flat_map_flat f g xs)
      where
        over : (us vs : List _) → flat_map f (us ++ vs) ≡ flat_map f us ++ flat_map f vs
        over [] vs = refl
        over (u ∷ us) vs = ap (λ l. f u ++ l) (over us vs) ∙ sym (append_assoc (f u) (flat_map f us) (flat_map f vs))

    -- two relations, in either order
    two : (k j : ℕ) → (k ≡ j → ⊥) → (gs : List (ℕ → R)) → Shuffle (step j (step k gs)) (step k (step j gs))
    two k j apart gs =
        then (step j (step k gs)) (flat_map (λ g. flat_map (λ r. map (put (put g k r) j) (rows j)) (rows k)) gs) (step k (step j gs))
        (equal _ _ (flat_map_flat (λ g. map (put g j) (rows j)) (λ g. map (put g k) (rows k)) gs ∙ pointwise gs k j))
        (then (flat_map (λ g. flat_map (λ r. map (put (put g k r) j) (rows j)) (rows k)) gs) (flat_map (λ g. flat_map (λ s. map (put (put g j s) k) (rows k)) (rows j)) gs) (step k (step j gs))
        (each_shuffled (λ g. flat_map (λ r. map (put (put g k r) j) (rows j)) (rows k)) (λ g. flat_map (λ s. map (put (put g j s) k) (rows k)) (rows j)) gs one)
        (equal _ _ (sym (flat_map_flat (λ g. map (put g k) (rows k)) (λ g. map (put g j) (rows j)) gs ∙ pointwise gs j k))))
      where
        pointwise : (gs : List (ℕ → R)) (k j : ℕ) → flat_map (λ g. flat_map (λ g. map (put g j) (rows j)) (map (put g k) (rows k))) gs ≡ flat_map (λ g. flat_map (λ r. map (put (put g k r) j) (rows j)) (rows k)) gs
        pointwise gs k j = ap (λ (f : (ℕ → R) → List (ℕ → R)). flat_map f gs) (λ i g. flat_map_map (λ g. map (put g j) (rows j)) (put g k) (rows k) i)

        one : (g : ℕ → R) → Shuffle (flat_map (λ r. map (put (put g k r) j) (rows j)) (rows k)) (flat_map (λ s. map (put (put g j s) k) (rows k)) (rows j))
        one g = subst (λ (h : R → R → ℕ → R). Shuffle (flat_map (λ r. map (λ s. put (put g k r) j s) (rows j)) (rows k)) (flat_map (λ s. map (λ r. h s r) (rows k)) (rows j)))
            (λ i s r. crossed k j apart g r s i)
            (exchanged (λ r s. put (put g k r) j s) (rows k) (rows j))

    -- a relation that is not among the first may come first
    pub pulled : (a : List ℕ) (k : ℕ) (b : List ℕ) → (In k a → ⊥) → Shuffle (assigned rows base (a ++ k ∷ b)) (assigned rows base (k ∷ (a ++ b)))
    pulled [] k b out = same (assigned rows base (k ∷ b))
    pulled (j ∷ a) k b out =
        then (step j (assigned rows base (a ++ k ∷ b))) (step j (step k (assigned rows base (a ++ b)))) (step k (step j (assigned rows base (a ++ b))))
        (flattened (λ g. map (put g j) (rows j)) (assigned rows base (a ++ k ∷ b)) (step k (assigned rows base (a ++ b))) (pulled a k b (λ i. out (inr i))))
        (two k j (λ e. out (inl (sym e))) (assigned rows base (a ++ b)))

    abbrev Splits : ℕ → List ℕ → Type 0
    Splits x ys = (a : List ℕ) × (b : List ℕ) × (ys ≡ a ++ x ∷ b) × (In x a → ⊥)

    -- the first place of a member
    first_place : (x : ℕ) (ys : List ℕ) → In x ys → Splits x ys
    first_place x [] i = absurd i
    first_place x (y ∷ ys) i = elim (cases_eq y x) [
      | inl e ↦ ([], ys, ap (λ (z : ℕ). z ∷ ys) e, λ none. none)
      | inr other ↦
          let rest : Splits x ys = first_place x ys (elim i [ inl e ↦ absurd (other e) | inr r ↦ r ]) in
          (y ∷ rest.0, rest.1, ap (λ l. y ∷ l) rest.2, λ here. elim here [ inl e ↦ other e | inr r ↦ rest.3 r ])
    ]

    -- the same relations in any order
    pub any_order : (xs ys : List ℕ) → Differ xs → ((x : ℕ) → In x xs → In x ys) → length xs ≡ length ys → Shuffle (assigned rows base xs) (assigned rows base ys)
    any_order [] [] d h l = same (assigned rows base [])
    any_order [] (y ∷ ys) d h l = absurd (omega arith)
    any_order (x ∷ xs) ys d h l =
        let s = first_place x ys (h x (inl refl)) in
        let a : List ℕ = s.0 in
        let b : List ℕ = s.1 in
        let shorter : length xs ≡ length (a ++ b) = fewer a b x (length xs) (l ∙ ap length s.2) in
        let rest = any_order xs (a ++ b) d.1 (λ y i. among a b x y (λ e. d.0 (subst (λ (z : ℕ). In z xs) (sym e) i)) (subst (In y) s.2 (h y (inr i)))) shorter in
        then (assigned rows base (x ∷ xs)) (assigned rows base (x ∷ (a ++ b))) (assigned rows base ys)
        (flattened (λ g. map (put g x) (rows x)) (assigned rows base xs) (assigned rows base (a ++ b)) rest)
        (subst (λ (l : List ℕ). Shuffle (assigned rows base (x ∷ (a ++ b))) (assigned rows base l)) (sym s.2)
        (back (assigned rows base (a ++ x ∷ b)) (assigned rows base (x ∷ (a ++ b))) (pulled a x b s.3)))
      where
        fewer : (a b : List ℕ) (x n : ℕ) → suc n ≡ length (a ++ x ∷ b) → n ≡ length (a ++ b)
        fewer [] b x n e = omega (arith, e)
        fewer (y ∷ a) b x zero e = absurd (none a b x (omega (arith, e)))
          where
            none : (a b : List ℕ) (x : ℕ) → 0 ≡ length (a ++ x ∷ b) → ⊥
            none [] b x e = absurd (omega (arith, e))
            none (y ∷ a) b x e = absurd (omega (arith, e))
        fewer (y ∷ a) b x (suc n) e = let r : n ≡ length (a ++ b) = fewer a b x n (omega (arith, e)) in omega (arith, r)

        among : (a b : List ℕ) (x y : ℕ) → (x ≡ y → ⊥) → In y (a ++ x ∷ b) → In y (a ++ b)
        among a b x y apart i = elim (in_either y a (x ∷ b) i) [
          | inl here ↦ in_left y a b here
          | inr (inl e) ↦ absurd (apart e)
          | inr (inr there) ↦ in_right y a b there
        ]
