-- Following each item by exactly one of the same position commutes with an order, a cursor and a cut.
use Rattle.std.proofs.Common.{◌≡◌, ℕ, zero, suc, Bool, true, false, cond, List, [], ◌∷◌, ◌++◌, filter, flat_map, take, refl, sym, ap, ◌∙◌}
use Rattle.std.specs.declared.cmp.Ordering.{Ordering}
use Rattle.std.specs.Ordering.{is_gt}
use Rattle.std.specs.List.{AllByRecursion}
use Rattle.pq_base.specs.Sorting.{placed, sort_by}
use Rattle.pq_base.proofs.Sorts.{each-sort_by}

module _ {X Y K : Type 0} (R : K → K → Ordering) (at : X → K) (at' : Y → K) (g : X → List Y) where
  -- one item, at the same position
  abbrev pub Follows : X → Type 0
  Follows x = (y : Y) × (g x ≡ y ∷ []) × (at' y ≡ at x)

  pub follow-placed : (x : X) (y : Y) (xs : List X) → g x ≡ y ∷ [] → at' y ≡ at x → AllByRecursion Follows xs → flat_map g (placed R at x xs) ≡ placed R at' y (flat_map g xs)
  follow-placed x y [] one same h = ap (λ l. l ++ []) one
  follow-placed x y (z ∷ zs) one same h =
      let w = h.0.0 in
      elim (is_gt (R (at x) (at z))) as (λ b. is_gt (R (at x) (at z)) ≡ b → flat_map g (cond b (z ∷ placed R at x zs) (x ∷ z ∷ zs)) ≡ placed R at' y (flat_map g (z ∷ zs))) [
        | true ↦ λ above.
            (λ i. h.0.1 i ++ follow-placed x y zs one same h.1 i)
            ∙ ap (λ b. cond b (w ∷ placed R at' y (flat_map g zs)) (y ∷ w ∷ flat_map g zs)) (sym (ap is_gt (λ i. R (same i) (h.0.2 i)) ∙ above))
            ∙ ap (λ l. placed R at' y (l ++ flat_map g zs)) (sym h.0.1)
        | false ↦ λ below.
            (λ i. one i ++ (h.0.1 i ++ flat_map g zs))
            ∙ ap (λ b. cond b (w ∷ placed R at' y (flat_map g zs)) (y ∷ w ∷ flat_map g zs)) (sym (ap is_gt (λ i. R (same i) (h.0.2 i)) ∙ below))
            ∙ ap (λ l. placed R at' y (l ++ flat_map g zs)) (sym h.0.1)
      ] refl

  pub follow-sort_by : (xs : List X) → AllByRecursion Follows xs → sort_by R at' (flat_map g xs) ≡ flat_map g (sort_by R at xs)
  follow-sort_by [] h = refl
  follow-sort_by (x ∷ xs) h =
      ap (λ l. sort_by R at' (l ++ flat_map g xs)) h.0.1
      ∙ ap (placed R at' h.0.0) (follow-sort_by xs h.1)
      ∙ sym (follow-placed x h.0.0 (sort_by R at xs) h.0.1 h.0.2 (each-sort_by R at Follows xs h.1))

  pub follow-filter : (p : K → Bool) (xs : List X) → AllByRecursion Follows xs → filter (λ y. p (at' y)) (flat_map g xs) ≡ flat_map g (filter (λ x. p (at x)) xs)
  follow-filter p [] h = refl
  follow-filter p (x ∷ xs) h =
      let rest = filter (λ y. p (at' y)) (flat_map g xs) in
      ap (λ l. filter (λ y. p (at' y)) (l ++ flat_map g xs)) h.0.1
      ∙ ap (λ (k : K). cond (p k) (h.0.0 ∷ rest) rest) h.0.2
      ∙ ap (λ l. cond (p (at x)) (h.0.0 ∷ l) l) (follow-filter p xs h.1)
      ∙ elim (p (at x)) as (λ b. cond b (h.0.0 ∷ flat_map g (filter (λ x. p (at x)) xs)) (flat_map g (filter (λ x. p (at x)) xs)) ≡ flat_map g (cond b (x ∷ filter (λ x. p (at x)) xs) (filter (λ x. p (at x)) xs))) [
        | true ↦ ap (λ l. l ++ flat_map g (filter (λ x. p (at x)) xs)) (sym h.0.1)
        | false ↦ refl
      ]

  pub follow-take : (k : ℕ) (xs : List X) → AllByRecursion Follows xs → take k (flat_map g xs) ≡ flat_map g (take k xs)
  follow-take zero xs h = refl
  follow-take (suc k) [] h = refl
  follow-take (suc k) (x ∷ xs) h =
      ap (λ l. take (suc k) (l ++ flat_map g xs)) h.0.1
      ∙ ap (λ l. h.0.0 ∷ l) (follow-take k xs h.1)
      ∙ ap (λ l. l ++ flat_map g (take k xs)) (sym h.0.1)
