-- A stop scan is, per input, the first k rows of one range of the sequence, merged by position.
use Rattle.std.proofs.Common.{◌≡◌, ℕ, zero, suc, Bool, true, false, cond, ◌&&◌, List, [], ◌∷◌, ◌++◌, length, map, filter, flat_map, take, Option, Some, None, refl, sym, ap, ◌∙◌}
use Rattle.std.specs.declared.cmp.Ordering.{Ordering}
use Rattle.std.specs.Ordering.{is_gt}
use Rattle.std.specs.Cmp.{IsTotalOrder}
use Rattle.std.specs.List.{AllByRecursion}
use Rattle.std.proofs.lemmas.Bool.{and_parts}
use Rattle.std.proofs.lemmas.List.{take-map}
use Rattle.pq_base.specs.declared.value.Value.{Value}
use Rattle.pq_base.specs.Order.{position_cmp}
use Rattle.pq_base.proofs.Sorts.{each-sort_by}
use Rattle.pq_base.specs.Members.{In}
use Rattle.pq_base.specs.Sorting.{placed, sort_by}
use Rattle.pq_schema.specs.Keys.{dirs_of}
use Rattle.pq_schema.specs.declared.table.KeyPart.{KeyPart}
use Rattle.pq_schema.specs.Relations.{position_columns}
use Rattle.pq_plan.specs.Answer.{Question, rows_at, position, by_position, in_order, past, first_past}
use Rattle.pq_plan.specs.Meaning.{keeps, partners, followed, read}
use Rattle.pq_base.proofs.Members.{each_in, each_by_in, in_filter, filter_same, filter_all, filter_both, filter-map, filter-flat_map, flat_map_same}
use Rattle.pq_plan.proofs.Orders.{filter-sort_by}
use Rattle.pq_plan.proofs.Positions.{position_cmp_total}
use Rattle.pq_serving.specs.Scanning.{position_directions, passes, lies_within, cells_of, scan}
use Rattle.pq_serving.proofs.Merge.{first_of_each}
use Rattle.pq_serving.proofs.Served.{HasColumns, IsServed}
use Rattle.pq_serving.proofs.Constants.{order_is}
use Rattle.pq_serving.proofs.Rows.{row_after, is_after}

-- a sort of a list made from another
module _ {K X W : Type 0} (R : K → K → Ordering) (key : W → K) (f : X → W) where
  placed-map : (x : X) (xs : List X) → placed R key (f x) (map f xs) ≡ map f (placed R (λ x. key (f x)) x xs)
  placed-map x [] = refl
  placed-map x (y ∷ ys) = elim (is_gt (R (key (f x)) (key (f y)))) as (λ b. cond b (f y ∷ placed R key (f x) (map f ys)) (f x ∷ f y ∷ map f ys) ≡ map f (cond b (y ∷ placed R (λ x. key (f x)) x ys) (x ∷ y ∷ ys))) [ true ↦ ap (λ l. f y ∷ l) (placed-map x ys) | false ↦ refl ]

  pub sort_by-map : (xs : List X) → sort_by R key (map f xs) ≡ map f (sort_by R (λ x. key (f x)) xs)
  sort_by-map [] = refl
  sort_by-map (x ∷ xs) = ap (placed R key (f x)) (sort_by-map xs) ∙ placed-map x (sort_by R (λ x. key (f x)) xs)

-- two orders that agree on the elements sort them alike
module _ {K J X : Type 0} (R : K → K → Ordering) (key : X → K) (Q : J → J → Ordering) (other : X → J) (P : X → Type 0) (agree : (x y : X) → P x → P y → R (key x) (key y) ≡ Q (other x) (other y)) where
  placed_alike : (x : X) (ys : List X) → P x → AllByRecursion P ys → placed R key x ys ≡ placed Q other x ys
  placed_alike x [] p h = refl
  placed_alike x (y ∷ ys) p h = λ i. cond (is_gt (agree x y p h.0 i)) (y ∷ placed_alike x ys p h.1 i) (x ∷ y ∷ ys)

  pub sort_alike : (xs : List X) → AllByRecursion P xs → sort_by R key xs ≡ sort_by Q other xs
  sort_alike [] h = refl
  sort_alike (x ∷ xs) h = ap (placed R key x) (sort_alike xs h.1) ∙ placed_alike x (sort_by Q other xs) h.0 (each-sort_by Q other P xs h.1)

-- strictly after the cursor, as a filter
past_is : (q : Question) (after : Option (List Value)) (combos : List (List (List Value))) → past q after combos ≡ filter (is_after q after) combos
past_is q None combos = sym (filter_all (λ _. true) combos (each_by_in _ combos (λ c here. refl)))
past_is q (Some at) combos = refl

module _ (q : Question) (p : ℕ) (sequence : List KeyPart) (s : IsServed q p sequence) (wide : (r : List Value) → In r (rows_at q p) → HasColumns sequence r)
    (after : Option (List Value)) (fits : (at : List Value) → after ≡ Some at → length at ≡ length (position_columns q.tables q.query)) (k : ℕ) where
  abbrev behind : List (List Value) → List Value → List (List Value)
  behind c r = c ++ r ∷ []

  -- of one input: the first k by position, strictly after the cursor, are the first k rows of its range
  pub one_input : (c : List (List Value)) → suc (length c) ≡ p → take k (in_order q (filter (is_after q after) (followed q p c))) ≡ scan q p sequence k after c
  one_input c long =
      let rows = rows_at q p in
      let test = λ (r : List Value). keeps q p (behind c r) && is_after q after (behind c r) in
      let lies = λ (r : List Value). lies_within q p sequence c after (cells_of q p sequence r) in
      let kept : (r : List Value) → In r (filter test rows) → keeps q p (behind c r) ≡ true = λ r here. (and_parts _ _ (in_filter test r rows here).1).0 in
      let inside : (r : List Value) → In r rows → test r ≡ (passes q p c && lies r) = λ r here. row_after q p sequence s c long r (wide r here) after fits in
      ap (λ l. take k (in_order q l)) (filter-map (is_after q after) (behind c) (partners q p c) ∙ ap (map (behind c)) (filter_both (λ r. is_after q after (behind c r)) (λ r. keeps q p (behind c r)) rows))
      ∙ ap (take k) (sort_by-map (by_position q) (position q) (behind c) (filter test rows))
      ∙ take-map (behind c) k (sort_by (by_position q) (λ r. position q (behind c r)) (filter test rows))
      ∙ ap (λ l. map (behind c) (take k l)) (sort_alike (by_position q) (λ r. position q (behind c r)) (position_cmp (dirs_of sequence)) (cells_of q p sequence) (λ r. keeps q p (behind c r) ≡ true) (λ r w g h. order_is q p sequence s c r w long g h) (filter test rows) (each_by_in _ (filter test rows) kept))
      ∙ ap (λ l. map (behind c) (take k (sort_by (position_cmp (dirs_of sequence)) (cells_of q p sequence) l))) (filter_same test (λ r. passes q p c && lies r) rows (each_by_in _ rows inside))
      ∙ ap (map (behind c)) (by_passes (passes q p c) lies rows)
    where
      nothing : (k : ℕ) → (let none : List (List Value) = [] in take k none ≡ none)
      nothing zero = refl
      nothing (suc k) = refl

      none : {X : Type 0} (xs : List X) → filter (λ (x : X). false) xs ≡ []
      none [] = refl
      none (x ∷ xs) = none xs

      by_passes : (b : Bool) (lies : List Value → Bool) (rows : List (List Value)) → take k (sort_by (position_cmp (dirs_of sequence)) (cells_of q p sequence) (filter (λ r. b && lies r) rows)) ≡ cond b (take k (sort_by (position_cmp (dirs_of sequence)) (cells_of q p sequence) (filter lies rows))) []
      by_passes true lies rows = refl
      by_passes false lies rows = ap (λ l. take k (sort_by (position_cmp (dirs_of sequence)) (cells_of q p sequence) l)) (none rows) ∙ nothing k

  -- the whole: the merged scans are the meaning of the stop scan, whatever the inputs are
  pub stop_scan_is : (inputs : List (List (List Value))) → AllByRecursion (λ c. suc (length c) ≡ p) inputs → first_past q after k (in_order q (read q p inputs)) ≡ take k (in_order q (flat_map (scan q p sequence k after) inputs))
  stop_scan_is inputs long =
      let total : IsTotalOrder (by_position q) = position_cmp_total (position_directions q p) in
      let kept = λ (c : List (List Value)). filter (is_after q after) (followed q p c) in
      ap (take k) (past_is q after (in_order q (read q p inputs)))
      ∙ ap (take k) (filter-sort_by (by_position q) (position q) total (is_after q after) (read q p inputs))
      ∙ ap (λ l. take k (in_order q l)) (filter-flat_map (is_after q after) (followed q p) inputs)
      ∙ sym (first_of_each (by_position q) (position q) total k kept inputs)
      ∙ ap (λ l. take k (in_order q l)) (flat_map_same (λ c. take k (in_order q (kept c))) (scan q p sequence k after) inputs (each_by_in _ inputs (λ c here. one_input c (each_in (λ c. suc (length c) ≡ p) inputs long c here))))
