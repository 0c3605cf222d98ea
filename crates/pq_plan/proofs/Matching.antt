-- A lookup or a range, filtered, is a read.
use Rattle.std.proofs.Common.{◌≡◌, ℕ, suc, inl, Bool, true, false, cond, ◌&&◌, List, [], ◌∷◌, ◌++◌, length, map, filter, take, slice_get, Some, refl, sym, ap, ◌∙◌}
use Rattle.std.specs.Ordering.{eq_by_cmp}
use Rattle.std.specs.List.{AllByRecursion}
use Rattle.std.proofs.lemmas.Bool.{false_from_ne_true, and_parts}
use Rattle.std.proofs.lemmas.Option.{get_or_from_slice_get}
use Rattle.pq_base.specs.declared.value.Value.{Value}
use Rattle.pq_base.specs.declared.op.Op.TheVariants as op
use Rattle.pq_schema.specs.declared.query.Pred.{Pred}
use Rattle.pq_schema.specs.Sound.{IsNamedPred}
use Rattle.pq_schema.specs.Relations.{ties}
use Rattle.pq_base.specs.Members.{In, Apart}
use Rattle.pq_base.specs.Comparing.{compares}
use Rattle.pq_plan.specs.Answer.{Question, rows_at, no_value}
use Rattle.pq_plan.specs.Kept.{row_cmp, cells}
use Rattle.pq_plan.specs.Meaning.{keeps, partners, read, key_of}
use Rattle.pq_plan.specs.Running.{tied_value, is_match, matching, looked_up, ranged}
use Rattle.pq_base.proofs.Members.{each_in, each_by_in, filter_none, filter_same, filter_both, filter-map, filter-flat_map, flat_map_same, all_at}
use Rattle.pq_plan.proofs.ValueOrder.{row_total}
use Rattle.pq_plan.proofs.Apart.{differs}
use Rattle.pq_plan.proofs.Fixed.{both_are, passes_match}

-- the columns are tied by equalities that belong to the relation
abbrev pub AreTied : Question → ℕ → List ℕ → Type 0
AreTied q i columns = (k : ℕ) → In k columns → In k (map (λ (p : Pred). p.left.col) (filter (ties i) q.query.preds))

module _ (q : Question) (named : (p : Pred) → In p q.query.preds → IsNamedPred (length q.query.relations) p) where
  -- of the rows that match, the predicates keep the partners
  kept_matching : (i : ℕ) (columns : List ℕ) → AreTied q i columns → (c : List (List Value)) → suc (length c) ≡ i → filter (λ r. keeps q i (c ++ r ∷ [])) (matching q i columns c) ≡ partners q i c
  kept_matching i columns tied c l =
      filter_both (λ r. keeps q i (c ++ r ∷ [])) (is_match q i columns c) (rows_at q i)
      ∙ filter_same _ _ (rows_at q i) (each_by_in _ (rows_at q i) (λ r _. one r))
    where
      one : (r : List Value) → (is_match q i columns c r && keeps q i (c ++ r ∷ [])) ≡ keeps q i (c ++ r ∷ [])
      one r = elim (keeps q i (c ++ r ∷ [])) as (λ b. keeps q i (c ++ r ∷ []) ≡ b → (is_match q i columns c r && b) ≡ b) [
        | true ↦ λ is. ap (λ b. b && true) (passes_match q named i columns tied c r l is)
        | false ↦ λ _. no_more (is_match q i columns c r)
      ] refl
        where
          no_more : (b : Bool) → (b && false) ≡ false
          no_more true = refl
          no_more false = refl

  pub range_filtered : (i : ℕ) (columns : List ℕ) → AreTied q i columns → (inputs : List (List (List Value))) → AllByRecursion (λ c. suc (length c) ≡ i) inputs → filter (keeps q i) (ranged q i columns inputs) ≡ read q i inputs
  range_filtered i columns tied inputs l =
      filter-flat_map (keeps q i) (λ c. map (λ r. c ++ r ∷ []) (matching q i columns c)) inputs
      ∙ flat_map_same _ _ inputs (each_by_in _ inputs (λ c here.
      filter-map (keeps q i) (λ (r : List Value). c ++ r ∷ []) (matching q i columns c)
      ∙ ap (map (λ (r : List Value). c ++ r ∷ [])) (kept_matching i columns tied c (each_in (λ c. suc (length c) ≡ i) inputs l c here))))

  -- rows that match at some columns have one value there
  one_value : (i : ℕ) (c : List (List Value)) (columns : List ℕ) (r w : List Value) → is_match q i columns c r ≡ true → is_match q i columns c w ≡ true → cells columns r ≡ cells columns w
  one_value i c [] r w a b = refl
  one_value i c (k ∷ ks) r w a b =
      let test = λ (row : List Value). λ (col : ℕ). compares op.Eq (slice_get row col) (tied_value q i c col) in
      let x = both_are (slice_get r k) (tied_value q i c k) (all_at (test r) (k ∷ ks) a k (inl refl)) in
      let y = both_are (slice_get w k) (tied_value q i c k) (all_at (test w) (k ∷ ks) b k (inl refl)) in
      let same : x.0 ≡ y.0 = some_same x.0 y.0 (sym x.2 ∙ y.2) in
      let first = get_or_from_slice_get r k x.0 no_value x.1 ∙ same ∙ sym (get_or_from_slice_get w k y.0 no_value y.1) in
      λ j. first j ∷ one_value i c ks r w (and_parts _ _ a).1 (and_parts _ _ b).1 j
    where
      some_same : (x y : Value) → Some x ≡ Some y → x ≡ y
      some_same x y e = cc

  -- no more than one row has a key
  one_match : (i : ℕ) (c : List (List Value)) (rows : List (List Value)) → Apart row_cmp (cells (key_of q i)) rows → take 1 (filter (is_match q i (key_of q i) c) rows) ≡ filter (is_match q i (key_of q i) c) rows
  one_match i c [] h = refl
  one_match i c (w ∷ rows) h =
      let t = is_match q i (key_of q i) c in
      elim (t w) as (λ b. t w ≡ b → take 1 (cond b (w ∷ filter t rows) (filter t rows)) ≡ cond b (w ∷ filter t rows) (filter t rows)) [
        | true ↦ λ is.
            let none : filter t rows ≡ [] = filter_none t rows (each_by_in _ rows (λ y there. false_from_ne_true (t y) (λ e. differs row_cmp row_total _ _ (each_in (λ y. eq_by_cmp row_cmp (cells (key_of q i) w) (cells (key_of q i) y) ≡ false) rows h.0 y there) (one_value i c (key_of q i) w y is e)))) in
            ap (λ l. w ∷ l) (sym none)
        | false ↦ λ _. one_match i c rows h.1
      ] refl

  pub lookup_filtered : (i : ℕ) → Apart row_cmp (cells (key_of q i)) (rows_at q i) → AreTied q i (key_of q i) → (inputs : List (List (List Value))) → AllByRecursion (λ c. suc (length c) ≡ i) inputs → filter (keeps q i) (looked_up q i inputs) ≡ read q i inputs
  lookup_filtered i apart tied inputs l =
      ap (filter (keeps q i)) (flat_map_same _ _ inputs (each_by_in _ inputs (λ c _. ap (map (λ (r : List Value). c ++ r ∷ [])) (one_match i c (rows_at q i) apart))))
      ∙ range_filtered i (key_of q i) tied inputs l
