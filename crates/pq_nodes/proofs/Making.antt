-- Each node keeps one row of its table for each relation that was read, and gives no more than its size.
use Rattle.std.proofs.Common.{◌≡◌, Option, Some, None, ℕ, zero, suc, Bool, true, false, cond, inl, inr, List, [], ◌∷◌, ◌++◌, map, filter, flat_map, take, IsPermutation, refl, sym, ap, subst, arith}
use Rattle.std.specs.Ordering.{is_lt}
use Rattle.std.specs.List.{AllByRecursion}
use Rattle.std.proofs.lemmas.Bool.{cases_lt}
use Rattle.std.proofs.lemmas.List.{length_push}
use Rattle.std.proofs.lemmas.List.Sorted.{IsPermutation-sym}
use Rattle.pq_base.specs.Members.{In}
use Rattle.pq_base.specs.declared.value.Value.{Value}
use Rattle.pq_base.proofs.Sorts.{each-sort_by}
use Rattle.pq_plan.specs.Answer.{Question, row_of, rows_at, by_position, position, in_order, past, first_past}
use Rattle.pq_plan.specs.Executing.{Makes, Gives}
use Rattle.pq_plan.specs.Meaning.{keeps, partners, read, key_of}
use Rattle.pq_plan.specs.Nodes.{Node, lookup, limit_range, stop_scan, keep, sort, cut, project}
use Rattle.pq_plan.specs.Running.{is_match, matching, looked_up, ranged, limit_columns, apply}
use Rattle.pq_plan.proofs.Fixed.{last, earlier_row}
use Rattle.pq_base.proofs.Members.{each_in, each_by_in, in_filter, in_map, in_flat_map, in_take}
use Rattle.pq_plan.proofs.Orders.{in_permuted}
use Rattle.pq_nodes.specs.Combos.{IsCombo}
use Rattle.pq_nodes.specs.Ordered.{after_node, StandsAt, StandInOrder, after_nodes}

module _ (q : Question) where
  abbrev Combinations : Type 0
  Combinations = List (List (List Value))

  abbrev AreCombos : ℕ → Combinations → Type 0
  AreCombos count combos = AllByRecursion (IsCombo q count) combos

  -- ---- one row more

  pub combo_push : (count : ℕ) (c : List (List Value)) (r : List Value) → IsCombo q count c → In r (rows_at q (suc count)) → IsCombo q (suc count) (c ++ r ∷ [])
  combo_push count c r is here =
      let long = is.long in
      let more = length_push c r in
      record {
        long = omega (arith, more, long);
        rows = λ rel low high. elim (cases_lt rel (suc count)) [
          | inl before ↦ subst (λ (row : List Value). In row (rows_at q rel)) (sym (earlier_row c (r ∷ []) rel low (omega arith))) (is.rows rel low (omega arith))
          | inr after ↦
              let same : rel ≡ suc count = omega arith in
              subst (λ n. In (row_of n (c ++ r ∷ [])) (rows_at q n)) (sym same)
              (subst (λ (row : List Value). In row (rows_at q (suc count))) (sym (last c r (suc count) (ap suc long))) here)
        ];
      }

  pub no_rows_combo : AreCombos 0 ([] ∷ [])
  no_rows_combo = (record { long = refl; rows = λ rel low high. absurd (omega arith) }, tt)

  -- each input followed by rows of the next relation
  followed_combos : (count : ℕ) (rows : List (List Value) → List (List Value)) → ((c : List (List Value)) (r : List Value) → In r (rows c) → In r (rows_at q (suc count))) → (inputs : Combinations) → AreCombos count inputs → AreCombos (suc count) (flat_map (λ combo. map (λ row. combo ++ row ∷ []) (rows combo)) inputs)
  followed_combos count rows among inputs all = each_by_in (IsCombo q (suc count)) (flat_map (λ combo. map (λ row. combo ++ row ∷ []) (rows combo)) inputs) (λ d here.
      let f = in_flat_map (λ combo. map (λ row. combo ++ row ∷ []) (rows combo)) d inputs here in
      let m = in_map (λ row. f.0 ++ row ∷ []) d (rows f.0) f.2 in
      subst (IsCombo q (suc count)) m.2 (combo_push count f.0 m.0 (each_in (IsCombo q count) inputs all f.0 f.1) (among f.0 m.0 m.1)))

  abbrev matched : ℕ → List ℕ → List (List Value) → List (List Value)
  matched rel cols combo = matching q rel cols combo

  looked_up_combos : (count : ℕ) (inputs : Combinations) → AreCombos count inputs → AreCombos (suc count) (looked_up q (suc count) inputs)
  looked_up_combos count inputs all =
      followed_combos count (λ combo. take 1 (matching q (suc count) (key_of q (suc count)) combo))
      (λ c r here. (in_filter (is_match q (suc count) (key_of q (suc count)) c) r (rows_at q (suc count)) (in_take 1 r (matching q (suc count) (key_of q (suc count)) c) here)).0)
      inputs all

  ranged_combos : (count : ℕ) (cols : List ℕ) (inputs : Combinations) → AreCombos count inputs → AreCombos (suc count) (ranged q (suc count) cols inputs)
  ranged_combos count cols inputs all =
      followed_combos count (matching q (suc count) cols)
      (λ c r here. (in_filter (is_match q (suc count) cols c) r (rows_at q (suc count)) here).0)
      inputs all

  read_combos : (count : ℕ) (inputs : Combinations) → AreCombos count inputs → AreCombos (suc count) (read q (suc count) inputs)
  read_combos count inputs all =
      followed_combos count (partners q (suc count))
      (λ c r here. (in_filter (λ row. keeps q (suc count) (c ++ row ∷ [])) r (rows_at q (suc count)) here).0)
      inputs all

  -- ---- an order, and the first few behind a cursor

  ordered_combos : (count : ℕ) (combos : Combinations) → AreCombos count combos → AreCombos count (in_order q combos)
  ordered_combos count combos all = each-sort_by (by_position q) (position q) (IsCombo q count) combos all

  past_combos : (count : ℕ) (after : Option (List Value)) (combos : Combinations) → AreCombos count combos → AreCombos count (past q after combos)
  past_combos count None combos all = all
  past_combos count (Some at) combos all = filtered (λ combo. is_lt (by_position q at (position q combo))) combos all
    where
      filtered : (p : List (List Value) → Bool) (combos : Combinations) → AreCombos count combos → AreCombos count (filter p combos)
      filtered p [] all = tt
      filtered p (c ∷ cs) all = elim (p c) as (λ b. AreCombos count (cond b (c ∷ filter p cs) (filter p cs))) [ true ↦ (all.0, filtered p cs all.1) | false ↦ filtered p cs all.1 ]

  taken_combos : (count k : ℕ) (combos : Combinations) → AreCombos count combos → AreCombos count (take k combos)
  taken_combos count zero combos all = tt
  taken_combos count (suc k) [] all = tt
  taken_combos count (suc k) (c ∷ cs) all = (all.0, taken_combos count k cs all.1)

  kept_combos : (count rel : ℕ) (combos : Combinations) → AreCombos count combos → AreCombos count (filter (keeps q rel) combos)
  kept_combos count rel [] all = tt
  kept_combos count rel (c ∷ cs) all = elim (keeps q rel c) as (λ b. AreCombos count (cond b (c ∷ filter (keeps q rel) cs) (filter (keeps q rel) cs))) [ true ↦ (all.0, kept_combos count rel cs all.1) | false ↦ kept_combos count rel cs all.1 ]

  -- ---- the nodes

  pub apply_combos : (after : Option (List Value)) (count : ℕ) (node : Node) (inputs : Combinations) → StandsAt count node → AreCombos count inputs → AreCombos (after_node count node) (apply q after inputs node)
  apply_combos after count (lookup rel) inputs at all = subst (λ n. AreCombos (suc count) (looked_up q n inputs)) (sym at) (looked_up_combos count inputs all)
  apply_combos after count (limit_range rel limit n access) inputs at all =
      subst (λ (r : ℕ). AreCombos (suc count) (ranged q r (limit_columns q r limit) inputs)) (sym at) (ranged_combos count (limit_columns q (suc count) limit) inputs all)
  apply_combos after count (stop_scan rel k access) inputs at all =
      subst (λ (r : ℕ). AreCombos (suc count) (first_past q after k (in_order q (read q r inputs)))) (sym at)
      (taken_combos (suc count) k (past q after (in_order q (read q (suc count) inputs))) (past_combos (suc count) after (in_order q (read q (suc count) inputs)) (ordered_combos (suc count) (read q (suc count) inputs) (read_combos count inputs all))))
  apply_combos after count (keep rel) inputs at all = kept_combos count rel inputs all
  apply_combos after count sort inputs at all = ordered_combos count inputs all
  apply_combos after count (cut k) inputs at all = taken_combos count k (past q after inputs) (past_combos count after inputs all)
  apply_combos after count project inputs at all = all

  permuted_combos : (count : ℕ) (xs ys : Combinations) → IsPermutation xs ys → AreCombos count xs → AreCombos count ys
  permuted_combos count xs ys p all =
      each_by_in (IsCombo q count) ys (λ c here. each_in (IsCombo q count) xs all c (in_permuted (by_position q) (position q) c ys xs (IsPermutation-sym xs ys p) here))

  -- whatever order a range gives
  pub makes_combos : (after : Option (List Value)) (count : ℕ) (node : Node) (inputs found : Combinations) → StandsAt count node → AreCombos count inputs → Makes q after inputs node found → AreCombos (after_node count node) found
  makes_combos after count (lookup rel) inputs found at all is = subst (AreCombos (suc count)) (sym is) (apply_combos after count (lookup rel) inputs at all)
  makes_combos after count (limit_range rel limit n access) inputs found at all is = permuted_combos (suc count) (ranged q rel (limit_columns q rel limit) inputs) found is (apply_combos after count (limit_range rel limit n access) inputs at all)
  makes_combos after count (stop_scan rel k access) inputs found at all is = subst (AreCombos (suc count)) (sym is) (apply_combos after count (stop_scan rel k access) inputs at all)
  makes_combos after count (keep rel) inputs found at all is = subst (AreCombos count) (sym is) (apply_combos after count (keep rel) inputs at all)
  makes_combos after count sort inputs found at all is = subst (AreCombos count) (sym is) (apply_combos after count sort inputs at all)
  makes_combos after count (cut k) inputs found at all is = subst (AreCombos count) (sym is) (apply_combos after count (cut k) inputs at all)
  makes_combos after count project inputs found at all is = subst (AreCombos count) (sym is) all

  -- from so many relations on
  pub gives_combos : (after : Option (List Value)) (count : ℕ) (list : List Node) (inputs found : Combinations) → StandInOrder count list → AreCombos count inputs → Gives q after inputs list found → AreCombos (after_nodes count list) found
  gives_combos after count [] inputs found order all is = subst (AreCombos count) (sym is) all
  gives_combos after count (node ∷ rest) inputs found order all run =
      gives_combos after (after_node count node) rest run.0 found order.1 (makes_combos after count node inputs run.0 order.0 all run.1) run.2
