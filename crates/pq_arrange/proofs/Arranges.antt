-- The arranged query.
use Rattle.std.proofs.Common.{◌≡◌, ℕ, ◌+◌, ◌-◌, ◌<◌, ◌≤◌, true, false, cond, ◌||◌, List, [], ◌∷◌, length, map, unwrap_or, Some, None, IsPermutation, refl, sym, ap, ◌∙◌, subst, arith}
use Rattle.std.specs.List.{range_with_len, list_all}
use Rattle.std.proofs.lemmas.List.FromFn.{length-range_with_len, get_or-map-range_with_len}
use Rattle.std.proofs.lemmas.List.Sorted.{IsPermutation-refl, length_permutation}
use Rattle.std.proofs.lemmas.List.{length-map}
use Rattle.pq_base.specs.declared.value.Value.{Value}
use Rattle.pq_base.specs.Members.{In}
use Rattle.pq_schema.specs.declared.table.Table.{Table}
use Rattle.pq_schema.specs.declared.query.Query.{Query}
use Rattle.pq_schema.specs.declared.query.Pred.{Pred}
use Rattle.pq_schema.specs.Resolved.{IsResolved, IsPredicate}
use Rattle.pq_plan.specs.Answer.{Question, combos, product, row_of, rows_at, holds}
use Rattle.pq_base.proofs.Members.{in_filter, in_map, all_member, range_in}
use Rattle.pq_arrange.specs.Moves.{permuted_combo, reordered_query, move_pred, order_place}
use Rattle.pq_arrange.specs.Classes.{closed_query}
use Rattle.pq_arrange.specs.Placing.{arranged_order}
use Rattle.pq_stop_push.specs.Having.{has_candidate}
use Rattle.pq_arrange.specs.Arrange.{rearranged_query, arranged_query}
use Rattle.pq_arrange.specs.Laws.{IsOrderOf, asked_in, SameRearranged, SameArranged, LeavesPlanned, FindsCandidate, ArrangedOnce, RowsByPlaces, IsSuccessor, RearrangedResolved, ArrangedResolved}
use Rattle.pq_arrange.proofs.Assigned.{assigned}
use Rattle.pq_arrange.proofs.Moved.{IsAmong, row_moved}
use Rattle.pq_arrange.proofs.Products.{down, range_order, map_same, base, products}
use Rattle.pq_arrange.proofs.Reordered.{same_in_any_order, among, row_is, old_rows, in_permuted}
use Rattle.pq_arrange.proofs.Resolves.{reordered_resolved}
use Rattle.pq_arrange.proofs.Placed.{is_order}
use Rattle.pq_arrange.proofs.Closes.{same_when_closed}
use Rattle.pq_arrange.proofs.Counted.{no_more}
use Rattle.pq_arrange.proofs.ClosedQuery.{closed_resolved}

pub same_rearranged : SameRearranged
same_rearranged q r false = same_in_any_order q r (arranged_order q.tables q.query false) (is_order q.tables q.query false)
same_rearranged q r true =
    let order : List ℕ = arranged_order q.tables q.query true in
    let moved : Question = asked_in order q in
    subst (λ (l : List (List (List Value))). IsPermutation (map (permuted_combo order) (combos q)) l)
    (sym (same_when_closed moved (reordered_resolved q.tables q.query r order (is_order q.tables q.query true))))
    (same_in_any_order q r order (is_order q.tables q.query true))

-- ---- the first of three
-- which of the three it is, by which have a candidate
pub by_cases : (P : Query → Type 0) (tables : List Table) (query : Query) →
    (has_candidate tables query ≡ true → P query) →
    (has_candidate tables query ≡ false → has_candidate tables (rearranged_query tables query false) ≡ true → P (rearranged_query tables query false)) →
    (has_candidate tables query ≡ false → has_candidate tables (rearranged_query tables query false) ≡ false → has_candidate tables (rearranged_query tables query true) ≡ true → P (rearranged_query tables query true)) →
    (has_candidate tables query ≡ false → has_candidate tables (rearranged_query tables query false) ≡ false → has_candidate tables (rearranged_query tables query true) ≡ false → P query) →
    P (arranged_query tables query)
by_cases P tables query one two three none =
    let second : Query = rearranged_query tables query false in
    let third : Query = rearranged_query tables query true in
    elim (has_candidate tables query) as (λ a. has_candidate tables query ≡ a → P (unwrap_or (cond a (Some query) (cond (has_candidate tables second) (Some second) (cond (has_candidate tables third) (Some third) None))) query)) [
      | true ↦ λ e. one e
      | false ↦ λ e. elim (has_candidate tables second) as (λ b. has_candidate tables second ≡ b → P (unwrap_or (cond b (Some second) (cond (has_candidate tables third) (Some third) None)) query)) [
        | true ↦ λ f. two e f
        | false ↦ λ f. elim (has_candidate tables third) as (λ c. has_candidate tables third ≡ c → P (unwrap_or (cond c (Some third) None) query)) [
          | true ↦ λ g. three e f g
          | false ↦ λ g. none e f g
        ] refl
      ] refl
    ] refl

pub leaves_planned : LeavesPlanned
leaves_planned tables query h = ap (λ b. unwrap_or (cond b (Some query) (cond (has_candidate tables (rearranged_query tables query false)) (Some (rearranged_query tables query false)) (cond (has_candidate tables (rearranged_query tables query true)) (Some (rearranged_query tables query true)) None))) query) h

pub arranged_once : ArrangedOnce
arranged_once tables query =
    by_cases (λ other. arranged_query tables query ≡ other → arranged_query tables other ≡ other) tables query
    (λ e _. leaves_planned tables query e)
    (λ e f _. leaves_planned tables (rearranged_query tables query false) f)
    (λ e f g _. leaves_planned tables (rearranged_query tables query true) g)
    (λ e f g same. same)
    refl

pub finds_candidate : FindsCandidate
finds_candidate tables query =
    by_cases (λ other. has_candidate tables other ≡ ((has_candidate tables query || has_candidate tables (rearranged_query tables query false)) || has_candidate tables (rearranged_query tables query true))) tables query
    (λ e. e ∙ sym (λ i. (e i || has_candidate tables (rearranged_query tables query false)) || has_candidate tables (rearranged_query tables query true)))
    (λ e f. f ∙ sym (λ i. (e i || f i) || has_candidate tables (rearranged_query tables query true)))
    (λ e f g. g ∙ sym (λ i. (e i || f i) || g i))
    (λ e f g. e ∙ sym (λ i. (e i || f i) || g i))

-- ---- in its own order a query is as it was
itself : {X : Type 0} (xs : List X) → map (λ x. x) xs ≡ xs
itself [] = refl
itself (x ∷ xs) = ap (λ l. x ∷ l) (itself xs)

module _ (q : Question) (r : IsResolved q.tables q.query) where
  abbrev all : List ℕ
  all = range_with_len 1 (length q.query.relations)

  unmoved : (c : List (List Value)) → In c (product q (length q.query.relations)) → permuted_combo all c ≡ c
  unmoved c i =
      let p : IsOrderOf q.query all = IsPermutation-refl all in
      let preds : (pred : Pred) → In pred q.query.preds → IsAmong all pred = λ pred here. among q.tables q.query all pred p (all_member (IsPredicate q.tables q.query) q.query.preds r.preds pred here) in
      let e : product q (length q.query.relations) ≡ map (λ g. map g all) (assigned (rows_at q) base (down all (length all))) = ap (product q) (sym (length-range_with_len 1 (length q.query.relations))) ∙ products q all (rows_at q) (range_order (length q.query.relations)) (old_rows q all p preds) in
      let f = in_map (λ (g : ℕ → List Value). map g all) c (assigned (rows_at q) base (down all (length all))) (subst (In c) e i) in
      ap (permuted_combo all) (sym f.2) ∙ map_same (λ rel. row_of rel (map f.0 all)) f.0 all (λ rel here. row_is q all p preds f.0 rel here) ∙ f.2

  combos_unmoved : map (permuted_combo all) (combos q) ≡ combos q
  combos_unmoved = map_same (permuted_combo all) (λ c. c) (combos q) (λ c i. unmoved c (in_filter (λ combo. list_all (holds q.params combo) q.query.preds) c (product q (length q.query.relations)) i).0) ∙ itself (combos q)

pub same_arranged : SameArranged
same_arranged q r =
    let Goal = λ (other : Query). (order : List ℕ) × IsOrderOf q.query order × IsPermutation (map (permuted_combo order) (combos q)) (combos (record q { query = other })) in
    let own : Goal q.query = (range_with_len 1 (length q.query.relations), IsPermutation-refl (range_with_len 1 (length q.query.relations)), subst (λ (l : List (List (List Value))). IsPermutation l (combos q)) (sym (combos_unmoved q r)) (IsPermutation-refl (combos q))) in
    by_cases (λ other. (order : List ℕ) × IsOrderOf q.query order × IsPermutation (map (permuted_combo order) (combos q)) (combos (record q { query = other }))) q.tables q.query
    (λ _. own)
    (λ _ _. (arranged_order q.tables q.query false, is_order q.tables q.query false, same_rearranged q r false))
    (λ _ _ _. (arranged_order q.tables q.query true, is_order q.tables q.query true, same_rearranged q r true))
    (λ _ _ _. own)

-- ---- the rows by their places
pub rows_by_places : RowsByPlaces
rows_by_places query order p combo rel low high =
    let here : In rel order = in_permuted rel (range_with_len 1 (length query.relations)) order p (range_in rel 1 (length query.relations) low (omega arith)) in
    let long : length order ≡ length query.relations = length_permutation (range_with_len 1 (length query.relations)) order p ∙ length-range_with_len 1 (length query.relations) in
    let inside : rel - 1 < length order = omega (arith, long, low, high) in
    let e : 1 + (rel - 1) ≡ rel = omega (arith, low) in
    ap (λ (n : ℕ). row_of n (permuted_combo order combo)) (get_or-map-range_with_len (order_place order) 1 (length order) (rel - 1) rel 0 inside e)
    ∙ row_moved order rel here combo

-- ---- a query again
pub rearranged_resolved : RearrangedResolved
rearranged_resolved tables query r false =
    record {
      resolved = reordered_resolved tables query r (arranged_order tables query false) (is_order tables query false);
      name = refl;
      params = refl;
      stop = refl;
      fewer = let e = length-map query.preds (move_pred (arranged_order tables query false)) in omega (arith, e);
    }
rearranged_resolved tables query r true =
    let order : List ℕ = arranged_order tables query true in
    let moved : IsResolved tables (reordered_query order query) = reordered_resolved tables query r order (is_order tables query true) in
    record {
      resolved = closed_resolved tables (reordered_query order query) moved;
      name = refl;
      params = refl;
      stop = refl;
      fewer = let e = length-map query.preds (move_pred order) in let f : length (closed_query tables (reordered_query order query)).preds ≤ length (reordered_query order query).preds = no_more tables (reordered_query order query) in omega (arith, e, f);
    }

pub arranged_resolved : ArrangedResolved
arranged_resolved tables query r =
    let own : IsSuccessor tables query query = record { resolved = r; name = refl; params = refl; stop = refl; fewer = omega arith } in
    by_cases (IsSuccessor tables query) tables query
    (λ _. own)
    (λ _ _. rearranged_resolved tables query r false)
    (λ _ _ _. rearranged_resolved tables query r true)
    (λ _ _ _. own)
