-- Without a stop an arranged query has the same rows for an answer.
use Rattle.std.proofs.Common.{◌≡◌, ℕ, zero, suc, true, false, List, [], ◌∷◌, ◌++◌, filter, flat_map, length, get_or, map, Option, IsPermutation, refl, sym, ap, ◌∙◌, subst, arith}
use Rattle.std.specs.List.{range_with_len, list_all}
use Rattle.std.proofs.lemmas.List.Sorted.{IsPermutation-refl, IsPermutation-sym, IsPermutation-trans, IsPermutation-map}
use Rattle.pq_base.specs.declared.value.Value.{Value}
use Rattle.pq_base.proofs.Sorts.{IsPermutation-sort_by}
use Rattle.pq_schema.specs.declared.query.ColRef.{ColRef}
use Rattle.pq_schema.specs.declared.query.Query.{Query}
use Rattle.pq_schema.specs.declared.query.Stop.TheVariants as stop
use Rattle.pq_schema.specs.Resolved.{IsResolved, IsColumnOf}
use Rattle.pq_schema.specs.Candidates.{stop_size}
use Rattle.pq_schema.specs.declared.table.Table.{Table}
use Rattle.pq_plan.specs.Answer.{Question, question, product, rows_at, holds, combos, row_of, no_value, values_at, selected_values, by_position, position, stopped, whole, answer}
use Rattle.pq_base.proofs.Members.{range_in, all_member}
use Rattle.pq_arrange.specs.Moves.{move, permuted_combo}
use Rattle.pq_arrange.specs.Placing.{arranged_order}
use Rattle.pq_arrange.specs.Arrange.{rearranged_query, arranged_query}
use Rattle.pq_arrange.specs.Laws.{IsOrderOf, SameAnswers}
use Rattle.pq_arrange.proofs.Moved.{row_moved}
use Rattle.pq_arrange.proofs.Products.{map_same}
use Rattle.pq_arrange.proofs.Reordered.{in_permuted}
use Rattle.pq_arrange.proofs.Placed.{is_order}
use Rattle.pq_arrange.proofs.Arranges.{by_cases, same_rearranged, arranged_resolved}

map_map : {A B C : Type 0} (f : B → C) (g : A → B) (xs : List A) → map f (map g xs) ≡ map (λ x. f (g x)) xs
map_map f g [] = refl
map_map f g (x ∷ xs) = ap (λ l. f (g x) ∷ l) (map_map f g xs)

-- the answer is the combinations in another order
answer_rows : (q : Question) → q.query.stop ≡ stop.All → (after : Option (List Value)) → IsPermutation (map (selected_values q.query) (combos q)) (answer q.tables q.query q.rows q.params after)
answer_rows q e after =
    subst (λ (o : Option ℕ). IsPermutation (map (selected_values q.query) (combos q)) (map (selected_values q.query) (stopped q o after (whole q)))) (sym (ap stop_size e))
    (IsPermutation-map (selected_values q.query) (combos q) (whole q) (IsPermutation-sort_by (by_position q) (position q) (combos q)))

module _ (q : Question) (r : IsResolved q.tables q.query) (order : List ℕ) (p : IsOrderOf q.query order) where
  -- the selected values of a combination in the new order
  selected_moved : (combo : List (List Value)) → values_at (permuted_combo order combo) (map (move order) q.query.select) ≡ selected_values q.query combo
  selected_moved combo =
      map_map (λ (col : ColRef). get_or (row_of col.rel (permuted_combo order combo)) col.col no_value) (move order) q.query.select
      ∙ map_same (λ col. get_or (row_of (move order col).rel (permuted_combo order combo)) col.col no_value) (λ col. get_or (row_of col.rel combo) col.col no_value) q.query.select (λ col i.
      let c = all_member (IsColumnOf q.tables q.query) q.query.select r.select col i in
      let low = c.from_one in
      let high = c.there in
      ap (λ (row : List Value). get_or row col.col no_value) (row_moved order col.rel (in_permuted col.rel (range_with_len 1 (length q.query.relations)) order p (range_in col.rel 1 (length q.query.relations) low (omega arith))) combo))

same_rows : (q : Question) → IsResolved q.tables q.query → q.query.stop ≡ stop.All → (after : Option (List Value)) → (order : List ℕ) → IsOrderOf q.query order → (other : Query) → other.stop ≡ q.query.stop → other.select ≡ map (move order) q.query.select →
    IsPermutation (map (permuted_combo order) (combos q)) (combos (record q { query = other })) →
    IsPermutation (answer q.tables q.query q.rows q.params after) (answer q.tables other q.rows q.params after)
same_rows q r e after order p other same chosen h =
    let rows : List (List Value) = map (selected_values q.query) (combos q) in
    let q' : Question = record q { query = other } in
    let rows' : List (List Value) = map (selected_values other) (combos q') in
    let moved : map (selected_values other) (map (permuted_combo order) (combos q)) ≡ rows =
    map_map (selected_values other) (permuted_combo order) (combos q)
    ∙ ap (λ (f : List (List Value) → List Value). map f (combos q)) (λ i combo. (ap (values_at (permuted_combo order combo)) chosen ∙ selected_moved q r order p combo) i) in
    let between : IsPermutation rows rows' = subst (λ (l : List (List Value)). IsPermutation l rows') moved (IsPermutation-map (selected_values other) (map (permuted_combo order) (combos q)) (combos q') h) in
    IsPermutation-trans (answer q.tables q.query q.rows q.params after) rows (answer q.tables other q.rows q.params after)
    (IsPermutation-sym rows (answer q.tables q.query q.rows q.params after) (answer_rows q e after))
    (IsPermutation-trans rows rows' (answer q.tables other q.rows q.params after) between (answer_rows q' (same ∙ e) after))

-- over the tables of the question
same_here : (q : Question) → IsResolved q.tables q.query → q.query.stop ≡ stop.All → (after : Option (List Value)) →
    IsPermutation (answer q.tables q.query q.rows q.params after) (answer q.tables (arranged_query q.tables q.query) q.rows q.params after)
same_here q r e after =
    by_cases (λ other. IsPermutation (answer q.tables q.query q.rows q.params after) (answer q.tables other q.rows q.params after)) q.tables q.query
    (λ _. IsPermutation-refl (answer q.tables q.query q.rows q.params after))
    (λ _ _. same_rows q r e after (arranged_order q.tables q.query false) (is_order q.tables q.query false) (rearranged_query q.tables q.query false) refl refl (same_rearranged q r false))
    (λ _ _ _. same_rows q r e after (arranged_order q.tables q.query true) (is_order q.tables q.query true) (rearranged_query q.tables q.query true) refl refl (same_rearranged q r true))
    (λ _ _ _. IsPermutation-refl (answer q.tables q.query q.rows q.params after))

-- the rows of an answer are those of the combinations, in which the tables' columns and indexes play no part
module _ (before now : List Table) (query : Query) (rows : List (ℕ × List Value)) (params : List Value) where
  abbrev earlier : Question
  earlier = question before query rows params

  abbrev later : Question
  later = question now query rows params

  same_product : (n : ℕ) → product earlier n ≡ product later n
  same_product zero = refl
  same_product (suc n) = ap (flat_map (λ combo. map (λ row. combo ++ row ∷ []) (rows_at earlier (suc n)))) (same_product n)

  same_combos : combos earlier ≡ combos later
  same_combos = ap (filter (λ combo. list_all (holds params combo) query.preds)) (same_product (length query.relations))

  same_anywhere : query.stop ≡ stop.All → (after : Option (List Value)) → IsPermutation (answer before query rows params after) (answer now query rows params after)
  same_anywhere e after =
      let found : List (List Value) = map (selected_values query) (combos later) in
      let first : IsPermutation found (answer before query rows params after) = subst (λ (c : List (List (List Value))). IsPermutation (map (selected_values query) c) (answer before query rows params after)) same_combos (answer_rows earlier e after) in
      IsPermutation-trans (answer before query rows params after) found (answer now query rows params after)
      (IsPermutation-sym found (answer before query rows params after) first) (answer_rows later e after)

pub same_answers : SameAnswers
same_answers tables query r e now rows params after =
    let taken : Query = arranged_query tables query in
    let stop_is : taken.stop ≡ stop.All = (arranged_resolved tables query r).stop ∙ e in
    IsPermutation-trans (answer now query rows params after) (answer tables query rows params after) (answer now taken rows params after) (same_anywhere now tables query rows params e after)
    (IsPermutation-trans (answer tables query rows params after) (answer tables taken rows params after) (answer now taken rows params after) (same_here (question tables query rows params) r e after)
    (same_anywhere tables now taken rows params stop_is after))
