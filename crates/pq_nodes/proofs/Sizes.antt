-- Over tables that keep the schema, a node gives no more than its size.
use Rattle.std.proofs.Common.{◌≡◌, Option, Some, None, ℕ, suc, ◌+◌, ◌-◌, ◌*◌, ◌≤◌, Bool, true, false, cond, ◌||◌, List, [], ◌∷◌, ◌++◌, length, get_or, map, filter, flat_map, take, slice_get, refl, sym, ap, ◌∙◌, subst, arith, length-append}
use Rattle.std.specs.Prelude.{unwrap_or}
use Rattle.std.specs.Ordering.{eq_by_cmp, is_lt}
use Rattle.std.proofs.lemmas.Bool.{and_parts, false≢true}
use Rattle.std.proofs.lemmas.List.{length-map, length-take}
use Rattle.std.proofs.lemmas.List.Sorted.{length_permutation}
use Rattle.std.proofs.lemmas.Option.{get_or_from_slice_get}
use Rattle.pq_base.specs.Members.{In}
use Rattle.pq_base.specs.declared.value.Value.{Value}
use Rattle.pq_base.specs.Values.{is_null, has_null}
use Rattle.pq_base.proofs.Sorts.{length-sort_by}
use Rattle.pq_base.specs.declared.op.Op.TheVariants as op
use Rattle.pq_schema.specs.declared.table.Table.{Table}
use Rattle.pq_schema.specs.declared.query.Query.{Query}
use Rattle.pq_schema.specs.Candidates.{no_limit}
use Rattle.pq_schema.specs.Relations.{relation_at, table_of}
use Rattle.pq_schema.specs.Rows.{no_value, cells}
use Rattle.pq_schema.specs.Sound.{IsQuery}
use Rattle.pq_base.specs.Comparing.{compares}
use Rattle.pq_plan.specs.Answer.{Question, rows_at, by_position, position, in_order, past}
use Rattle.pq_plan.specs.Executing.{Makes}
use Rattle.pq_plan.specs.Kept.{row_cmp, KeepsSchema}
use Rattle.pq_plan.specs.Meaning.{keeps, read, key_of}
use Rattle.pq_plan.specs.Nodes.{Node, lookup, limit_range, stop_scan, keep, sort, cut, project}
use Rattle.pq_plan.specs.Running.{tied_value, is_match, matching, looked_up, ranged, limit_columns, apply}
use Rattle.pq_plan.proofs.Apart.{same_test}
use Rattle.pq_plan.proofs.Bounds.{asked, number_at}
use Rattle.pq_plan.proofs.Fixed.{both_are}
use Rattle.pq_plan.proofs.Kept.{limit_kept}
use Rattle.pq_base.proofs.Members.{at_in}
use Rattle.pq_plan.proofs.ValueOrder.{row_total}
use Rattle.pq_nodes.specs.Inverse.{node_limit_at, IsNodeOf}
use Rattle.pq_nodes.specs.Paid.{node_size}

few_taken : {X : Type 0} (k : ℕ) (xs : List X) → length (take k xs) ≤ k
few_taken k xs = let long = length-take k xs in omega (arith, long)

pub taken_few : {X : Type 0} (k : ℕ) (xs : List X) → length (take k xs) ≤ length xs
taken_few k xs = let long = length-take k xs in omega (arith, long)

filtered_few : {X : Type 0} (p : X → Bool) (xs : List X) → length (filter p xs) ≤ length xs
filtered_few p [] = omega arith
filtered_few p (x ∷ xs) = let rest = filtered_few p xs in elim (p x) as (λ b. length (cond b (x ∷ filter p xs) (filter p xs)) ≤ length (x ∷ xs)) [ true ↦ omega arith | false ↦ omega arith ]

-- what passes the one test passes the other
fewer_pass : {X : Type 0} (p r : X → Bool) (xs : List X) → ((x : X) → p x ≡ true → r x ≡ true) → length (filter p xs) ≤ length (filter r xs)
fewer_pass p r [] h = omega arith
fewer_pass p r (x ∷ xs) h =
    let rest = fewer_pass p r xs h in
    elim (p x) as (λ b. p x ≡ b → length (cond b (x ∷ filter p xs) (filter p xs)) ≤ length (filter r (x ∷ xs))) [
      | true ↦ λ is. subst (λ b. length (x ∷ filter p xs) ≤ length (cond b (x ∷ filter r xs) (filter r xs))) (sym (h x is)) (omega arith)
      | false ↦ λ _. elim (r x) as (λ b. length (filter p xs) ≤ length (cond b (x ∷ filter r xs) (filter r xs))) [ true ↦ omega arith | false ↦ rest ]
    ] refl

one_and_more : (a b n k : ℕ) → a ≤ n → b ≤ k * n → a + b ≤ suc k * n
one_and_more a b n k = grind arith

each_few : {X Y : Type 0} (g : X → List Y) (n : ℕ) → ((x : X) → length (g x) ≤ n) → (xs : List X) → length (flat_map g xs) ≤ length xs * n
each_few g n few [] = omega arith
each_few g n few (x ∷ xs) =
    let one = few x in
    let rest = each_few g n few xs in
    let long = length-append (g x) (flat_map g xs) in
    let both = one_and_more (length (g x)) (length (flat_map g xs)) n (length xs) one rest in
    omega (arith, long, both)

module _ (q : Question) where
  abbrev Combinations : Type 0
  Combinations = List (List (List Value))

  abbrev tied_cells : ℕ → List ℕ → List (List Value) → List Value
  tied_cells rel cols combo = map (λ col. unwrap_or (tied_value q rel combo col) no_value) cols

  -- a row that matches has the tied values
  match_cells : (rel : ℕ) (cols : List ℕ) (combo : List (List Value)) (row : List Value) → is_match q rel cols combo row ≡ true → cells cols row ≡ tied_cells rel cols combo
  match_cells rel [] combo row h = refl
  match_cells rel (col ∷ cols) combo row h =
      let parts = and_parts (compares op.Eq (slice_get row col) (tied_value q rel combo col)) (is_match q rel cols combo row) h in
      let both = both_are (slice_get row col) (tied_value q rel combo col) parts.0 in
      let first : get_or row col no_value ≡ unwrap_or (tied_value q rel combo col) no_value =
      get_or_from_slice_get row col both.0 no_value both.1 ∙ sym (ap (λ (o : Option Value). unwrap_or o no_value) both.2) in
      let rest = match_cells rel cols combo row parts.1 in
      λ i. first i ∷ rest i

  -- and none of them is NULL
  match_plain : (rel : ℕ) (cols : List ℕ) (combo : List (List Value)) (row : List Value) → is_match q rel cols combo row ≡ true → has_null (tied_cells rel cols combo) ≡ false
  match_plain rel [] combo row h = refl
  match_plain rel (col ∷ cols) combo row h =
      let parts = and_parts (compares op.Eq (slice_get row col) (tied_value q rel combo col)) (is_match q rel cols combo row) h in
      let both = both_are (slice_get row col) (tied_value q rel combo col) parts.0 in
      ap (λ (o : Option Value). is_null (unwrap_or o no_value) || has_null (tied_cells rel cols combo)) both.2
      ∙ ap (λ b. b || has_null (tied_cells rel cols combo)) both.3 ∙ match_plain rel cols combo row parts.1

  none_match : (n : ℕ) (p : List Value → Bool) (xs : List (List Value)) → ((x : List Value) → p x ≡ true → ⊥) → length (filter p xs) ≤ n
  none_match n p [] h = omega arith
  none_match n p (x ∷ xs) h =
      elim (p x) as (λ b. p x ≡ b → length (cond b (x ∷ filter p xs) (filter p xs)) ≤ n) [
        | true ↦ λ is. absurd (h x is)
        | false ↦ λ _. none_match n p xs h
      ] refl

  matching_few : (rel n : ℕ) (cols : List ℕ) (combo : List (List Value)) → ((values : List Value) → has_null values ≡ false → length (filter (λ row. eq_by_cmp row_cmp (cells cols row) values) (rows_at q rel)) ≤ n) → length (matching q rel cols combo) ≤ n
  matching_few rel n cols combo few =
      let values = tied_cells rel cols combo in
      let fewer = fewer_pass (is_match q rel cols combo) (λ row. eq_by_cmp row_cmp (cells cols row) values) (rows_at q rel) (λ row h. same_test row_cmp row_total (cells cols row) values (match_cells rel cols combo row h)) in
      elim (has_null values) as (λ b. has_null values ≡ b → length (matching q rel cols combo) ≤ n) [
        | true ↦ λ some. none_match n (is_match q rel cols combo) (rows_at q rel) (λ row h. false≢true (sym (match_plain rel cols combo row h) ∙ some))
        | false ↦ λ none. let most = few values none in omega (arith, fewer, most)
      ] refl

  looked_up_few : (rel : ℕ) (inputs : Combinations) → length (looked_up q rel inputs) ≤ length inputs * 1
  looked_up_few rel inputs =
      each_few (λ combo. map (λ row. combo ++ row ∷ []) (take 1 (matching q rel (key_of q rel) combo))) 1
      (λ combo. let long = length-map (take 1 (matching q rel (key_of q rel) combo)) (λ row. combo ++ row ∷ []) in let few = few_taken 1 (matching q rel (key_of q rel) combo) in omega (arith, long, few))
      inputs

  ranged_few : (rel n : ℕ) (cols : List ℕ) → ((values : List Value) → has_null values ≡ false → length (filter (λ row. eq_by_cmp row_cmp (cells cols row) values) (rows_at q rel)) ≤ n) → (inputs : Combinations) → length (ranged q rel cols inputs) ≤ length inputs * n
  ranged_few rel n cols few inputs =
      each_few (λ combo. map (λ row. combo ++ row ∷ []) (matching q rel cols combo)) n
      (λ combo. let long = length-map (matching q rel cols combo) (λ row. combo ++ row ∷ []) in let most = matching_few rel n cols combo few in omega (arith, long, most))
      inputs

  past_few : (after : Option (List Value)) (combos : Combinations) → length (past q after combos) ≤ length combos
  past_few None combos = omega arith
  past_few (Some at) combos = filtered_few (λ combo. is_lt (by_position q at (position q combo))) combos

module _ (tables : List Table) (query : Query) (rows : List (ℕ × List Value)) (params : List Value) (sound : IsQuery tables query) (kept : KeepsSchema tables rows) where
  abbrev q : Question
  q = asked tables query rows params sound kept

  -- at most n rows of the relation agree on the limit's columns
  limit_few : (rel limit n : ℕ) → 1 ≤ rel → rel ≤ length query.relations → 1 ≤ limit → limit ≤ length (table_of tables query rel).limits → n ≡ (node_limit_at (table_of tables query rel) limit).n → (values : List Value) → has_null values ≡ false → length (filter (λ row. eq_by_cmp row_cmp (cells (node_limit_at (table_of tables query rel) limit).cols row) values) (rows_at q rel)) ≤ n
  limit_few rel limit n low high one there size values plain =
      let table = table_of tables query rel in
      let number = number_at tables query rows params sound kept rel low high in
      let here : In (node_limit_at table limit) table.limits = at_in table.limits (limit - 1) no_limit (omega arith) in
      let few = limit_kept tables rows kept (relation_at query rel).table number (node_limit_at table limit) here values plain in
      omega (arith, few, size)

  pub apply_few : (after : Option (List Value)) (node : Node) (inputs : List (List (List Value))) → IsNodeOf tables query node → length (apply q after inputs node) ≤ node_size (length inputs) node
  apply_few after (lookup rel) inputs is = let few = looked_up_few q rel inputs in omega (arith, few)
  apply_few after (limit_range rel limit n access) inputs is =
      ranged_few q rel n (limit_columns q rel limit) (limit_few rel limit n is.relation.from_one is.relation.there is.from_one is.there is.size) inputs
  apply_few after (stop_scan rel k access) inputs is = few_taken k (past q after (in_order q (read q rel inputs)))
  apply_few after (keep rel) inputs is = filtered_few (keeps q rel) inputs
  apply_few after sort inputs is = let same = length-sort_by (by_position q) (position q) inputs in omega (arith, same)
  apply_few after (cut k) inputs is =
      let first = taken_few k (past q after inputs) in
      let second = past_few q after inputs in
      omega (arith, first, second)
  apply_few after project inputs is = omega arith

  -- whatever order a range gives
  pub makes_few : (after : Option (List Value)) (node : Node) (inputs found : List (List (List Value))) → IsNodeOf tables query node → Makes q after inputs node found → length found ≤ node_size (length inputs) node
  makes_few after (lookup rel) inputs found is made = subst (λ (l : List (List (List Value))). length l ≤ length inputs) (sym made) (apply_few after (lookup rel) inputs is)
  makes_few after (limit_range rel limit n access) inputs found is made =
      let same = length_permutation (ranged q rel (limit_columns q rel limit) inputs) found made in
      let few = apply_few after (limit_range rel limit n access) inputs is in
      omega (arith, same, few)
  makes_few after (stop_scan rel k access) inputs found is made = subst (λ (l : List (List (List Value))). length l ≤ k) (sym made) (apply_few after (stop_scan rel k access) inputs is)
  makes_few after (keep rel) inputs found is made = subst (λ (l : List (List (List Value))). length l ≤ length inputs) (sym made) (apply_few after (keep rel) inputs is)
  makes_few after sort inputs found is made = subst (λ (l : List (List (List Value))). length l ≤ length inputs) (sym made) (apply_few after sort inputs is)
  makes_few after (cut k) inputs found is made = subst (λ (l : List (List (List Value))). length l ≤ length inputs) (sym made) (apply_few after (cut k) inputs is)
  makes_few after project inputs found is made = subst (λ (l : List (List (List Value))). length l ≤ length inputs) (sym made) (apply_few after project inputs is)
