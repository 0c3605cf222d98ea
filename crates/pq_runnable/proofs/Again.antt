-- The plan of a query that was defined is the same over every later catalog.
use Rattle.std.proofs.Common.{◌≡◌, Option, Some, None, Ok, Err, ℕ, suc, ◌+◌, ◌-◌, ◌<◌, ◌≤◌, Bool, true, false, cond, not, nat_lt, nat_le, List, [], ◌∷◌, ◌++◌, length, get_or, is_some, option_map, position, refl, sym, ap, ◌∙◌, subst, arith, length-append}
use Rattle.std.specs.Prelude.{unwrap_or}
use Rattle.std.specs.Option.{option_map_or}
use Rattle.std.specs.List.{range_with_len, position_or_len}
use Rattle.std.proofs.lemmas.Bool.{lt-ltb, ltb-false}
use Rattle.std.proofs.lemmas.Option.{none-some}
use Rattle.pq_base.specs.Columns.{set_of}
use Rattle.pq_base.specs.declared.number.Choice.{Choice}
use Rattle.pq_base.specs.declared.number.Choice.TheVariants.{Whole, Stop}
use Rattle.pq_base.specs.declared.value.Value.{Value}
use Rattle.pq_schema.specs.declared.table.Access.{Access}
use Rattle.pq_schema.specs.declared.table.Access.TheVariants.{Primary, Secondary}
use Rattle.pq_schema.specs.declared.table.Column.{Column}
use Rattle.pq_schema.specs.declared.table.Index.{Index}
use Rattle.pq_schema.specs.declared.table.KeyPart.{KeyPart}
use Rattle.pq_schema.specs.declared.table.Limit.{Limit}
use Rattle.pq_schema.specs.declared.table.NewIndex.{NewIndex}
use Rattle.pq_schema.specs.declared.table.Table.{Table}
use Rattle.pq_schema.specs.declared.query.Query.{Query}
use Rattle.pq_schema.specs.Candidates.{no_limit, stop_size}
use Rattle.pq_schema.specs.Relations.{relation_at, table_of, tied_set, order_rest}
use Rattle.pq_schema.specs.Sequences.{primary_sequence, index_sequence, begins_with, serves, serving_access, secondary, group_access}
use Rattle.pq_schema.specs.Resolved.{IsResolved}
use Rattle.pq_schema.specs.Schema.{with_new_index, with_wanted}
use Rattle.pq_schema.specs.Sound.{IsQuery, AreMade}
use Rattle.pq_schema.specs.Wanted.{index_at, index_of, too_many_indexes, IsWanted}
use Rattle.pq_compile.proofs.Best.{best_has}
use Rattle.pq_schema.specs.Tables.{is_lookup, limit_place, data_bound}
use Rattle.pq_plan.specs.Nodes.{Node, lookup, limit_range, stop_scan, keep, sort, cut, project, read_nodes, range_nodes, stop_access, choice_nodes, plan_nodes}
use Rattle.pq_plan.proofs.Bounds.{number_at, linked}
use Rattle.pq_plan.proofs.Choices.{Has}
use Rattle.pq_plan.proofs.Limits.{limit_taken}
use Rattle.pq_base.proofs.Members.{all_member, at_in, each_by_in, flat_map_same, in_range}
use Rattle.pq_plan.proofs.PlanCost.{no_rows_keep}
use Rattle.pq_runnable.specs.Grown.{with_more, HasGrown, HaveGrown}
use Rattle.pq_runnable.proofs.Growing.{relation_grown}
use Rattle.pq_runnable.proofs.Indexes.{tested, first_access, access_stays, new_serves, serving_stays}
use Rattle.pq_runnable.proofs.Staying.{wants, wanted_index, err_not_ok, ok_same, chosen_parts, grown_from, resolved_with, table_with}
use Rattle.pq_nodes.proofs.Inverse.{Bounded, some_unwrapped, front_bounded, later_bounded, before_bounded}

-- ---- an index behind the others, where none of them passes

no_place : {X : Type 0} (p : X → Bool) (xs : List X) (x : X) → position_or_len p xs ≡ length xs → p x ≡ true → position_or_len p (xs ++ x ∷ []) ≡ length xs
no_place p [] x none passes = ap (λ b. cond (not b) 1 0) passes
no_place p (y ∷ ys) x none passes =
    elim (p y) as (λ b. cond (not b) (1 + position_or_len p ys) 0 ≡ length (y ∷ ys) → cond (not b) (1 + position_or_len p (ys ++ x ∷ [])) 0 ≡ length (y ∷ ys)) [
      | true ↦ λ none. absurd (omega (arith, none))
      | false ↦ λ none. let rest = no_place p ys x (omega (arith, none)) passes in omega (arith, rest)
    ] none

upto_length : {X : Type 0} (p : X → Bool) (xs : List X) → position_or_len p xs ≤ length xs
upto_length p [] = omega arith
upto_length p (x ∷ xs) = let rest = upto_length p xs in elim (p x) as (λ b. cond (not b) (1 + position_or_len p xs) 0 ≤ length (x ∷ xs)) [ true ↦ omega arith | false ↦ omega arith ]

position_last : {X : Type 0} (p : X → Bool) (xs : List X) (x : X) → position p xs ≡ None → p x ≡ true → position p (xs ++ x ∷ []) ≡ Some (length xs)
position_last p xs x none passes =
    let past : length xs ≤ position_or_len p xs = by_test (nat_lt (position_or_len p xs) (length xs)) refl none in
    let upto = upto_length p xs in
    let at = no_place p xs x (omega (arith, past, upto)) passes in
    let long = length-append xs (x ∷ []) in
    ap (λ n. cond (nat_lt n (length (xs ++ x ∷ []))) (Some n) None) at
    ∙ ap (λ b. cond b (Some (length xs)) None) (lt-ltb (length xs) (length (xs ++ x ∷ [])) (omega (arith, long)))
  where
    by_test : (b : Bool) → nat_lt (position_or_len p xs) (length xs) ≡ b → cond b (Some (position_or_len p xs)) None ≡ None → length xs ≤ position_or_len p xs
    by_test true t e = absurd (none-some (position_or_len p xs) (sym e))
    by_test false t e = ltb-false (position_or_len p xs) (length xs) t

-- it is the one that is found
pub last_access : (table : Table) (index : Index) (test : List KeyPart → Bool) → first_access table test ≡ None → test (index_sequence table index) ≡ true → first_access (with_new_index table index) test ≡ Some (Secondary (length table.indexes + 1))
last_access table index test none passes =
    elim (test (primary_sequence table)) as (λ b. cond b (Some Primary) (option_map secondary (position (tested table test) table.indexes)) ≡ None → cond b (Some Primary) (option_map secondary (position (tested table test) (table.indexes ++ index ∷ []))) ≡ Some (Secondary (length table.indexes + 1))) [
      | true ↦ λ e. absurd (none-some Primary (sym e))
      | false ↦ λ e. ap (option_map secondary) (position_last (tested table test) table.indexes index (by_place (position (tested table test) table.indexes) e) passes)
    ] none
  where
    by_place : (o : Option ℕ) → option_map secondary o ≡ None → o ≡ None
    by_place None e = refl
    by_place (Some k) e = absurd (none-some (secondary k) (sym e))

-- ---- the nodes of a relation whose table has grown

abbrev pub range_over : ℕ → Table → ℕ → List Node
range_over rel table place =
    let limit = get_or table.limits place no_limit in
    limit_range rel (place + 1) limit.n (unwrap_or (group_access table (set_of limit.cols)) Primary) ∷ keep rel ∷ []

-- the nodes that read a relation, over its table alone
abbrev pub read_over : Query → ℕ → Table → List Node
read_over query rel table =
    let set = tied_set query rel in
    cond (is_lookup table set) (lookup rel ∷ keep rel ∷ []) (option_map_or (range_over rel table) (limit_place table set) [])

module _ (before now : List Table) (query : Query) (sound : IsQuery before query) (grown : (rel : ℕ) → HasGrown (table_of before query rel) (table_of now query rel)) where
  abbrev m : ℕ
  m = length query.relations

  over_more : (rel : ℕ) (columns : List Column) (fillers : List (Option Value)) (more : List Index) → 1 ≤ rel → rel ≤ m → is_some (data_bound (table_of before query rel) (tied_set query rel)) ≡ true → read_over query rel (with_more (table_of before query rel) columns fillers more) ≡ read_over query rel (table_of before query rel)
  over_more rel columns fillers more low high bounded =
      let table = table_of before query rel in
      let set = tied_set query rel in
      let grown_table = with_more table columns fillers more in
      elim (is_lookup table set) as (λ b. is_lookup table set ≡ b → cond b (lookup rel ∷ keep rel ∷ []) (option_map_or (range_over rel grown_table) (limit_place table set) []) ≡ cond b (lookup rel ∷ keep rel ∷ []) (option_map_or (range_over rel table) (limit_place table set) [])) [
        | true ↦ λ _. refl
        | false ↦ λ is.
            let t = limit_taken table set is bounded in
            let limit = get_or table.limits t.0 no_limit in
            let number = number_at before query [] [] sound (no_rows_keep before) rel low high in
            let groups = (linked before query [] [] sound (no_rows_keep before) (relation_at query rel).table number).limit_groups in
            let there : is_some (group_access table (set_of limit.cols)) ≡ true = all_member (λ (l : Limit). is_some (group_access table (set_of l.cols)) ≡ true) table.limits groups limit (at_in table.limits t.0 no_limit t.1.within) in
            let found = some_unwrapped (group_access table (set_of limit.cols)) Primary there in
            let stays : group_access grown_table (set_of limit.cols) ≡ group_access table (set_of limit.cols) =
            access_stays table columns fillers more (λ sequence. begins_with sequence (set_of limit.cols)) (unwrap_or (group_access table (set_of limit.cols)) Primary) found ∙ sym found in
            ap (λ (o : Option ℕ). option_map_or (range_over rel grown_table) o []) t.1.taken
            ∙ ap (λ (o : Option Access). limit_range rel (t.0 + 1) limit.n (unwrap_or o Primary) ∷ keep rel ∷ []) stays
            ∙ sym (ap (λ (o : Option ℕ). option_map_or (range_over rel table) o []) t.1.taken)
      ] refl

  read_stays : (rel : ℕ) → 1 ≤ rel → rel ≤ m → Bounded before query sound rel → read_nodes now query rel ≡ read_nodes before query rel
  read_stays rel low high bounded = ap (read_over query rel) (grown rel).is ∙ over_more rel (grown rel).columns (grown rel).fillers (grown rel).indexes low high bounded

  range_stays : (a n : ℕ) → 1 ≤ a → a + n ≤ suc m → ((j : ℕ) → a ≤ j → j < a + n → Bounded before query sound j) → range_nodes now query a n ≡ range_nodes before query a n
  range_stays a n low high bounded =
      flat_map_same (read_nodes now query) (read_nodes before query) (range_with_len a n)
      (each_by_in _ (range_with_len a n) (λ j here.
      let between = in_range j a n here in
      read_stays j (omega (arith, low, between.0)) (omega (arith, high, between.1)) (bounded j between.0 between.1)))

  choice_stays : (choice : Choice) → Has before query choice → ((p : ℕ) → choice ≡ Stop p → stop_access now query p ≡ stop_access before query p) → choice_nodes now query choice ≡ choice_nodes before query choice
  choice_stays Whole h access = range_stays 1 m (omega arith) (omega arith) (λ j low below. front_bounded before query sound m h j low (omega arith))
  choice_stays (Stop p) h access =
      let low = h.from_one in
      let high = h.within in
      let front = range_stays 1 (p - 1) (omega arith) (omega arith) (λ j from below. before_bounded before query sound p h j from (omega arith)) in
      let back = range_stays (p + 1) (m - p) (omega arith) (omega arith) (λ j from below. later_bounded before query sound p h j (omega arith) (omega arith)) in
      let same = access p refl in
      λ i. (front i ++ stop_scan p (unwrap_or (stop_size query.stop) 0) (same i) ∷ []) ++ back i

  pub nodes_stay : (choice : Choice) → Has before query choice → ((p : ℕ) → choice ≡ Stop p → stop_access now query p ≡ stop_access before query p) → plan_nodes now query choice ≡ plan_nodes before query choice
  nodes_stay choice h access = ap (λ (list : List Node). list ++ sort ∷ [] ++ option_map_or (λ k. cut k ∷ []) (stop_size query.stop) [] ++ project ∷ []) (choice_stays choice h access)

-- ---- the sequence of its stop

unwrapped : (o : Option Access) (a d : Access) → o ≡ Some a → unwrap_or o d ≡ a
unwrapped o a d is = ap (λ (x : Option Access). unwrap_or x d) is

module _ (before : List Table) (query : Query) (wanted : Option NewIndex) (made : AreMade before) (resolved : IsResolved before query) (there : IsWanted before query wanted) (now : List Table) (grown : HaveGrown (with_wanted before wanted) now) where
  abbrev found_in : ℕ → Table → Option Access
  found_in p table = serving_access table (tied_set query p) (order_rest query p)

  -- the one that is found over the tables with the index is found over those of now
  found_now : (p : ℕ) (access : Access) → found_in p (table_of (with_wanted before wanted) query p) ≡ Some access → found_in p (table_of now query p) ≡ Some access
  found_now p access is =
      let more = relation_grown (with_wanted before wanted) now query grown (resolved_with before query wanted made resolved there now grown) p in
      ap (found_in p) more.is ∙ serving_stays (table_of (with_wanted before wanted) query p) more.columns more.fillers more.indexes (tied_set query p) (order_rest query p) access is

  found_before : (p : ℕ) (access : Access) → found_in p (table_of before query p) ≡ Some access → found_in p (table_of now query p) ≡ Some access
  found_before p access is =
      let more = relation_grown before now query (grown_from before query wanted made resolved there now grown) resolved p in
      ap (found_in p) more.is ∙ serving_stays (table_of before query p) more.columns more.fillers more.indexes (tied_set query p) (order_rest query p) access is

  by_found : (p : ℕ) (o : Option Access) → found_in p (table_of before query p) ≡ o → wants before query p (is_some o) ≡ Ok wanted → stop_access now query p ≡ unwrap_or o (Secondary (length (table_of before query p).indexes + 1))
  by_found p (Some access) is e = unwrapped (found_in p (table_of now query p)) access (Secondary (length (table_of now query p).indexes + 1)) (found_before p access is)
  by_found p None is e = by_room (nat_le 16 (length (table_of before query p).indexes)) e
    where
      by_room : (full : Bool) → cond full (Err too_many_indexes) (Ok (Some (wanted_index before query wanted made resolved there now grown p))) ≡ Ok wanted → stop_access now query p ≡ Secondary (length (table_of before query p).indexes + 1)
      by_room true e = absurd (err_not_ok too_many_indexes wanted e)
      by_room false e =
          let table = table_of before query p in
          let new = wanted_index before query wanted made resolved there now grown p in
          let with_it = table_with before query wanted made resolved there now grown p new (sym (ok_same (Some new) wanted e)) refl in
          let last = last_access table new.index (serves table (tied_set query p) (order_rest query p)) is (new_serves before query p resolved) in
          unwrapped (found_in p (table_of now query p)) (Secondary (length table.indexes + 1)) (Secondary (length (table_of now query p).indexes + 1))
          (found_now p (Secondary (length table.indexes + 1)) (ap (found_in p) with_it ∙ last))

  pub stop_stays : (p : ℕ) → index_at before query p ≡ Ok wanted → stop_access now query p ≡ stop_access before query p
  stop_stays p e = by_found p (found_in p (table_of before query p)) refl e

  -- the nodes of its plan are those at its definition
  pub plan_stays : IsQuery before query → plan_nodes now query there.best.choice ≡ plan_nodes before query there.best.choice
  plan_stays sound =
      let parts = chosen_parts before query there.best wanted there.chosen in
      nodes_stay before now query sound (λ rel. relation_grown before now query (grown_from before query wanted made resolved there now grown) resolved rel) there.best.choice
      (best_has before query there.best parts.least).0
      (λ p is. stop_stays p (subst (λ (c : Choice). index_of before query c ≡ Ok wanted) is parts.index))
