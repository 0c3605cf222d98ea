-- When a query is planned as it is written, and when it has no bound.
use Rattle.std.proofs.Common.{◌≡◌, ℕ, ◌+◌, Bool, true, false, cond, List, [], ◌∷◌, Option, Some, None, Result, Ok, Err, refl, sym, ap, ◌∙◌}
use Rattle.std.specs.Prelude.{is_some, nat_le, length, fold}
use Rattle.std.proofs.lemmas.Bool.{false≢true}
use Rattle.pq_base.specs.declared.refusal.Refusal.{Refusal}
use Rattle.pq_base.specs.declared.refusal.Refusal.TheVariants as refusal
use Rattle.pq_schema.specs.Candidates.{Candidate, candidates, least, lesser}
use Rattle.pq_schema.specs.Relations.{relation_at, table_of, tied_set, order_rest}
use Rattle.pq_schema.specs.Schema.{Schema, IsQueryDefinition, definition_at, query_at}
use Rattle.pq_schema.specs.Sequences.{new_index, serving_access}
use Rattle.pq_schema.specs.Valid.{IsValid, IsDefined}
use Rattle.pq_schema.specs.Wanted.{ChosenCandidate, is_large, no_bound, too_many_indexes, with_index, index_of, chosen_of, chosen_candidate}
use Rattle.pq_base.specs.declared.number.Choice.{Choice}
use Rattle.pq_base.specs.declared.number.Choice.TheVariants.{Whole, Stop}
use Rattle.pq_schema.specs.declared.query.Query.{Query}
use Rattle.pq_schema.specs.declared.table.NewIndex.{NewIndex}
use Rattle.pq_schema.specs.declared.table.Table.{Table}
use Rattle.pq_stop_push.specs.Having.{is_some_list, has_candidate}
use Rattle.pq_text.specs.declared.token.Token.{Token}
use Rattle.pq_query_read.specs.Queries.{read_query_of}
use Rattle.pq_query_read.specs.Trying.{◌>>=◌}
use Rattle.pq_runnable.proofs.Staying.{err_not_ok, query_chosen}
use Rattle.pq_arrange.specs.Arrange.{rearranged_query, arranged_query}
use Rattle.pq_arrange.proofs.Arranges.{by_cases, leaves_planned}
use Rattle.pq_planning.specs.Planning.{HasNoCandidate, PlannedDefinition, with_chosen, plan_of, plan_from, arranged_plan, arranged_from}

-- ---- what has a plan has a candidate

module _ (tables : List Table) (query : Query) where
  by_list : (list : List Candidate) (best : ChosenCandidate) → chosen_of tables query (least list) ≡ Ok best → is_some_list list ≡ true
  by_list [] best is = absurd (err_not_ok (no_bound tables query) best is)
  by_list (c ∷ cs) best is = refl

  chosen_has : (best : ChosenCandidate) → chosen_candidate tables query ≡ Ok best → has_candidate tables query ≡ true
  chosen_has best is = by_list (candidates tables query) best is

  by_chosen : (found : Result ChosenCandidate Refusal) (plan : PlannedDefinition) → chosen_candidate tables query ≡ found → (found >>= with_chosen query) ≡ Ok plan → has_candidate tables query ≡ true
  by_chosen (Ok best) plan is planned = chosen_has best is
  by_chosen (Err why) plan is planned = absurd (err_not_ok why plan planned)

  planned_has : (plan : PlannedDefinition) → plan_of tables query ≡ Ok plan → has_candidate tables query ≡ true
  planned_has plan is = by_chosen (chosen_candidate tables query) plan refl is

  -- so it is planned as it is written
  pub planned_kept : has_candidate tables query ≡ true → arranged_plan tables query ≡ plan_of tables query
  planned_kept has = ap (plan_of tables) (leaves_planned tables query has)

-- ---- what is read back

module _ (schema : Schema) (name text : List ℕ) (tokens : List Token) (from : ℕ) where
  by_read : (read : Result Query Refusal) (plan : PlannedDefinition) → (read >>= plan_of schema.tables) ≡ Ok plan → (read >>= arranged_plan schema.tables) ≡ Ok plan
  by_read (Ok query) plan is = planned_kept schema.tables query (planned_has schema.tables query plan is) ∙ is
  by_read (Err why) plan is = absurd (err_not_ok why plan is)

  pub planned_alike : (plan : PlannedDefinition) → plan_from schema name text tokens from ≡ Ok plan → arranged_from schema name text tokens from ≡ Ok plan
  unfolding plan_from arranged_from
  planned_alike plan is = by_read (read_query_of schema name text tokens from) plan is

pub defined_own : (schema : Schema) (query : Query) (wanted : Option NewIndex) → IsDefined schema query wanted → arranged_query schema.tables query ≡ query
defined_own schema query wanted defined = leaves_planned schema.tables query (chosen_has schema.tables query (record { best = defined.chosen.best; wanted = wanted }) defined.chosen.chosen)

pub stored_own : (schema : Schema) (n : ℕ) → IsValid schema → IsQueryDefinition (definition_at schema n) → arranged_query schema.tables (query_at schema n) ≡ query_at schema n
stored_own schema n valid is =
    let still = query_chosen schema n valid is in
    leaves_planned schema.tables (query_at schema n) (chosen_has schema.tables (query_at schema n) (record { best = still.was.defined.chosen.best; wanted = None }) still.chosen)

-- ---- where there is no bound

abbrev is_no_bound : Refusal → Bool
is_no_bound (refusal.NoBound alias) = true
is_no_bound other = false

abbrev says_no_bound : {A : Type 0} → Result A Refusal → Bool
says_no_bound (Ok answer) = false
says_no_bound (Err why) = is_no_bound why

module _ (tables : List Table) (query : Query) where
  none_list : (list : List Candidate) → is_some_list list ≡ false → chosen_of tables query (least list) ≡ Err (no_bound tables query)
  none_list [] none = refl
  none_list (c ∷ cs) none = absurd (false≢true (sym none))

  none_planned : has_candidate tables query ≡ false → plan_of tables query ≡ Err (no_bound tables query)
  none_planned none = ap (λ (found : Result ChosenCandidate Refusal). found >>= with_chosen query) (none_list (candidates tables query) none)

  abbrev fine_index : Option NewIndex → Result (Option NewIndex) Refusal
  fine_index wanted = Ok wanted

  -- the index that is wanted is refused for its number alone
  by_served : (served full : Bool) (new : NewIndex) → says_no_bound (cond served (fine_index None) (cond full (Err too_many_indexes) (fine_index (Some new)))) ≡ false
  by_served true full new = refl
  by_served false true new = refl
  by_served false false new = refl

  index_told : (choice : Choice) → says_no_bound (index_of tables query choice) ≡ false
  index_told Whole = refl
  index_told (Stop p) =
      by_served (is_some (serving_access (table_of tables query p) (tied_set query p) (order_rest query p))) (nat_le 16 (length (table_of tables query p).indexes))
      (record {
        table = (relation_at query p).table;
        number = length (table_of tables query p).indexes + 1;
        index = new_index (table_of tables query p) (tied_set query p) (order_rest query p);
      })

  with_told : (best : Candidate) (index : Result (Option NewIndex) Refusal) → says_no_bound index ≡ false → says_no_bound (with_index best index) ≡ false
  with_told best (Ok wanted) is = refl
  with_told best (Err why) is = is

  some_told : (best : Candidate) → says_no_bound (chosen_of tables query (Some best)) ≡ false
  some_told best = by_size (is_large best.bound)
    where
      by_size : (large : Bool) → says_no_bound (cond large (Err (refusal.BoundLarge best.bound.ops best.bound.entries)) (with_index best (index_of tables query best.choice))) ≡ false
      by_size true = refl
      by_size false = with_told best (index_of tables query best.choice) (index_told best.choice)

  list_told : (list : List Candidate) → says_no_bound (chosen_of tables query (least list)) ≡ true → is_some_list list ≡ false
  list_told [] is = refl
  list_told (c ∷ cs) is = absurd (false≢true (sym (some_told (fold lesser c cs)) ∙ is))

  plan_told : (found : Result ChosenCandidate Refusal) → says_no_bound (found >>= with_chosen query) ≡ says_no_bound found
  plan_told (Ok best) = refl
  plan_told (Err why) = refl

  unplanned_none : (alias : List ℕ) → plan_of tables query ≡ Err (refusal.NoBound alias) → has_candidate tables query ≡ false
  unplanned_none alias is = list_told (candidates tables query) (sym (plan_told (chosen_candidate tables query)) ∙ ap says_no_bound is)

-- it is told exactly where none of the three queries has a candidate, and of the query as it is written
module _ (tables : List Table) (query : Query) where
  pub no_bound_told : HasNoCandidate tables query → arranged_plan tables query ≡ Err (no_bound tables query)
  no_bound_told none =
      by_cases (λ taken. plan_of tables taken ≡ Err (no_bound tables query)) tables query
      (λ has. absurd (false≢true (sym none.0 ∙ has)))
      (λ _ has. absurd (false≢true (sym none.1 ∙ has)))
      (λ _ _ has. absurd (false≢true (sym none.2 ∙ has)))
      (λ own _ _. none_planned tables query own)

  pub none_has : (alias : List ℕ) → arranged_plan tables query ≡ Err (refusal.NoBound alias) → HasNoCandidate tables query
  none_has alias =
      by_cases (λ taken. plan_of tables taken ≡ Err (refusal.NoBound alias) → HasNoCandidate tables query) tables query
      (λ has told. absurd (false≢true (sym (unplanned_none tables query alias told) ∙ has)))
      (λ _ has told. absurd (false≢true (sym (unplanned_none tables (rearranged_query tables query false) alias told) ∙ has)))
      (λ _ _ has told. absurd (false≢true (sym (unplanned_none tables (rearranged_query tables query true) alias told) ∙ has)))
      (λ first second third told. (first, second, third))
