-- What a query was chosen at its definition is what is chosen over every later catalog, without an index.
use Rattle.std.proofs.Common.{◌≡◌, ℕ, zero, suc, ◌+◌, ◌-◌, Bool, true, false, cond, inl, inr, List, [], ◌∷◌, ◌++◌, length, get_or, Option, Some, None, Result, Ok, Err, is_some, nat_le, option_map, refl, sym, ap, ◌∙◌, subst, arith}
use Rattle.std.proofs.lemmas.Bool.{cases_lt}
use Rattle.std.proofs.lemmas.List.{get_or_append_left, get_or-append_right, get_or-set_same}
use Rattle.pq_base.specs.declared.number.Choice.{Choice}
use Rattle.pq_base.specs.declared.number.Choice.TheVariants.{Whole, Stop}
use Rattle.pq_base.specs.declared.refusal.Refusal.{Refusal}
use Rattle.pq_base.specs.declared.refusal.Refusal.TheVariants as refusal
use Rattle.pq_schema.specs.declared.made.Definition.{Definition}
use Rattle.pq_schema.specs.declared.made.Definition.TheVariants.{OfTable, OfQuery, OfColumn, OfCounter}
use Rattle.pq_schema.specs.declared.query.Query.{Query}
use Rattle.pq_schema.specs.declared.table.NewIndex.{NewIndex}
use Rattle.pq_schema.specs.declared.table.Table.{Table}
use Rattle.pq_schema.specs.Candidates.{Candidate, candidates, least}
use Rattle.pq_schema.specs.Definitions.{altered_table, altered_schema, counter_of_def}
use Rattle.pq_schema.specs.Relations.{relation_at, table_of, tied_set, order_rest}
use Rattle.pq_schema.specs.Resolved.{IsResolved}
use Rattle.pq_schema.specs.Schema.{Schema, with_wanted, with_new_index, made_of, definition_at, query_at, query_of, no_definition, IsQueryDefinition}
use Rattle.pq_schema.specs.Sequences.{serves, serving_access, index_sequence, new_index}
use Rattle.pq_schema.specs.Sound.{IsQuery, AreMade}
use Rattle.pq_schema.specs.Tables.{no_table, table_at}
use Rattle.pq_schema.specs.Valid.{IsValid}
use Rattle.pq_schema.specs.Valid.IsValid.{empty, then_table, then_query, then_column, then_counter}
use Rattle.pq_schema.specs.Wanted.{is_large, index_at, index_of, too_many_indexes, ChosenCandidate, with_index, chosen_of, chosen_candidate, no_bound, IsWanted}
use Rattle.pq_schema.proofs.Soundness.{valid_query}
use Rattle.pq_schema.proofs.Valid.{valid_made, column_parts, counter_parts, wanted_there}
use Rattle.pq_runnable.specs.Grown.{HasGrown, HaveGrown, WasDefined, IsStillChosen}
use Rattle.pq_runnable.proofs.Growing.{grown_altered, grown_table, grown_wanted, tables_themselves, tables_then, relation_grown, resolved_stays}
use Rattle.pq_runnable.proofs.Indexes.{new_serves, serving_stays, served_by_last}
use Rattle.pq_runnable.proofs.Same.{same_candidates}

-- ---- what an answer that is Ok says

abbrev ok_or : {A : Type 0} → A → Result A Refusal → A
ok_or other (Ok answer) = answer
ok_or other (Err why) = other

-- an answer that is no refusal
abbrev pub fine : {A : Type 0} → A → Result A Refusal
fine answer = Ok answer

pub ok_same : {A : Type 0} (a b : A) → fine a ≡ fine b → a ≡ b
ok_same a b is = ap (ok_or a) is

abbrev IsOkAnswer : {A : Type 0} → Result A Refusal → Type 0
IsOkAnswer (Ok answer) = Unit {0}
IsOkAnswer (Err why) = ⊥

pub err_not_ok : {A : Type 0} (why : Refusal) (b : A) → Err why ≡ Ok b → ⊥
err_not_ok why b is = subst IsOkAnswer (sym is) tt

abbrev pub pair : Candidate → Option NewIndex → ChosenCandidate
pair best wanted = record { best = best; wanted = wanted }

-- the parts of what is chosen
pub record Parts (tables : List Table) (query : Query) (best : Candidate) (wanted : Option NewIndex) : Type 0 where
  pub least : least (candidates tables query) ≡ Some best
  pub small : is_large best.bound ≡ false
  pub index : index_of tables query best.choice ≡ Ok wanted

module _ (tables : List Table) (query : Query) (best : Candidate) (wanted : Option NewIndex) where
  abbrev answer : ChosenCandidate
  answer = record { best = best; wanted = wanted }

  by_index : (c : Candidate) (r : Result (Option NewIndex) Refusal) → with_index c r ≡ Ok answer → (c ≡ best) × (r ≡ Ok wanted)
  by_index c (Ok w) is =
      let first : ChosenCandidate = record { best = c; wanted = w } in
      let e : first ≡ answer = ok_same first answer is in
      (ap (λ (h : ChosenCandidate). h.best) e, ap (λ (h : ChosenCandidate). Ok h.wanted) e)
  by_index c (Err why) is = absurd (err_not_ok why answer is)

  by_size : (c : Candidate) (large : Bool) → is_large c.bound ≡ large → cond large (Err (refusal.BoundLarge c.bound.ops c.bound.entries)) (with_index c (index_of tables query c.choice)) ≡ Ok answer → (c ≡ best) × (is_large c.bound ≡ false) × (index_of tables query c.choice ≡ Ok wanted)
  by_size c true size is = absurd (err_not_ok (refusal.BoundLarge c.bound.ops c.bound.entries) answer is)
  by_size c false size is = let parts = by_index c (index_of tables query c.choice) is in (parts.0, size, parts.1)

  by_least : (o : Option Candidate) → least (candidates tables query) ≡ o → chosen_of tables query o ≡ Ok answer → Parts tables query best wanted
  by_least None at is = absurd (err_not_ok (no_bound tables query) answer is)
  by_least (Some c) at is =
      let parts = by_size c (is_large c.bound) refl is in
      let same : c ≡ best = parts.0 in
      record {
        least = at ∙ ap (λ (b : Candidate). Some b) same;
        small = ap (λ (b : Candidate). is_large b.bound) (sym same) ∙ parts.1;
        index = ap (λ (b : Candidate). index_of tables query b.choice) (sym same) ∙ parts.2;
      }

  pub chosen_parts : chosen_candidate tables query ≡ Ok answer → Parts tables query best wanted
  chosen_parts is = by_least (least (candidates tables query)) refl is

  pub chosen_from : Parts tables query best wanted → chosen_candidate tables query ≡ Ok answer
  chosen_from parts =
      ap (chosen_of tables query) parts.least
      ∙ ap (λ b. cond b (Err (refusal.BoundLarge best.bound.ops best.bound.entries)) (with_index best (index_of tables query best.choice))) parts.small
      ∙ ap (with_index best) parts.index

-- ---- where a sequence serves, no index is wanted

abbrev pub wants : List Table → Query → ℕ → Bool → Result (Option NewIndex) Refusal
wants tables query p served =
    let table = table_of tables query p in
    cond served (Ok None)
    (cond (nat_le 16 (length table.indexes)) (Err too_many_indexes)
    (Ok (Some (record { table = (relation_at query p).table; number = length table.indexes + 1; index = new_index table (tied_set query p) (order_rest query p) }))))

abbrev pub served_table : Query → ℕ → Table → Bool
served_table query p table = is_some (serving_access table (tied_set query p) (order_rest query p))

some_is : {A : Type 0} (o : Option A) → is_some o ≡ true → (a : A) × (o ≡ Some a)
some_is None is = absurd (let no_such : false ≡ true = is in cc)
some_is (Some a) is = (a, refl)

-- a table that serves goes on to serve where it has grown
served_stays : (query : Query) (p : ℕ) (before now : Table) → HasGrown before now → served_table query p before ≡ true → served_table query p now ≡ true
served_stays query p before now grown served =
    let found = some_is (serving_access before (tied_set query p) (order_rest query p)) served in
    ap (λ (t : Table). is_some (serving_access t (tied_set query p) (order_rest query p))) grown.is
    ∙ ap is_some (serving_stays before grown.columns grown.fillers grown.indexes (tied_set query p) (order_rest query p) found.0 found.1)

-- ---- the same choice, over tables that have grown from those with the wanted index

module _ (before : List Table) (query : Query) (wanted : Option NewIndex) (made : AreMade before) (resolved : IsResolved before query) (there : IsWanted before query wanted) (now : List Table) (grown : HaveGrown (with_wanted before wanted) now) where
  pub with_it : HaveGrown before (with_wanted before wanted)
  with_it = grown_wanted before wanted made (wanted_there before query wanted resolved there)

  pub grown_from : HaveGrown before now
  grown_from = tables_then before (with_wanted before wanted) now with_it grown

  pub resolved_with : IsResolved (with_wanted before wanted) query
  resolved_with = resolved_stays before (with_wanted before wanted) query with_it resolved

  served_now : (p : ℕ) → served_table query p (table_of (with_wanted before wanted) query p) ≡ true → index_at now query p ≡ Ok None
  served_now p served = ap (wants now query p) (served_stays query p (table_of (with_wanted before wanted) query p) (table_of now query p) (relation_grown (with_wanted before wanted) now query grown resolved_with p) served)

  -- a relation that was served is served
  served_before : (p : ℕ) → served_table query p (table_of before query p) ≡ true → index_at now query p ≡ Ok None
  served_before p served = served_now p (served_stays query p (table_of before query p) (table_of (with_wanted before wanted) query p) (relation_grown before (with_wanted before wanted) query with_it resolved p) served)

  -- the table of the wanted index has it behind its others
  pub table_with : (p : ℕ) (new : NewIndex) → wanted ≡ Some new → new.table ≡ (relation_at query p).table → table_of (with_wanted before wanted) query p ≡ with_new_index (table_of before query p) new.index
  table_with p new is own =
      let fits = wanted_there before query (Some new) resolved (subst (IsWanted before query) is there) in
      let low = fits.0 in
      let high = fits.1 in
      let changed = with_new_index (table_at before new.table) new.index in
      ap (λ (w : Option NewIndex). table_at (with_wanted before w) (relation_at query p).table) is
      ∙ ap (table_at (with_wanted before (Some new))) (sym own)
      ∙ get_or-set_same before (new.table - 1) changed no_table (omega arith)
      ∙ ap (λ n. with_new_index (table_at before n) new.index) own

  -- and a relation whose index was wanted is served by it
  served_by_index : (p : ℕ) (new : NewIndex) → wanted ≡ Some new → new.table ≡ (relation_at query p).table → new.index ≡ new_index (table_of before query p) (tied_set query p) (order_rest query p) → served_table query p (table_of (with_wanted before wanted) query p) ≡ true
  served_by_index p new is own index =
      let table = table_of before query p in
      ap (λ (t : Table). is_some (serving_access t (tied_set query p) (order_rest query p))) (table_with p new is own)
      ∙ served_by_last table new.index (tied_set query p) (order_rest query p)
      (subst (λ i. serves table (tied_set query p) (order_rest query p) (index_sequence table i) ≡ true) (sym index) (new_serves before query p resolved))

  abbrev pub wanted_index : ℕ → NewIndex
  wanted_index p = record { table = (relation_at query p).table; number = length (table_of before query p).indexes + 1; index = new_index (table_of before query p) (tied_set query p) (order_rest query p) }

  by_test : (p : ℕ) (served : Bool) → served_table query p (table_of before query p) ≡ served → wants before query p served ≡ Ok wanted → index_at now query p ≡ Ok None
  by_test p true is e = served_before p is
  by_test p false is e = by_room (nat_le 16 (length (table_of before query p).indexes)) e
    where
      by_room : (full : Bool) → cond full (Err too_many_indexes) (Ok (Some (record { table = (relation_at query p).table; number = length (table_of before query p).indexes + 1; index = new_index (table_of before query p) (tied_set query p) (order_rest query p) }))) ≡ Ok wanted → index_at now query p ≡ Ok None
      by_room true e = absurd (err_not_ok too_many_indexes wanted e)
      by_room false e = served_now p (served_by_index p (wanted_index p) (sym (ok_same (Some (wanted_index p)) wanted e)) refl refl)

  pub index_stays : (choice : Choice) → index_of before query choice ≡ Ok wanted → index_of now query choice ≡ Ok None
  index_stays Whole is = refl
  index_stays (Stop p) is = at_stop p is
    where
      at_stop : (p : ℕ) → index_at before query p ≡ Ok wanted → index_at now query p ≡ Ok None
      at_stop p e = by_test p (served_table query p (table_of before query p)) refl e

  pub still_chosen : chosen_candidate now query ≡ Ok (record { best = there.best; wanted = None })
  still_chosen =
      let parts = chosen_parts before query there.best wanted there.chosen in
      chosen_from now query there.best None (record {
        least = ap least (same_candidates before now query grown_from resolved) ∙ parts.least;
        small = parts.small;
        index = index_stays there.best.choice parts.index;
      })

-- ---- each query of a valid schema

abbrev Was : List Table → Definition → Type 0
Was tables definition = WasDefined tables (query_of definition)

grows : (tables more : List Table) (query : Query) → HaveGrown tables more → WasDefined tables query → WasDefined more query
grows tables more query grown was = record {
  before = was.before;
  wanted = was.wanted;
  valid = was.valid;
  defined = was.defined;
  grown = tables_then (with_wanted was.before.tables was.wanted) tables more was.grown grown;
}

-- one more definition
one_more : (tables more : List Table) (definitions : List Definition) (last : Definition) → HaveGrown tables more → ((place : ℕ) → IsQueryDefinition (get_or definitions place no_definition) → Was tables (get_or definitions place no_definition)) → (IsQueryDefinition last → Was more last) → (place : ℕ) → IsQueryDefinition (get_or (definitions ++ last ∷ []) place no_definition) → Was more (get_or (definitions ++ last ∷ []) place no_definition)
one_more tables more definitions last grown old new place is = elim (cases_lt place (length definitions)) [
  | inl before ↦
      let same = get_or_append_left definitions (last ∷ []) no_definition place before in
      subst (Was more) (sym same) (grows tables more (query_of (get_or definitions place no_definition)) grown (old place (subst IsQueryDefinition same is)))
  | inr after ↦
      let same = get_or-append_right definitions (last ∷ []) (length definitions) place no_definition refl after in
      subst (Was more) (sym same) (at_end (place - length definitions) (subst IsQueryDefinition same is))
]
  where
    at_end : (k : ℕ) → IsQueryDefinition (get_or (last ∷ []) k no_definition) → Was more (get_or (last ∷ []) k no_definition)
    at_end zero h = new h
    at_end (suc k) h = absurd h

valid_was : {s : Schema} → IsValid s → (place : ℕ) → IsQueryDefinition (get_or s.definitions place no_definition) → Was s.tables (get_or s.definitions place no_definition)
valid_was empty place is = absurd is
valid_was (then_table b def table v d made) place is = one_more b.tables (b.tables ++ table ∷ []) b.definitions (OfTable (length b.tables + 1) (length table.columns) (length table.indexes)) (grown_table b.tables table (valid_made v)) (valid_was v) (λ h. absurd h) place is
valid_was (then_query b query wanted v d) place is =
    one_more b.tables (with_wanted b.tables wanted) b.definitions (OfQuery query (option_map made_of wanted))
    (grown_wanted b.tables wanted (valid_made v) (wanted_there b.tables query wanted d.resolved d.chosen))
    (valid_was v)
    (λ _. record { before = b; wanted = wanted; valid = v; defined = d; grown = tables_themselves (with_wanted b.tables wanted) (valid_made (then_query b query wanted v d)) })
    place is
valid_was (then_column b def next v is_added) place is =
    let parts = column_parts b def next is_added.accepted in
    subst (λ (s : Schema). (place : ℕ) → IsQueryDefinition (get_or s.definitions place no_definition) → Was s.tables (get_or s.definitions place no_definition)) parts.1
    (one_more b.tables (altered_schema b def).tables b.definitions (OfColumn (altered_table b def) (length (table_at b.tables (altered_table b def)).columns)) (grown_altered b def v parts.0) (valid_was v) (λ h. absurd h))
    place is
valid_was (then_counter b def next v is_counted) place is =
    subst (λ (s : Schema). (place : ℕ) → IsQueryDefinition (get_or s.definitions place no_definition) → Was s.tables (get_or s.definitions place no_definition)) (counter_parts b def next is_counted.accepted).1
    (one_more b.tables b.tables b.definitions (OfCounter (counter_of_def b def)) (tables_themselves b.tables (valid_made v)) (valid_was v) (λ h. absurd h))
    place is

-- the query of each definition was defined over a catalog before
pub was_defined : (s : Schema) (n : ℕ) → IsValid s → IsQueryDefinition (definition_at s n) → WasDefined s.tables (query_at s n)
was_defined s n v is = valid_was v (n - 1) is

pub query_resolved : (s : Schema) (n : ℕ) → IsValid s → IsQueryDefinition (definition_at s n) → IsResolved s.tables (query_at s n)
query_resolved s n v is =
    let was = was_defined s n v is in
    resolved_stays was.before.tables s.tables (query_at s n)
    (grown_from was.before.tables (query_at s n) was.wanted (valid_made was.valid) was.defined.resolved was.defined.chosen s.tables was.grown) was.defined.resolved

pub query_planned : (s : Schema) (n : ℕ) → IsValid s → IsQueryDefinition (definition_at s n) → IsQuery s.tables (query_at s n)
query_planned s n v is = valid_query s (query_at s n) v (query_resolved s n v is)

pub query_chosen : (s : Schema) (n : ℕ) → IsValid s → IsQueryDefinition (definition_at s n) → IsStillChosen s (query_at s n)
query_chosen s n v is =
    let was = was_defined s n v is in
    record { was = was; chosen = still_chosen was.before.tables (query_at s n) was.wanted (valid_made was.valid) was.defined.resolved was.defined.chosen s.tables was.grown }
