-- The pairs of a catalog tell the schema that they were written for.
use Rattle.std.proofs.Common.{◌≡◌, ℕ, ◌+◌, ◌≤◌, Bool, true, false, cond, List, [], ◌∷◌, ◌++◌, length, take, Option, Some, None, Result, Ok, Err, refl, sym, ap, ◌∙◌, subst, arith, eq-eqb, inl, inr}
use Rattle.std.specs.Prelude.{is_some, option_map, option_and_then}
use Rattle.std.specs.Str.{bytes_eq, is_utf8}
use Rattle.std.proofs.lemmas.List.{take_all, length-append}
use Rattle.std.proofs.lemmas.Slice.Eq.{bytes_eq-Decides}
use Rattle.pq_schema.specs.declared.definition.AlterDef.{AlterDef}
use Rattle.pq_schema.specs.declared.definition.CounterDef.{CounterDef}
use Rattle.pq_schema.specs.declared.made.Definition.{Definition}
use Rattle.pq_schema.specs.Definitions.{new_column, new_counter}
use Rattle.pq_schema.specs.Schema.{Schema, empty_schema, definition_at, with_table, with_query}
use Rattle.pq_schema.specs.Valid.{IsValid}
use Rattle.pq_schema.specs.Valid.IsValid.{empty, then_table, then_query, then_column, then_counter}
use Rattle.pq_schema.proofs.Valid.{column_parts, counter_parts}
use Rattle.pq_key_code.specs.KeyCode.{catalog_key}
use Rattle.pq_print.specs.Canonical.{definition_text}
use Rattle.pq_content.specs.Pairs.{Pair}
use Rattle.pq_content.proofs.Others.{rising_catalog_range}
use Rattle.pq_catalog.specs.Format.{format_of, has_format}
use Rattle.pq_catalog.specs.Model.{Model}
use Rattle.pq_store.specs.Content.{Content}
use Rattle.pq_builds.specs.Stages.{ready_value, building_value}
use Rattle.pq_builds.specs.declared.target.NewQuery.{NewQuery}
use Rattle.pq_catalog.specs.declared.format.Mark.{Mark}
use Rattle.pq_catalog.specs.declared.format.Mark.TheVariants.{Ready, Building}
use Rattle.pq_opening.specs.Opening.{SchemaAndMark, none_added, has_last_text, if_formatted, text_adds, pair_adds, opened_by, added_from, catalog_in}
use Rattle.pq_catalog.specs.Stands.{Holds, content_of, value_at, catalog_pairs, pairs_counted, last_made, last_query, earlier_pairs}
use Rattle.pq_catalog.proofs.Catalogs.{are_catalog, catalog_rises, pairs_length}
use Rattle.pq_catalog.proofs.Counted.{counted_space}
use Rattle.pq_catalog.proofs.Definitions.{table_pairs, query_pairs, column_pairs, counted_pairs}
use Rattle.pq_opening.proofs.Lefts.{catalog_of_filling, last_pairs}
use Rattle.pq_catalog.proofs.Made.{made_of, small_of}
use Rattle.pq_opening.proofs.Rereading.{IsRead, table_read, query_read, column_read, counter_read}

-- ---- one more pair

same_bytes : (text : List ℕ) → bytes_eq text text ≡ true
same_bytes text = (bytes_eq-Decides text text).1 refl

-- the schema and the mark of an answer
abbrev pub schema_in : Result SchemaAndMark Pair → Schema
schema_in (Ok added) = added.0
schema_in (Err pair) = empty_schema

abbrev pub mark_in : Result SchemaAndMark Pair → Mark
mark_in (Ok added) = added.1
mark_in (Err pair) = Ready

not_ready : (n s : Schema) (b : Bool) (p : Pair) → (let building : Result SchemaAndMark Pair = Ok (n, Building) in let ready : Result SchemaAndMark Pair = Ok (s, Ready) in cond b building (Err p) ≡ ready → ⊥)
not_ready n s true p is = absurd (let wrong : Building ≡ Ready = ap mark_in is in cc)
not_ready n s false p is = absurd (cc)

module _ (pair : Pair) (next : Schema) where
  end_of : (p : Pair) (ps : List Pair) (o : Option SchemaAndMark) (s : Schema) → ((n : SchemaAndMark) → added_from n ps ≡ Ok (s, Ready) → added_from n (ps ++ pair ∷ []) ≡ Ok (next, Ready))
      → opened_by p ps o (λ n. added_from n ps) ≡ Ok (s, Ready) → opened_by p (ps ++ pair ∷ []) o (λ n. added_from n (ps ++ pair ∷ [])) ≡ Ok (next, Ready)
  unfolding added_from
  end_of p ps None s rest is = absurd (cc)
  end_of p ps (Some (n, Ready)) s rest is = rest (n, Ready) is
  end_of p [] (Some (n, Building)) s rest is = absurd (not_ready n s (is_some (last_made n)) p is)
  end_of p (q ∷ qs) (Some (n, Building)) s rest is = absurd (cc)

  pub opened_end : (ps : List Pair) (added : SchemaAndMark) (s : Schema) → added_from added ps ≡ Ok (s, Ready) → pair_adds s pair ≡ Some (next, Ready) → added_from added (ps ++ pair ∷ []) ≡ Ok (next, Ready)
  unfolding added_from
  opened_end [] added s is adds =
      let same : added.0 ≡ s = ap schema_in is in
      let here : pair_adds added.0 pair ≡ Some (next, Ready) = ap (λ (x : Schema). pair_adds x pair) same ∙ adds in
      rw here refl
  opened_end (p ∷ ps) added s is adds = end_of p ps (pair_adds added.0 p) s (λ n at. opened_end ps n s at adds) is

-- a text that is read back and is the last definition's adds its definition
adds : (schema next : Schema) (n : ℕ) → IsRead schema next (definition_text next n) → length next.definitions ≡ n
    → pair_adds schema (catalog_key (length schema.definitions + 1), value_at next n) ≡ Some (next, Ready)
unfolding pair_adds text_adds
adds schema next n read last =
    let text = definition_text next n in
    let key = same_bytes (catalog_key (length schema.definitions + 1)) in
    let utf8 = read.utf8 in
    let short = read.short in
    let defines = read.defines in
    let canonical : has_last_text text next ≡ true = ap (λ k. bytes_eq (definition_text next k) text) last ∙ same_bytes text in
    let formatted : has_format (value_at next n) next ≡ true = eq-eqb _ _ (ap (λ k. format_of (definition_at next k)) (sym last)) in
    rw (key, utf8, short, defines, canonical, formatted) refl

-- ---- a valid schema

last_number : (definitions : List Definition) (last : Definition) → length (definitions ++ last ∷ []) ≡ length definitions + 1
last_number definitions last = omega (arith, length-append definitions (last ∷ []))

-- the schema with a column has one definition and one pair more
module _ (schema : Schema) (def : AlterDef) (next : Schema) (valid : IsValid schema) (accepted : new_column schema def ≡ Ok next) where
  column_last : length next.definitions ≡ length schema.definitions + 1
  column_last =
      subst (λ (s : Schema). length s.definitions ≡ length schema.definitions + 1) (column_parts schema def next accepted).1
      (last_number schema.definitions _)

  column_ends : catalog_pairs next ≡ catalog_pairs schema ++ (catalog_key (length schema.definitions + 1), value_at next (length schema.definitions + 1)) ∷ []
  column_ends =
      let parts = column_parts schema def next accepted in
      subst (λ (s : Schema). catalog_pairs s ≡ catalog_pairs schema ++ (catalog_key (length schema.definitions + 1), value_at s (length schema.definitions + 1)) ∷ []) parts.1
      (column_pairs schema def valid parts.0)

-- and so has the schema with a counter
module _ (schema : Schema) (def : CounterDef) (next : Schema) (accepted : new_counter schema def ≡ Ok next) where
  counter_last : length next.definitions ≡ length schema.definitions + 1
  counter_last =
      subst (λ (s : Schema). length s.definitions ≡ length schema.definitions + 1) (counter_parts schema def next accepted).1
      (last_number schema.definitions _)

  counter_ends : catalog_pairs next ≡ catalog_pairs schema ++ (catalog_key (length schema.definitions + 1), value_at next (length schema.definitions + 1)) ∷ []
  counter_ends =
      subst (λ (s : Schema). catalog_pairs s ≡ catalog_pairs schema ++ (catalog_key (length schema.definitions + 1), value_at s (length schema.definitions + 1)) ∷ []) (counter_parts schema def next accepted).1
      (counted_pairs schema def)

pub reopened : (schema : Schema) → IsValid schema → added_from none_added (catalog_pairs schema) ≡ Ok (schema, Ready)
unfolding added_from
reopened _ empty = refl
reopened _ (then_table schema def table valid is_def made) =
    let next = with_table schema table in
    let n = length schema.definitions + 1 in
    subst (λ (ps : List Pair). added_from none_added ps ≡ Ok (next, Ready)) (sym (table_pairs schema table valid (made_of schema valid)))
    (opened_end _ next (catalog_pairs schema) none_added schema (reopened schema valid)
    (adds schema next n (table_read schema def table valid is_def made) (last_number schema.definitions _)))
reopened _ (then_query schema query wanted valid defined) =
    let next = with_query schema query wanted in
    let n = length schema.definitions + 1 in
    subst (λ (ps : List Pair). added_from none_added ps ≡ Ok (next, Ready)) (sym (query_pairs schema query wanted valid defined))
    (opened_end _ next (catalog_pairs schema) none_added schema (reopened schema valid)
    (adds schema next n (query_read schema query wanted valid defined) (last_number schema.definitions _)))
reopened _ (then_column schema def next valid is) =
    let n = length schema.definitions + 1 in
    subst (λ (ps : List Pair). added_from none_added ps ≡ Ok (next, Ready)) (sym (column_ends schema def next valid is.accepted))
    (opened_end _ next (catalog_pairs schema) none_added schema (reopened schema valid)
    (adds schema next n (column_read schema def next valid is) (column_last schema def next valid is.accepted)))
reopened _ (then_counter schema def next valid is) =
    let n = length schema.definitions + 1 in
    subst (λ (ps : List Pair). added_from none_added ps ≡ Ok (next, Ready)) (sym (counter_ends schema def next is.accepted))
    (opened_end _ next (catalog_pairs schema) none_added schema (reopened schema valid)
    (adds schema next n (counter_read schema def next valid is) (counter_last schema def next is.accepted)))

-- the catalog of a model's content has the definitions' pairs
pub catalog_of : (m : Model) → IsValid m.schema → catalog_in (content_of m) ≡ catalog_pairs m.schema
unfolding content_of
catalog_of m valid =
    let few : length m.schema.definitions ≤ 256 = small_of m.schema valid in
    ap (take 257) (rising_catalog_range m.schema.tables m.rows (pairs_counted m) (catalog_pairs m.schema) (counted_space m) (are_catalog m.schema) (catalog_rises m.schema few))
    ∙ take_all 257 (catalog_pairs m.schema) (omega (arith, pairs_length m.schema, few))

pub catalog_tells : (m : Model) → IsValid m.schema → added_from none_added (catalog_in (content_of m)) ≡ Ok (m.schema, Ready)
catalog_tells m valid = ap (added_from none_added) (catalog_of m valid) ∙ reopened m.schema valid

-- ---- while the last index is being filled

-- the last pair with the other mark tells the same schema, where its definition made an index
module _ (query : NewQuery) (s : Schema) (made : is_some (last_made s) ≡ true) where
  one_made : (o : Option Schema) (p q : Pair)
      → opened_by p [] (option_map (λ (next : Schema). (next, Ready)) o) (λ next. Ok next) ≡ Ok (s, Ready) → opened_by q [] (option_map (λ (next : Schema). (next, Building)) o) (λ next. Ok next) ≡ Ok (s, Building)
  one_made None p q e = absurd (cc)
  one_made (Some next) p q e =
      let same : next ≡ s = ap schema_in e in
      ap (λ (x : Schema). cond (is_some (last_made x)) (Ok (x, Building)) (Err q)) same ∙ ap (λ b. cond b (Ok (s, Building)) (Err q)) made

  one_pair : (b u : Bool) (D : List ℕ → Option Schema) (p q : Pair)
      → opened_by p [] (cond b (option_and_then (λ (k : Mark × List ℕ). option_map (λ (next : Schema). (next, k.0)) (D k.1)) (cond u (Some (Ready, query.text)) None)) None) (λ next. Ok next) ≡ Ok (s, Ready)
      → opened_by q [] (cond b (option_and_then (λ (k : Mark × List ℕ). option_map (λ (next : Schema). (next, k.0)) (D k.1)) (cond u (Some (Building, query.text)) None)) None) (λ next. Ok next) ≡ Ok (s, Building)
  one_pair true true D p q e = one_made (D query.text) p q e
  one_pair true false D p q e = absurd (cc)
  one_pair false u D p q e = absurd (cc)

  one_step : (p : Pair) (ps : List Pair) (x y : Pair) (o : Option SchemaAndMark) (more other : SchemaAndMark → Result SchemaAndMark Pair) → ((a : SchemaAndMark) → more a ≡ Ok (s, Ready) → other a ≡ Ok (s, Building))
      → opened_by p (ps ++ x ∷ []) o more ≡ Ok (s, Ready) → opened_by p (ps ++ y ∷ []) o other ≡ Ok (s, Building)
  one_step p ps x y None more other rest e = absurd (cc)
  one_step p ps x y (Some (next, Ready)) more other rest e = rest (next, Ready) e
  one_step p [] x y (Some (next, Building)) more other rest e = absurd (cc)
  one_step p (q ∷ qs) x y (Some (next, Building)) more other rest e = absurd (cc)

  pub with_mark : (ps : List Pair) (added : SchemaAndMark) → added_from added (ps ++ (query.key, ready_value query) ∷ []) ≡ Ok (s, Ready) → added_from added (ps ++ (query.key, building_value query) ∷ []) ≡ Ok (s, Building)
  unfolding added_from pair_adds
  with_mark [] added e =
      one_pair (bytes_eq query.key (catalog_key (length added.0.definitions + 1))) (is_utf8 query.text) (λ text. option_and_then (if_formatted (ready_value query)) (text_adds added.0 text))
      (query.key, ready_value query) (query.key, building_value query) e
  with_mark (p ∷ ps) added e =
      one_step p ps (query.key, ready_value query) (query.key, building_value query) (pair_adds added.0 p)
      (λ n. added_from n (ps ++ (query.key, ready_value query) ∷ [])) (λ n. added_from n (ps ++ (query.key, building_value query) ∷ [])) (λ a is. with_mark ps a is) e

-- ---- a content that holds a model

-- the mark of its last definition
abbrev pub mark_held : (m : Model) (content : Content) → Holds m content → Mark
mark_held m content (inl is) = Ready
mark_held m content (inr filling) = Building

pub held_tells : (m : Model) (content : Content) → IsValid m.schema → (holds : Holds m content) → added_from none_added (catalog_in content) ≡ Ok (m.schema, mark_held m content holds)
held_tells m content valid (inl is) = ap (λ (c : Content). added_from none_added (catalog_in c)) is ∙ catalog_tells m valid
held_tells m content valid (inr f) =
    ap (added_from none_added) (catalog_of_filling m content valid f)
    ∙ with_mark (last_query m.schema) m.schema (ap is_some f.last) (earlier_pairs m.schema) none_added
    (ap (added_from none_added) (sym (last_pairs m.schema valid f.made f.last)) ∙ reopened m.schema valid)
