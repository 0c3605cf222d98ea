-- What an opening of a store finds.
use Rattle.std.proofs.Common.{◌≡◌, ℕ, ◌+◌, ◌≤◌, List, [], ◌∷◌, length, map, Bool, true, false, Option, Some, None, Result, Ok, Err, refl, sym, ap, ◌∙◌, subst, arith, cond}
use Rattle.std.specs.Prelude.{IfSome, nat_le, is_some, option_map, option_and_then}
use Rattle.std.specs.Result.{result_ok}
use Rattle.std.specs.Str.{bytes_eq}
use Rattle.std.proofs.lemmas.Bool.{false≢true}
use Rattle.std.proofs.lemmas.Option.{none-some, same_Some}
use Rattle.std.proofs.lemmas.List.{length-append, length-map}
use Rattle.pq_key_code.specs.KeyCode.{catalog_key}
use Rattle.pq_schema.specs.Schema.{Schema, empty_schema, with_query}
use Rattle.pq_content.specs.Pairs.{Pair}
use Rattle.pq_store.specs.Content.{entry}
use Rattle.pq_store.specs.declared.damage.Damage.{Damage}
use Rattle.pq_store.specs.declared.store.Pair.{Pair as Stored}
use Rattle.pq_base.specs.declared.refusal.Refusal.{Refusal}
use Rattle.pq_schema.specs.declared.definition.AlterDef.{AlterDef}
use Rattle.pq_schema.specs.declared.definition.CounterDef.{CounterDef}
use Rattle.pq_schema.specs.declared.table.Table.{Table}
use Rattle.pq_schema.specs.declared.query.Query.{Query}
use Rattle.pq_schema.specs.declared.table.NewIndex.{NewIndex}
use Rattle.pq_schema.specs.Definitions.{altered_schema, column_refusal, counted_schema, counter_refusal, definition_refusal, new_column, new_counter, new_query, new_table, or_ok}
use Rattle.pq_text.specs.declared.token.Token.{Token}
use Rattle.pq_text.specs.Tokens.{tokens_of}
use Rattle.pq_def_read.specs.declared.statement.Statement.{Statement}
use Rattle.pq_def_read.specs.declared.statement.Statement.TheVariants as statement
use Rattle.pq_def_read.specs.Reading.{statement_of}
use Rattle.pq_catalog.specs.declared.format.Mark.{Mark}
use Rattle.pq_catalog.specs.declared.format.Mark.TheVariants.{Ready, Building}
use Rattle.pq_catalog.specs.Format.{marked_text, has_format}
use Rattle.pq_opening.specs.Opened.{TellsOpened}
use Rattle.pq_opening.specs.Opening.{SchemaAndMark, none_added, with_made, with_planned, defined_by, defined_as, text_defines, has_last_text, if_canonical, text_adds, if_formatted, value_adds, pair_adds, goes_on, opened_by, added_from}
use Rattle.pq_planning.specs.Planned.{IsPlanned}
use Rattle.pq_planning.specs.Planning.{PlannedDefinition, plan_from}
use Rattle.pq_catalog.specs.Stands.{last_made}
use Rattle.pq_planning.specs.declared.planning.PlannedQuery.{PlannedQuery}
use Rattle.pq_opening.proofs.Reopening.{schema_in}

-- what a text defines is one definition more
abbrev IsOneMore : Schema → Schema → Type 0
IsOneMore schema next = length next.definitions ≡ length schema.definitions + 1

made_one : (schema next : Schema) (made : Result Table Refusal) → with_made schema made ≡ Some next → IsOneMore schema next
made_one schema next (Ok table) is = subst (IsOneMore schema) (same_Some _ _ is) (length-append schema.definitions _)
made_one schema next (Err why) is = absurd (none-some _ is)

query_one : (schema next : Schema) (query : Query) (wanted : Option NewIndex) (why : Option Refusal) → result_ok (or_ok why (with_query schema query wanted)) ≡ Some next → IsOneMore schema next
query_one schema next query wanted None is = subst (IsOneMore schema) (same_Some _ _ is) (length-append schema.definitions _)
query_one schema next query wanted (Some why) is = absurd (none-some _ is)

planned_one : (schema next : Schema) (plan : Result PlannedDefinition Refusal) → with_planned schema plan ≡ Some next → IsOneMore schema next
planned_one schema next (Ok plan) is = query_one schema next plan.query plan.chosen.wanted (definition_refusal schema plan.query.name) is
planned_one schema next (Err why) is = absurd (none-some _ is)

column_one : (schema next : Schema) (def : AlterDef) → result_ok (new_column schema def) ≡ Some next → IsOneMore schema next
unfolding new_column
column_one schema next def is = by (column_refusal schema def) is
  where
    by : (why : Option Refusal) → result_ok (or_ok why (altered_schema schema def)) ≡ Some next → IsOneMore schema next
    by None is = subst (IsOneMore schema) (same_Some _ _ is) (length-append schema.definitions _)
    by (Some why) is = absurd (none-some _ is)

counter_one : (schema next : Schema) (def : CounterDef) → result_ok (new_counter schema def) ≡ Some next → IsOneMore schema next
unfolding new_counter
counter_one schema next def is = by (counter_refusal schema def) is
  where
    by : (why : Option Refusal) → result_ok (or_ok why (counted_schema schema def)) ≡ Some next → IsOneMore schema next
    by None is = subst (IsOneMore schema) (same_Some _ _ is) (length-append schema.definitions _)
    by (Some why) is = absurd (none-some _ is)

statement_one : (schema next : Schema) (text : List ℕ) (tokens : List Token) (read : Statement) → defined_by schema text tokens read ≡ Some next → IsOneMore schema next
statement_one schema next text tokens (statement.Create def) is = made_one schema next (new_table schema def) is
statement_one schema next text tokens (statement.Prepare name from) is = planned_one schema next (plan_from schema name text tokens from) is
statement_one schema next text tokens (statement.Alter def) is = column_one schema next def is
statement_one schema next text tokens (statement.Counter def) is = counter_one schema next def is
statement_one schema next text tokens (statement.Write write) is = absurd (none-some _ is)
statement_one schema next text tokens (statement.Batch writes) is = absurd (none-some _ is)
statement_one schema next text tokens (statement.Explain from) is = absurd (none-some _ is)
statement_one schema next text tokens (statement.Run name values after) is = absurd (none-some _ is)
statement_one schema next text tokens (statement.Read name values) is = absurd (none-some _ is)
statement_one schema next text tokens statement.Show is = absurd (none-some _ is)
statement_one schema next text tokens statement.Select is = absurd (none-some _ is)

result_one : (schema next : Schema) (text : List ℕ) (tokens : List Token) (read : Result Statement ℕ) → defined_as schema text tokens read ≡ Some next → IsOneMore schema next
result_one schema next text tokens (Ok read) is = statement_one schema next text tokens read is
result_one schema next text tokens (Err left) is = absurd (none-some _ is)

pub defines_one : (schema next : Schema) (text : List ℕ) → text_defines schema text ≡ Some next → IsOneMore schema next
unfolding text_defines
defines_one schema next text is = result_one schema next text (tokens_of text) (statement_of text (tokens_of text)) is

-- what passes a test is as it was
passed : (test : Bool) (made next : Schema) → cond test (Some made) None ≡ Some next → made ≡ next
passed true made next is = same_Some _ _ is
passed false made next is = absurd (none-some _ is)

-- and so is what a text and a pair add
canonical_one : (schema next : Schema) (text : List ℕ) (o : Option Schema) → text_defines schema text ≡ o → option_and_then (if_canonical text) o ≡ Some next → IsOneMore schema next
canonical_one schema next text None is adds = absurd (none-some _ adds)
canonical_one schema next text (Some made) is adds = subst (IsOneMore schema) (passed (has_last_text text made) made next adds) (defines_one schema made text is)

pub text_one : (schema next : Schema) (text : List ℕ) → text_adds schema text ≡ Some next → IsOneMore schema next
unfolding text_adds
text_one schema next text adds = by_length (nat_le (length text) 1048576) adds
  where
    by_length : (b : Bool) → cond b (option_and_then (if_canonical text) (text_defines schema text)) None ≡ Some next → IsOneMore schema next
    by_length true e = canonical_one schema next text (text_defines schema text) refl e
    by_length false e = absurd (none-some _ e)

-- so what a text adds has a definition
pub text_some : (schema : Schema) (text : List ℕ) → IfSome (text_adds schema text) (λ next. 1 ≤ length next.definitions)
text_some schema text = by (text_adds schema text) refl
  where
    by : (o : Option Schema) → text_adds schema text ≡ o → IfSome o (λ next. 1 ≤ length next.definitions)
    by None is = tt
    by (Some next) is = let one = text_one schema next text is in omega (arith, one)

-- what a value adds, whose text adds this
value_one : (schema : Schema) (added : SchemaAndMark) (value text : List ℕ) (mark : Mark) (o : Option Schema) → text_adds schema text ≡ o → option_map (λ (next : Schema). (next, mark)) (option_and_then (if_formatted value) o) ≡ Some added → IsOneMore schema added.0
value_one schema added value text mark None is adds = absurd (none-some _ adds)
value_one schema added value text mark (Some made) is adds = subst (IsOneMore schema) (by_format (has_format value made) adds) (text_one schema made text is)
  where
    by_format : (b : Bool) → option_map (λ (next : Schema). (next, mark)) (cond b (Some made) None) ≡ Some added → made ≡ added.0
    by_format true e = ap (λ (x : SchemaAndMark). x.0) (same_Some (made, mark) added e)
    by_format false e = absurd (none-some _ e)

pub adds_one : (schema : Schema) (added : SchemaAndMark) (pair : Pair) → pair_adds schema pair ≡ Some added → IsOneMore schema added.0
unfolding pair_adds
adds_one schema added pair adds = by_parts (bytes_eq pair.0 (catalog_key (length schema.definitions + 1))) (marked_text pair.1) adds
  where
    by_parts : (b : Bool) (o : Option (Mark × List ℕ)) → cond b (option_and_then (value_adds schema pair.1) o) None ≡ Some added → IsOneMore schema added.0
    by_parts true (Some marked) e = value_one schema added pair.1 marked.1 marked.0 (text_adds schema marked.1) refl e
    by_parts true None e = absurd (none-some _ e)
    by_parts false o e = absurd (none-some _ e)

-- a pair of the next key, whose value has a mark and a text
pub pair_formatted : (schema : Schema) (pair : Pair) (value other : List ℕ) (mark : Mark) (text : List ℕ) (next : Option Schema) (result : Option SchemaAndMark) → bytes_eq pair.0 (catalog_key (length schema.definitions + 1)) ≡ true → value ≡ pair.1 → other ≡ pair.1 → marked_text value ≡ Some (mark, text)
    → next ≡ text_adds schema text → result ≡ option_map (λ (made : Schema). (made, mark)) (option_and_then (if_formatted other) next) → result ≡ pair_adds schema pair
unfolding pair_adds
pair_formatted schema pair value other mark text next result key value_is other_is marked adds is =
    is
    ∙ ap (λ (v : List ℕ). option_map (λ (made : Schema). (made, mark)) (option_and_then (if_formatted v) next)) other_is
    ∙ ap (λ (o : Option Schema). option_map (λ (made : Schema). (made, mark)) (option_and_then (if_formatted pair.1) o)) adds
    ∙ sym (ap (λ (b : Bool). cond b (option_and_then (value_adds schema pair.1) (marked_text pair.1)) None) key ∙ ap (option_and_then (value_adds schema pair.1)) (ap marked_text (sym value_is) ∙ marked))

length_of : (p : Pair) (ps : List Pair) (a b : SchemaAndMark) (o : Option SchemaAndMark) (more : SchemaAndMark → Result SchemaAndMark Pair) → pair_adds a.0 p ≡ o
    → ((n : SchemaAndMark) → more n ≡ Ok b → length b.0.definitions ≡ length n.0.definitions + length ps) → opened_by p ps o more ≡ Ok b → length b.0.definitions ≡ length a.0.definitions + length (p ∷ ps)
length_of p ps a b None more is rest e = absurd (cc)
length_of p ps a b (Some n) more is rest e =
    elim (goes_on n ps) as (λ t. cond t (more n) (Err p) ≡ Ok b → length b.0.definitions ≡ length a.0.definitions + length (p ∷ ps)) [
      | true ↦ λ e. let first = adds_one a.0 n p is in let then = rest n e in omega (arith, first, then)
      | false ↦ λ e. absurd (cc)
    ] e

pub opened_length : (ps : List Pair) (a b : SchemaAndMark) → added_from a ps ≡ Ok b → length b.0.definitions ≡ length a.0.definitions + length ps
unfolding added_from
opened_length [] a b e = let same : length a.0.definitions ≡ length b.0.definitions = ap (λ (r : Result SchemaAndMark Pair). length (schema_in r).definitions) e in omega (arith, same)
opened_length (p ∷ ps) a b e = length_of p ps a b (pair_adds a.0 p) (λ n. added_from n ps) refl (λ n is. opened_length ps n b is) e

-- the mark of a build comes with an index alone
abbrev IsOfIndex : SchemaAndMark → Type 0
IsOfIndex added = added.1 ≡ Building → is_some (last_made added.0) ≡ true

going : (n : SchemaAndMark) (ps : List Pair) → goes_on n ps ≡ true → IsOfIndex n
going (s, Ready) ps h e = absurd (cc)
going (s, Building) [] h e = h
going (s, Building) (p ∷ ps) h e = absurd (false≢true h)

marked_step : (p : Pair) (ps : List Pair) (b : SchemaAndMark) (o : Option SchemaAndMark) (more : SchemaAndMark → Result SchemaAndMark Pair) → ((n : SchemaAndMark) → IsOfIndex n → more n ≡ Ok b → IsOfIndex b)
    → opened_by p ps o more ≡ Ok b → IsOfIndex b
marked_step p ps b None more rest e = absurd (cc)
marked_step p ps b (Some n) more rest e =
    elim (goes_on n ps) as (λ t. goes_on n ps ≡ t → cond t (more n) (Err p) ≡ Ok b → IsOfIndex b) [
      | true ↦ λ is e. rest n (going n ps is) e
      | false ↦ λ _ e. absurd (cc)
    ] refl e

abbrev pub added_in : Result SchemaAndMark Pair → SchemaAndMark
added_in (Ok added) = added
added_in (Err pair) = none_added

pub opened_marked : (ps : List Pair) (a b : SchemaAndMark) → IsOfIndex a → added_from a ps ≡ Ok b → IsOfIndex b
unfolding added_from
opened_marked [] a b first e = subst IsOfIndex (ap added_in e) first
opened_marked (p ∷ ps) a b first e = marked_step p ps b (pair_adds a.0 p) (λ n. added_from n ps) (λ n h is. opened_marked ps n b h is) e

pub none_marked : IsOfIndex none_added
none_marked e = absurd (cc)

pub as_many : (found : List Stored) (added : SchemaAndMark) → added_from none_added (map entry found) ≡ Ok added → length found ≡ length added.0.definitions
as_many found added is = let long = opened_length (map entry found) none_added added is in omega (arith, long, length-map found entry)

-- what reading from no definitions gives
pub read_from : (r : Result SchemaAndMark Damage) (s : Schema) (ps : List Pair) (a : SchemaAndMark) → TellsOpened r (added_from (s, Ready) ps) → r ≡ Ok a → s ≡ empty_schema → added_from none_added ps ≡ Ok a
read_from r s ps a tells is blank =
    let at : added_from (s, Ready) ps ≡ Ok a = subst (λ (x : Result SchemaAndMark Damage). TellsOpened x (added_from (s, Ready) ps)) is tells in
    ap (λ (x : Schema). added_from (x, Ready) ps) (sym blank) ∙ at

-- what a planned query adds
pub planned_adds : (schema : Schema) (name text : List ℕ) (tokens : List Token) (from : ℕ) (computed : PlannedQuery) → IsPlanned schema name (plan_from schema name text tokens from) computed
    → with_planned schema (plan_from schema name text tokens from) ≡ result_ok (new_query schema computed.query computed.compiled.wanted)
planned_adds schema name text tokens from computed is =
    ap (with_planned schema) is.is ∙ (λ i. result_ok (new_query schema (is.plan_is.query i) (is.plan_is.wanted i)))
