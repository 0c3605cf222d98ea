-- The query that a RUN names and the counter that a READ names, and what both are refused for.
use Rattle.std.proofs.Common.{◌≡◌, ℕ, ◌+◌, ◌-◌, ◌≤◌, true, List, length, map, get_or, Option, Some, None, Result, Ok, Err, refl, sym, ap, ◌∙◌, subst, arith}
use Rattle.std.specs.Prelude.{option_map, position}
use Rattle.std.proofs.lemmas.Option.{same_Some, none-some}
use Rattle.std.proofs.lemmas.List.{length-map}
use Rattle.std.proofs.lemmas.List.Quantifiers.{position-Some}
use Rattle.pq_base.specs.Answers.{Answers, Passes, Refuses}
use Rattle.pq_base.specs.declared.refusal.Refusal.{Refusal}
use Rattle.pq_base.specs.declared.refusal.Refusal.TheVariants as refusal
use Rattle.pq_base.specs.declared.refusal.Stopped.{Stopped}
use Rattle.pq_base.specs.declared.refusal.Stopped.TheVariants.{Refused, NoMem}
use Rattle.pq_base.specs.declared.value.ColType.{ColType}
use Rattle.pq_base.specs.declared.value.Value.{Value}
use Rattle.pq_schema.specs.Definitions.{or_ok}
use Rattle.pq_schema.specs.Schema.{Schema, IsQueryDefinition, find_counter, find_query, is_query, no_definition, number_of, query_at}
use Rattle.pq_schema.specs.Resolved.{param_type}
use Rattle.pq_schema.specs.Tables.{type_at, types_at}
use Rattle.pq_schema.specs.declared.table.Column.{Column}
use Rattle.pq_schema.specs.declared.made.Definition.{Definition}
use Rattle.pq_schema.specs.declared.made.Definition.TheVariants.{OfTable, OfQuery, OfColumn, OfCounter}
use Rattle.pq_running.specs.Running.{IsQueryNumber, cursor_start, params_refusal, running_as, running_at, running_of}
use Rattle.pq_statement.specs.Readings.{Reading, reading_at, reading_of, reading_types}

-- ---- the query of a number

named_query : (name : List ℕ) (definition : Definition) → is_query name definition ≡ true → IsQueryDefinition definition
named_query name (OfTable t columns made) h = absurd (cc)
named_query name (OfQuery q made) h = tt
named_query name (OfColumn t col) h = absurd (cc)
named_query name (OfCounter counter) h = absurd (cc)

-- a query that is found has a number
pub found_query : (schema : Schema) (name : List ℕ) (n : ℕ) → find_query schema name ≡ Some n → IsQueryNumber schema n
found_query schema name n found =
    elim (position (is_query name) schema.definitions) as (λ o. position (is_query name) schema.definitions ≡ o → option_map number_of o ≡ Some n → IsQueryNumber schema n) [
      | None ↦ λ is some. absurd (none-some n some)
      | Some place ↦ λ is some.
          let at = position-Some (is_query name) schema.definitions place no_definition is in
          let same : place + 1 ≡ n = same_Some _ _ some in
          let within = at.0 in
          let before : n - 1 ≡ place = omega arith in
          record {
            from_one = omega arith;
            there = omega arith;
            query = subst (λ k. IsQueryDefinition (get_or schema.definitions k no_definition)) (sym before) (named_query name (get_or schema.definitions place no_definition) at.1);
          }
    ] refl found

-- ---- RUN

module _ (schema : Schema) (name : List ℕ) (params : List Value) (after : Option (List ℕ)) where
  pub of_number : (query : ℕ) (start : Result (Option (List Value)) Refusal) → find_query schema name ≡ Some query → cursor_start schema.tables query (query_at schema query) params after ≡ start
      → running_of schema name params after ≡ running_as query (query_at schema query) params start
  unfolding running_of
  of_number query start found begun = ap (running_at schema name params after) found ∙ ap (running_as query (query_at schema query) params) begun

  pub no_such_query : find_query schema name ≡ None → running_of schema name params after ≡ Err (refusal.NoQuery name)
  unfolding running_of
  no_such_query none = ap (running_at schema name params after) none

  -- what a page is refused for
  pub run_refused : (query : ℕ) (stopped : Stopped) → find_query schema name ≡ Some query → Answers {A = Option (List Value)} (Err stopped) (cursor_start schema.tables query (query_at schema query) params after)
      → Refuses stopped (running_of schema name params after)
  run_refused query (Refused why) found refused = of_number query (Err why) found refused
  run_refused query NoMem found refused = tt

-- ---- READ

-- as many types as columns
pub few_types : (types : List ColType) (columns : List Column) (cols : List ℕ) → types ≡ map param_type (types_at columns cols) → length cols ≤ 4 → length types ≤ 4
few_types types columns cols is few = omega (arith, ap length is, length-map (types_at columns cols) param_type, length-map cols (type_at columns), few)

module _ (schema : Schema) (name : List ℕ) (values : List Value) where
  abbrev read_at : ℕ → Reading
  read_at number = record { number = number; values = values }

  pub reads_found : (number : ℕ) → find_counter schema name ≡ Some number → params_refusal (reading_types schema number) values ≡ None → reading_of schema name values ≡ Ok (read_at number)
  unfolding reading_of
  reads_found number found passed = ap (reading_at schema name values) found ∙ ap (λ (o : Option Refusal). or_ok o (read_at number)) passed

  pub no_such_counter : find_counter schema name ≡ None → reading_of schema name values ≡ Err (refusal.NoCounter name)
  unfolding reading_of
  no_such_counter none = ap (reading_at schema name values) none

  refused_values : (number : ℕ) (why : Refusal) → find_counter schema name ≡ Some number → params_refusal (reading_types schema number) values ≡ Some why → reading_of schema name values ≡ Err why
  unfolding reading_of
  refused_values number why found refused = ap (reading_at schema name values) found ∙ ap (λ (o : Option Refusal). or_ok o (read_at number)) refused

  -- what its values are refused for
  pub read_refused : (number : ℕ) (stopped : Stopped) → find_counter schema name ≡ Some number → Passes {A = Unit {0}} (Err stopped) (params_refusal (reading_types schema number) values) → Refuses {A = Reading} stopped (reading_of schema name values)
  read_refused number (Refused why) found refused = refused_values number why found refused
  read_refused number NoMem found refused = tt
