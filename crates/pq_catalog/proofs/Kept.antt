-- The plans that are kept beside definitions stay those of the queries.
use Rattle.std.proofs.Common.{◌≡◌, ℕ, ◌+◌, ◌-◌, ◌<◌, ◌≤◌, ◌⊎◌, List, [], ◌∷◌, ◌++◌, length, get_or, Option, Some, None, option_map, refl, sym, ap, ◌∙◌, subst, inl, inr, arith}
use Rattle.std.specs.Prelude.{MatchOption}
use Rattle.std.specs.Option.{option_map_or}
use Rattle.std.proofs.lemmas.Bool.{cases_lt}
use Rattle.std.proofs.lemmas.List.{length-append, get_or_append_left}
use Rattle.std.proofs.Math.Seq.{get_or-append_seam}
use Rattle.pq_schema.specs.Candidates.{Candidate, least}
use Rattle.pq_schema.specs.Costs.{bound}
use Rattle.pq_schema.specs.Definitions.{altered_schema, altered_table, column_refusal, counted_schema, counter_of_def}
use Rattle.pq_schema.specs.Resolved.{IsResolved}
use Rattle.pq_schema.specs.Schema.{Schema, IsQueryDefinition, definition_at, empty_schema, made_of, no_definition, query_at, query_of, with_query, with_table, with_wanted}
use Rattle.pq_schema.specs.Valid.{IsValid, IsDefined}
use Rattle.pq_schema.proofs.Soundness.{valid_query}
use Rattle.pq_schema.proofs.Valid.{valid_made}
use Rattle.pq_schema.specs.declared.made.Definition.{Definition}
use Rattle.pq_schema.specs.declared.made.Definition.TheVariants.{OfTable, OfQuery, OfColumn, OfCounter}
use Rattle.pq_schema.specs.declared.definition.AlterDef.{AlterDef}
use Rattle.pq_schema.specs.declared.definition.CounterDef.{CounterDef}
use Rattle.pq_schema.specs.declared.query.Query.{Query}
use Rattle.pq_schema.specs.declared.table.NewIndex.{NewIndex}
use Rattle.pq_schema.specs.declared.table.Table.{Table}
use Rattle.pq_schema.specs.Tables.{table_at}
use Rattle.pq_plan.specs.Cost.{cost}
use Rattle.pq_plan.specs.declared.physical.Physical.{Physical}
use Rattle.pq_compile.specs.Chosen.{IsCompiled}
use Rattle.pq_compile.specs.declared.compiler.Compiled.{Compiled}
use Rattle.pq_runnable.specs.Grown.{HaveGrown}
use Rattle.pq_runnable.proofs.Growing.{grown_altered, grown_table, tables_themselves}
use Rattle.pq_runnable.proofs.Same.{same_candidates}
use Rattle.pq_runnable.proofs.Staying.{chosen_parts, query_resolved}
use Rattle.pq_running.specs.Running.{IsQueryNumber, query_bound}
use Rattle.pq_catalog.specs.Kept.{IsKeptPlan, ArePlans, IsPlanWanting}
use Rattle.pq_planning.specs.Planned.{IsComputed}
use Rattle.pq_planning.specs.declared.planning.PlannedQuery.{PlannedQuery}
use Rattle.pq_runnable.proofs.Keeping.{plan_defined, plan_grown}
use Rattle.pq_runnable.proofs.Runnable.{compiled_plan}
use Rattle.pq_catalog.proofs.Known.{grown_defined}

-- ---- the bound

-- over tables that have grown a query has the same bound
bound_stays : (before now : List Table) (query : Query) → HaveGrown before now → IsResolved before query → query_bound before query ≡ query_bound now query
unfolding query_bound
bound_stays before now query grown resolved =
    ap (λ (all : List Candidate). option_map_or (λ (best : Candidate). best.bound) (least all) (bound 0 0)) (sym (same_candidates before now query grown resolved))

-- a plan that was compiled costs the query's bound
pub compiled_bound : (tables : List Table) (query : Query) (made : Compiled) → IsCompiled tables query made → cost made.plan ≡ query_bound tables query
unfolding query_bound
compiled_bound tables query made is =
    let parts = chosen_parts tables query is.best made.wanted is.least in
    is.numbers ∙ sym (ap (λ (found : Option Candidate). option_map_or (λ (best : Candidate). best.bound) found (bound 0 0)) parts.least)

-- ---- one plan

kept_grown : (before now : List Table) (query : Query) (plan : Physical) → HaveGrown before now → IsResolved before query → IsKeptPlan before query plan → IsKeptPlan now query plan
kept_grown before now query plan grown resolved is = record {
  runnable = plan_grown before now query plan grown resolved is.runnable;
  bound = is.bound ∙ bound_stays before now query grown resolved;
}

kept_defined : (s : Schema) (query : Query) (made : Compiled) → IsValid s → IsDefined s query made.wanted → IsCompiled s.tables query made → IsKeptPlan (with_wanted s.tables made.wanted) query made.plan
kept_defined s query made valid defined is = record {
  runnable = plan_defined s query made valid defined is;
  bound = compiled_bound s.tables query made is ∙ bound_stays s.tables (with_wanted s.tables made.wanted) query (grown_defined s query made.wanted valid defined) defined.resolved;
}

-- the plan of a query that is defined, over the tables with the index that it wants
kept_wanting : (s : Schema) (query : Query) (plan : Physical) (wanted : Option NewIndex) → IsValid s → IsDefined s query wanted → IsPlanWanting s.tables query plan wanted → IsKeptPlan (with_wanted s.tables wanted) query plan
kept_wanting s query plan wanted valid defined is =
    subst (λ (w : Option NewIndex). IsKeptPlan (with_wanted s.tables w) query plan) is.wanted_is
    (subst (IsKeptPlan (with_wanted s.tables is.made.wanted) query) is.plan_is
    (kept_defined s query is.made valid (subst (IsDefined s query) (sym is.wanted_is) defined) is.compiled))

-- ---- all plans

pub none_kept : ArePlans empty_schema []
none_kept = record { long = refl; each = λ n is. absurd (let one = is.from_one in let there = is.there in omega (arith, one, there)) }

weaker_kept : (plan : Option Physical) (P Q : Physical → Type 0) → ((p : Physical) → P p → Q p) → MatchOption plan ⊥ P → MatchOption plan ⊥ Q
weaker_kept None P Q weaker is = is
weaker_kept (Some p) P Q weaker is = weaker p is

-- a definition more, and its plan
module _ (s : Schema) (plans : List (Option Physical)) (valid : IsValid s) (kept : ArePlans s plans) (later : List Table) (grown : HaveGrown s.tables later) (definition : Definition) (plan : Option Physical) (own : IsQueryDefinition definition → MatchOption plan ⊥ (IsKeptPlan later (query_of definition))) where
  abbrev next : Schema
  next = record { tables = later; definitions = s.definitions ++ definition ∷ [] }

  abbrev IsKeptAs : Option Physical → Definition → Type 0
  IsKeptAs found defined = MatchOption found ⊥ (IsKeptPlan later (query_of defined))

  earlier : (n : ℕ) → IsQueryNumber s n → IsKeptAs (get_or plans (n - 1) None) (definition_at s n)
  earlier n is =
      weaker_kept (get_or plans (n - 1) None) (IsKeptPlan s.tables (query_at s n)) (IsKeptPlan later (query_at s n))
      (λ p. kept_grown s.tables later (query_at s n) p grown (query_resolved s n valid is.query))
      (kept.each n is)

  one_of : (n : ℕ) → IsQueryNumber next n → (n - 1 < length s.definitions) ⊎ (length s.definitions ≤ n - 1) → IsKeptAs (get_or (plans ++ plan ∷ []) (n - 1) None) (definition_at next n)
  one_of n is (inl low) =
      let long = kept.long in
      let one = is.from_one in
      let at : definition_at next n ≡ definition_at s n = get_or_append_left s.definitions (definition ∷ []) no_definition (n - 1) low in
      let held : get_or (plans ++ plan ∷ []) (n - 1) None ≡ get_or plans (n - 1) None = get_or_append_left plans (plan ∷ []) None (n - 1) (omega (arith, long, low)) in
      let before : IsQueryNumber s n = record { from_one = is.from_one; there = omega (arith, one, low); query = subst IsQueryDefinition at is.query } in
      subst (λ (found : Option Physical). IsKeptAs found (definition_at next n)) (sym held)
      (subst (IsKeptAs (get_or plans (n - 1) None)) (sym at) (earlier n before))
  one_of n is (inr high) =
      let long = kept.long in
      let there = is.there in
      let more = length-append s.definitions (definition ∷ []) in
      let last : n - 1 ≡ length s.definitions = omega (arith, there, high, more) in
      let at : definition_at next n ≡ definition = ap (λ (k : ℕ). get_or (s.definitions ++ definition ∷ []) k no_definition) last ∙ get_or-append_seam s.definitions definition [] no_definition in
      let held : get_or (plans ++ plan ∷ []) (n - 1) None ≡ plan = ap (λ (k : ℕ). get_or (plans ++ plan ∷ []) k None) (last ∙ sym long) ∙ get_or-append_seam plans plan [] None in
      subst (λ (found : Option Physical). IsKeptAs found (definition_at next n)) (sym held)
      (subst (IsKeptAs plan) (sym at) (own (subst IsQueryDefinition at is.query)))

  one_more : ArePlans next (plans ++ plan ∷ [])
  one_more = record {
    long = length-append plans (plan ∷ []) ∙ ap (λ (k : ℕ). k + 1) kept.long ∙ sym (length-append s.definitions (definition ∷ []));
    each = λ n is. one_of n is (cases_lt (n - 1) (length s.definitions));
  }

pub table_kept : (s : Schema) (plans : List (Option Physical)) (table : Table) → IsValid s → ArePlans s plans → ArePlans (with_table s table) (plans ++ None ∷ [])
table_kept s plans table valid kept =
    one_more s plans valid kept (s.tables ++ table ∷ []) (grown_table s.tables table (valid_made valid))
    (OfTable (length s.tables + 1) (length table.columns) (length table.indexes)) None (λ no. no)

pub column_kept : (s : Schema) (plans : List (Option Physical)) (def : AlterDef) → IsValid s → ArePlans s plans → column_refusal s def ≡ None → ArePlans (altered_schema s def) (plans ++ None ∷ [])
column_kept s plans def valid kept none =
    one_more s plans valid kept (altered_schema s def).tables (grown_altered s def valid none)
    (OfColumn (altered_table s def) (length (table_at s.tables (altered_table s def)).columns)) None (λ no. no)

pub counter_kept : (s : Schema) (plans : List (Option Physical)) (def : CounterDef) → IsValid s → ArePlans s plans → ArePlans (counted_schema s def) (plans ++ None ∷ [])
counter_kept s plans def valid kept =
    one_more s plans valid kept s.tables (tables_themselves s.tables (valid_made valid)) (OfCounter (counter_of_def s def)) None (λ no. no)

pub query_kept : (s : Schema) (plans : List (Option Physical)) (query : Query) (plan : Physical) (wanted : Option NewIndex) → IsValid s → ArePlans s plans → IsDefined s query wanted → IsPlanWanting s.tables query plan wanted → ArePlans (with_query s query wanted) (plans ++ Some plan ∷ [])
query_kept s plans query plan wanted valid kept defined is =
    one_more s plans valid kept (with_wanted s.tables wanted) (grown_defined s query wanted valid defined)
    (OfQuery query (option_map made_of wanted)) (Some plan) (λ _. kept_wanting s query plan wanted valid defined is)

-- the plan of a query that wants no index, over the tables as they are
pub compiled_kept : (s : Schema) (query : Query) (made : Compiled) → IsValid s → IsResolved s.tables query → IsCompiled s.tables query made → made.wanted ≡ None → IsKeptPlan s.tables query made.plan
compiled_kept s query made valid resolved is none = record {
  runnable = compiled_plan s.tables query made (valid_query s query valid resolved) is none;
  bound = compiled_bound s.tables query made is;
}

-- ---- a query with its plan

pub computed_wanting : (tables : List Table) (computed : PlannedQuery) (wanted : Option NewIndex) → computed.compiled.wanted ≡ wanted → IsComputed tables computed → IsPlanWanting tables computed.query computed.compiled.plan wanted
computed_wanting tables computed wanted is are = record { made = computed.compiled; compiled = are.compiled; plan_is = refl; wanted_is = is }
