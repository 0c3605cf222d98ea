-- A query that a text spells, with the least of its candidates.
use Rattle.std.specs.Prelude.{◌≡◌, ℕ, ◌==◌, false, true, not, List, codes, length, Option, option_map, Result, Ok}
use Rattle.pq_base.specs.declared.refusal.Refusal.{Refusal}
use Rattle.pq_base.specs.declared.refusal.Refusal.TheVariants as refusal
use Rattle.pq_schema.specs.Candidates.{Candidate}
use Rattle.pq_schema.specs.Definitions.{definition_refusal, refused_if}
use Rattle.pq_schema.specs.Schema.{Schema}
use Rattle.pq_schema.specs.Tables.{table_at}
use Rattle.pq_schema.specs.Wanted.{ChosenCandidate, chosen_candidate}
use Rattle.pq_schema.specs.declared.query.Query.{Query}
use Rattle.pq_schema.specs.declared.table.NewIndex.{NewIndex}
use Rattle.pq_schema.specs.declared.table.Table.{Table}
use Rattle.pq_text.specs.declared.token.Token.{Token}
use Rattle.pq_query_read.specs.Queries.{read_query_of}
use Rattle.pq_query_read.specs.Trying.{◌>>=◌, passed_unless}
use Rattle.pq_stop_push.specs.Having.{has_candidate}
use Rattle.pq_arrange.specs.Arrange.{rearranged_query, arranged_query}

-- a query with its least candidate and the index that this wants
pub record PlannedDefinition : Type 0 where
  pub query : Query
  pub chosen : ChosenCandidate

abbrev pub planned_definition : Query → Candidate → Option NewIndex → PlannedDefinition
planned_definition query best wanted = record { query = query; chosen = record { best = best; wanted = wanted } }

abbrev pub with_chosen : Query → ChosenCandidate → Result PlannedDefinition Refusal
with_chosen query best = Ok (record { query = query; chosen = best })

-- the query with its least candidate, or why it has none that may be run
abbrev pub plan_of : List Table → Query → Result PlannedDefinition Refusal
plan_of tables query = chosen_candidate tables query >>= with_chosen query

-- the query that is planned in its place, with its least candidate; where no order gives it one, why it has none as
-- it is written
abbrev pub arranged_plan : List Table → Query → Result PlannedDefinition Refusal
arranged_plan tables query = plan_of tables (arranged_query tables query)

-- neither the query has a candidate, nor it rearranged, nor it rearranged and closed
abbrev pub HasNoCandidate : List Table → Query → Type 0
HasNoCandidate tables query =
    (has_candidate tables query ≡ false) × (has_candidate tables (rearranged_query tables query false) ≡ false)
    × (has_candidate tables (rearranged_query tables query true) ≡ false)

-- the query of this name that the tokens of a text spell from a place on, as it stands, or the first refusal
unfoldable pub plan_from : Schema → List ℕ → List ℕ → List Token → ℕ → Result PlannedDefinition Refusal
plan_from schema name text tokens from = read_query_of schema name text tokens from >>= plan_of schema.tables

-- the same, arranged
unfoldable pub arranged_from : Schema → List ℕ → List ℕ → List Token → ℕ → Result PlannedDefinition Refusal
arranged_from schema name text tokens from = read_query_of schema name text tokens from >>= arranged_plan schema.tables

-- ---- PREPARE

abbrev pub as_it_is : PlannedDefinition → Unit {0} → Result PlannedDefinition Refusal
as_it_is plan free = Ok plan

-- the query's refusals come before those of the definition
abbrev pub definable : Schema → PlannedDefinition → Result PlannedDefinition Refusal
definable schema plan = passed_unless (definition_refusal schema plan.query.name) >>= as_it_is plan

-- what a PREPARE defines
unfoldable pub prepared_from : Schema → List ℕ → List ℕ → List Token → ℕ → Result PlannedDefinition Refusal
prepared_from schema name text tokens from = arranged_from schema name text tokens from >>= definable schema

-- ---- EXPLAIN

-- the name that its query has in the report
abbrev pub explained_name : List ℕ
explained_name = codes "explain"

unfoldable pub explained_from : Schema → List ℕ → List Token → ℕ → Result PlannedDefinition Refusal
explained_from schema text tokens from = arranged_from schema explained_name text tokens from

-- ---- SELECT

-- what is run once has no parameters
abbrev pub once_refusal : Query → Option Refusal
once_refusal query = refused_if (not (length query.params == 0)) refusal.Params

abbrev pub with_no_params : Query → Result Query Refusal
with_no_params query = passed_unless (once_refusal query) >>= λ none. Ok query

-- and no index is made for it
abbrev pub index_refusal : List Table → Option NewIndex → Option Refusal
index_refusal tables wanted = option_map (λ new. refusal.IndexWanted (table_at tables new.table).name) wanted

abbrev pub with_no_index : List Table → PlannedDefinition → Result PlannedDefinition Refusal
with_no_index tables plan = passed_unless (index_refusal tables plan.chosen.wanted) >>= as_it_is plan

-- a query that was read, as it is run once: the parameters' refusal comes before those of its plan, and that of the
-- index last
abbrev pub selected_plan : List Table → Query → Result PlannedDefinition Refusal
selected_plan tables query = with_no_params query >>= arranged_plan tables >>= with_no_index tables

-- the query that all of a text spells; it has the name of an EXPLAIN's, which no report shows
unfoldable pub selected_from : Schema → List ℕ → List Token → Result PlannedDefinition Refusal
selected_from schema text tokens =
    read_query_of schema explained_name text tokens 0 >>= selected_plan schema.tables
