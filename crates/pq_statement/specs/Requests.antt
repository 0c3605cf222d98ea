-- What a request asks for.
use Rattle.std.specs.Prelude.{◌≡◌, None, Ok, Result}
use Rattle.pq_base.specs.Values.{AllFit}
use Rattle.pq_base.specs.declared.refusal.Refusal.{Refusal}
use Rattle.pq_schema.specs.Definitions.{new_column, new_counter, new_table, definition_refusal}
use Rattle.pq_schema.specs.Names.{IsName, IsTableDef, IsAlterDef, IsCounterDef}
use Rattle.pq_schema.specs.Schema.{Schema, query_at}
use Rattle.pq_batch.specs.Promises.{IsBatch}
use Rattle.pq_index_keep.specs.Sound.{IsWrite}
use Rattle.pq_nodes.specs.Operators.{IsCursor}
use Rattle.pq_running.specs.Running.{IsQueryNumber, Running, running_with}
use Rattle.pq_statement.specs.Actions.{Action, Creates, Adds, Writes, Batches, Misreads, Prepares, Explains, Runs, Counts, Reads, Shows, Selects, action_from}
use Rattle.pq_planning.specs.Planned.{IsComputed, IsOnce, IsPlanOf}
use Rattle.pq_planning.specs.Planning.{PlannedDefinition}
use Rattle.pq_statement.specs.Readings.{Reading, IsReading}
use Rattle.pq_statement.specs.declared.requests.Request.{Request}
use Rattle.pq_statement.specs.declared.requests.Request.TheVariants as request
use Rattle.pq_statement.specs.declared.requests.RunRequest.{RunRequest}
use Rattle.pq_statement.specs.declared.requests.ReadRequest.{ReadRequest}
use Rattle.pq_planning.specs.declared.planning.PlannedQuery.{PlannedQuery}

-- the plan is one for the action
pub record IsPlannedAs (action : PlannedDefinition → Action) (asked : Result Action Refusal) (computed : PlannedQuery) :
    Type 0 where
  pub plan : PlannedDefinition
  pub plan_is : IsPlanOf computed plan
  pub asks : asked ≡ Ok (action plan)

-- a query that may be defined
pub record IsDefinable (schema : Schema) (computed : PlannedQuery) : Type 0 where
  pub name : IsName computed.query.name
  pub computed_is : IsComputed schema.tables computed
  pub free : definition_refusal schema computed.query.name ≡ None

-- the run of a defined query, with parameters and a position that fit it
pub record RunsAs (schema : Schema) (run : RunRequest) (found : Result Running Refusal) : Type 0 where
  pub number : IsQueryNumber schema run.query
  pub fits : AllFit (query_at schema run.query).params run.params
  pub cursor : IsCursor schema.tables (query_at schema run.query) run.after
  pub is : found ≡ Ok (running_with run.query (query_at schema run.query) run.params run.after)

-- the read of a counter's group
abbrev pub reading_asked : ReadRequest → Reading
reading_asked read = record { number = read.counter; values = read.values }

-- it asks for this; whether a table, a column or a counter is refused is found as it is added
abbrev pub Asks : Schema → Request → Result Action Refusal → Type 0
Asks schema (request.Create def) asked = IsTableDef def × (asked ≡ action_from Creates (new_table schema def))
Asks schema (request.Alter def) asked =
    IsAlterDef def × (asked ≡ action_from (λ next. Adds def) (new_column schema def))
Asks schema (request.Write write) asked = IsWrite schema.tables write × (asked ≡ Ok (Writes write))
Asks schema (request.Batch writes) asked = IsBatch schema writes × (asked ≡ Ok (Batches writes))
Asks schema (request.Misread place cause) asked = asked ≡ Ok (Misreads place cause)
Asks schema (request.Prepare computed) asked = IsDefinable schema computed × IsPlannedAs Prepares asked computed
Asks schema (request.Explain computed) asked = IsComputed schema.tables computed × IsPlannedAs Explains asked computed
Asks schema (request.Run run) asked = (found : Result Running Refusal) × RunsAs schema run found
    × (asked ≡ action_from Runs found)
Asks schema (request.Count def) asked =
    IsCounterDef def × (asked ≡ action_from (λ next. Counts def) (new_counter schema def))
Asks schema (request.Read read) asked =
    IsReading schema (reading_asked read) × (asked ≡ Ok (Reads (reading_asked read)))
Asks schema request.Show asked = asked ≡ Ok Shows
Asks schema (request.Select computed) asked =
    IsComputed schema.tables computed × IsOnce computed × IsPlannedAs Selects asked computed

-- something is asked for
abbrev pub IsRequest : Schema → Request → Type 0
IsRequest schema request = (asked : Result Action Refusal) × Asks schema request asked
