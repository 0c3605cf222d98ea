-- What a piece of a script asks for, as far as the definitions decide it, or the first refusal that needs no
-- call of the store.
use Rattle.std.specs.Prelude.{ℕ, ◌-◌, nat_le, List, length, Option, Some, Result, Ok, Err, if◌then◌else◌}
use Rattle.pq_base.specs.declared.number.Bound.{Bound}
use Rattle.pq_base.specs.declared.refusal.Refusal.{Refusal}
use Rattle.pq_base.specs.declared.refusal.Refusal.TheVariants as refusal
use Rattle.pq_schema.specs.Definitions.{altered_schema, counted_schema, new_column, new_counter, new_table}
use Rattle.pq_schema.specs.Schema.{Schema, with_table, with_query}
use Rattle.pq_schema.specs.declared.definition.AlterDef.{AlterDef}
use Rattle.pq_schema.specs.declared.definition.CounterDef.{CounterDef}
use Rattle.pq_schema.specs.declared.table.Table.{Table}
use Rattle.pq_text.specs.Tokens.{tokens_of}
use Rattle.pq_text.specs.declared.piece.Piece.{Piece}
use Rattle.pq_text.specs.declared.piece.Piece.TheVariants as piece
use Rattle.pq_text.specs.declared.token.Token.{Token}
use Rattle.pq_shape.specs.Faults.{offset_at}
use Rattle.pq_def_read.specs.Reading.{statement_of}
use Rattle.pq_def_read.specs.declared.statement.Statement.{Statement}
use Rattle.pq_def_read.specs.declared.statement.Statement.TheVariants as statement
use Rattle.pq_def_read.specs.declared.write.WriteDef.{WriteDef}
use Rattle.pq_builds.specs.Bounds.{bound, fixed_bound as prepare_bound}
use Rattle.pq_batch.specs.Batches.{batch_bound}
use Rattle.pq_counters.specs.Bounds.{whole_bound}
use Rattle.pq_index_keep.specs.Checking.{checked_write}
use Rattle.pq_index_keep.specs.declared.write.Write.{Write}
use Rattle.pq_running.specs.Running.{Running, running_of, query_bound}
use Rattle.pq_print.specs.Report.{is_refusal}
use Rattle.pq_print.specs.declared.report.Report.{Report}
use Rattle.pq_planning.specs.Planning.{PlannedDefinition, prepared_from, explained_from, selected_from}
use Rattle.pq_statement.specs.Batches.{checked_writes, unless_many}
use Rattle.pq_statement.specs.Readings.{Reading, reading_of}

pub data Action : Type 0 where
  Creates : Table → Action
  Adds : AlterDef → Action
  Writes : Write → Action
  Batches : List Write → Action
  Misreads : ℕ → Refusal → Action
  Prepares : PlannedDefinition → Action
  Explains : PlannedDefinition → Action
  Runs : Running → Action
  Counts : CounterDef → Action
  Reads : Reading → Action
  Shows : Action
  Selects : PlannedDefinition → Action

-- what was found by reading is asked for
abbrev pub action_from : {A : Type 0} → (A → Action) → Result A Refusal → Result Action Refusal
action_from action (Ok found) = Ok (action found)
action_from action (Err why) = Err why

-- a batch of which a write is refused by reading is refused by it, by its place from 1
abbrev pub batch_action : Result (List Write) (ℕ × Refusal) → Action
batch_action (Ok writes) = Batches writes
batch_action (Err first) = Misreads first.0 first.1

-- a batch has at most 256 writes, and that comes before what each of them is
abbrev pub batch_asked : Schema → List WriteDef → Result Action Refusal
batch_asked schema defs = unless_many defs (batch_action (checked_writes schema 1 defs))

-- what a statement asks for
abbrev pub asked_by : Schema → List ℕ → List Token → Statement → Result Action Refusal
asked_by schema text tokens (statement.Create def) = action_from Creates (new_table schema def)
asked_by schema text tokens (statement.Alter def) = action_from (λ next. Adds def) (new_column schema def)
asked_by schema text tokens (statement.Write write) = action_from Writes (checked_write schema write)
asked_by schema text tokens (statement.Batch defs) = batch_asked schema defs
asked_by schema text tokens (statement.Prepare name from) =
    action_from Prepares (prepared_from schema name text tokens from)
asked_by schema text tokens (statement.Explain from) = action_from Explains (explained_from schema text tokens from)
asked_by schema text tokens (statement.Run name params after) = action_from Runs (running_of schema name params after)
asked_by schema text tokens (statement.Counter def) = action_from (λ next. Counts def) (new_counter schema def)
asked_by schema text tokens (statement.Read name values) = action_from Reads (reading_of schema name values)
asked_by schema text tokens statement.Show = Ok Shows
asked_by schema text tokens statement.Select = action_from Selects (selected_from schema text tokens)

-- tokens that spell no statement are refused with the place where reading stopped
abbrev pub asked_of : Schema → List ℕ → List Token → Result Statement ℕ → Result Action Refusal
asked_of schema text tokens (Ok read) = asked_by schema text tokens read
asked_of schema text tokens (Err left) = Err (refusal.Syntax (offset_at text tokens (length tokens - left)))

-- a text of at most 65,536 bytes, by what its tokens spell
unfoldable pub asked_text : Schema → List ℕ → Result Action Refusal
asked_text schema text =
    if nat_le (length text) 65536
    then asked_of schema text (tokens_of text) (statement_of text (tokens_of text))
    else Err refusal.StatementLong

-- what a piece of the script asks for
unfoldable pub action_of : Schema → Piece → Result Action Refusal
action_of schema (piece.Statement text) = asked_text schema text
action_of schema piece.NotUtf8 = Err refusal.NotUtf8
action_of schema piece.TooLong = Err refusal.StatementLong

-- ---- its bound, and the definitions behind it

-- the bound that the definitions fix, where they do: an index is filled over the rows of its table
abbrev pub action_bound : Schema → Action → Option Bound
action_bound schema (Creates table) = Some (bound 1 0)
action_bound schema (Adds def) = Some (bound 1 0)
action_bound schema (Writes write) = Some (whole_bound schema write)
action_bound schema (Batches writes) = Some (batch_bound schema writes)
action_bound schema (Misreads place cause) = Some (bound 0 0)
action_bound schema (Prepares plan) = prepare_bound plan.chosen.wanted
action_bound schema (Explains plan) = Some (bound 0 0)
action_bound schema (Runs running) = Some (query_bound schema.tables running.query)
action_bound schema (Counts def) = Some (bound 2 1)
action_bound schema (Reads reading) = Some (bound 1 1)
action_bound schema Shows = Some (bound 0 0)
action_bound schema (Selects plan) = Some (query_bound schema.tables plan.query)

-- a refusal that needs no call of the store has none
abbrev pub asked_bound : Schema → Result Action Refusal → Option Bound
asked_bound schema (Ok action) = action_bound schema action
asked_bound schema (Err why) = Some (bound 0 0)

abbrev pub statement_bound : Schema → Piece → Option Bound
statement_bound schema of = asked_bound schema (action_of schema of)

abbrev pub action_schema : Schema → Action → Schema
action_schema schema (Creates table) = with_table schema table
action_schema schema (Adds def) = altered_schema schema def
action_schema schema (Writes write) = schema
action_schema schema (Batches writes) = schema
action_schema schema (Misreads place cause) = schema
action_schema schema (Prepares plan) = with_query schema plan.query plan.chosen.wanted
action_schema schema (Explains plan) = schema
action_schema schema (Runs running) = schema
action_schema schema (Counts def) = counted_schema schema def
action_schema schema (Reads reading) = schema
action_schema schema Shows = schema
action_schema schema (Selects plan) = schema

-- behind what was asked for, where it is not refused
abbrev pub asked_schema : Schema → Result Action Refusal → Schema
asked_schema schema (Ok action) = action_schema schema action
asked_schema schema (Err why) = schema

-- behind a report: a refusal leaves the definitions as they were
abbrev pub schema_after : Schema → Piece → Report → Schema
schema_after schema of report = if is_refusal report then schema else asked_schema schema (action_of schema of)
