-- The step that each statement makes of the model, and its report but for what it used.
use Rattle.std.specs.Prelude.{ℕ, pos, ◌==◌, not, nat_le, List, [], ◌∷◌, map, length, Option, Some, None, Result, Ok, Err}
use Rattle.pq_base.specs.declared.value.Value.{Value}
use Rattle.pq_base.specs.declared.value.Value.TheVariants as value
use Rattle.pq_base.specs.declared.number.Bound.{Bound}
use Rattle.pq_base.specs.declared.refusal.Refusal.{Refusal}
use Rattle.pq_base.specs.declared.refusal.Refusal.TheVariants as refusal
use Rattle.pq_schema.specs.declared.definition.AlterDef.{AlterDef}
use Rattle.pq_schema.specs.declared.definition.CounterDef.{CounterDef}
use Rattle.pq_schema.specs.declared.table.Table.{Table}
use Rattle.pq_schema.specs.Definitions.{refused_if, altered_table, altered_schema, counted_schema, counted_table}
use Rattle.pq_schema.specs.Schema.{with_table, with_query}
use Rattle.pq_print.specs.declared.report.Line.{Line}
use Rattle.pq_print.specs.declared.report.Line.TheVariants as line
use Rattle.pq_print.specs.declared.report.End.{End}
use Rattle.pq_print.specs.declared.report.End.TheVariants as end
use Rattle.pq_print.specs.declared.report.Report.{Report}
use Rattle.pq_content.specs.Tables.{Rows, rows_of}
use Rattle.pq_added.specs.Added.{grown_rows}
use Rattle.pq_batch.specs.Batches.{Unmade, InBatch, TooLong, batch_bound, batch_effect}
use Rattle.pq_builds.specs.Bounds.{bound, prepare_bound}
use Rattle.pq_schema.specs.Tables.{table_at}
use Rattle.pq_schema.specs.declared.query.Query.{Query}
use Rattle.pq_schema.specs.declared.table.NewIndex.{NewIndex}
use Rattle.pq_plan.specs.Answer.{answer, selected_values}
use Rattle.pq_text.specs.declared.piece.Piece.{Piece}
use Rattle.pq_statement.specs.Actions.{Action, Creates, Adds, Writes, Batches, Misreads, Prepares, Explains, Runs, Counts, Reads, Shows, Selects, action_of}
use Rattle.pq_planning.specs.Lines.{table_lines, show_lines, query_lines}
use Rattle.pq_planning.specs.Planning.{PlannedDefinition}
use Rattle.pq_statement.specs.Readings.{Reading}
use Rattle.pq_running.specs.Running.{Running, query_bound, page_combos, page_size, next_of}
use Rattle.pq_index_keep.specs.declared.write.Write.{Write}
use Rattle.pq_counters.specs.Bounds.{whole_bound}
use Rattle.pq_tallies.specs.Counters.{tally}
use Rattle.pq_tallies.specs.Defined.{counter_numbered}
use Rattle.pq_tallies.specs.Writes.{counted_effect}
use Rattle.pq_catalog.specs.Model.{Model}

pub record Step : Type 0 where
  pub model : Model
  pub report : Report

-- a report that says nothing of what was used
abbrev pub report_of : ℕ → List Line → End → Bound → Report
report_of number lines ending most =
    record {
      number = number;
      lines = lines;
      end = ending;
      bound = most;
      used = record { ops = 0; entries = 0 };
    }

abbrev pub refusal_report : ℕ → Refusal → Bound → Report
refusal_report number why most = report_of number [] (end.Refused why) most

-- a refused statement changes nothing
abbrev pub refused_step : Model → ℕ → Refusal → Bound → Step
refused_step m number why most = record { model = m; report = refusal_report number why most }

-- a statement that is refused before any call of the store
abbrev pub unread_report : ℕ → Refusal → Report
unread_report number why = refusal_report number why (bound 0 0)

abbrev pub refused_unread : Model → ℕ → Refusal → Step
refused_unread m number why = refused_step m number why (bound 0 0)

-- a statement that changes nothing
abbrev pub report_step : Model → Report → Step
report_step m report = record { model = m; report = report }

-- ---- CREATE TABLE

abbrev pub table_step : Model → ℕ → Table → Step
table_step m number table = record {
  model = record { schema = with_table m.schema table; rows = m.rows };
  report = report_of number (table_lines table) end.Done (bound 1 0);
}

-- ---- ALTER TABLE

-- the rows of the table get the column's default
abbrev pub alter_step : Model → ℕ → AlterDef → Step
alter_step m number def = record {
  model = record {
    schema = altered_schema m.schema def;
    rows = grown_rows (altered_table m.schema def) def.filler m.rows;
  };
  report = report_of number [] end.Done (bound 1 0);
}

-- ---- INSERT, UPDATE and DELETE

abbrev pub effected_as : Model → ℕ → Bound → Result Rows Refusal → Step
effected_as m number most (Ok rows) =
    record { model = record m { rows = rows }; report = report_of number [] end.Done most }
effected_as m number most (Err why) = refused_step m number why most

-- the write's effect, or its first refusal, which is last that of a counter; both have its bound
unfoldable pub write_step : Model → ℕ → Write → Step
write_step m number write = effected_as m number (whole_bound m.schema write)
    (counted_effect m.schema m.rows write)

-- ---- BATCH

-- how a batch ends that isn't made
abbrev pub unmade_end : Unmade → End
unmade_end (InBatch place cause) = end.InBatch place cause
unmade_end (TooLong length) = end.Refused (refusal.BatchLong length)

abbrev pub batched_as : Model → ℕ → Bound → Result Rows Unmade → Step
batched_as m number most (Ok rows) =
    record { model = record m { rows = rows }; report = report_of number [] end.Done most }
batched_as m number most (Err why) = report_step m (report_of number [] (unmade_end why) most)

-- all its writes, or none of them; both have its bound
unfoldable pub batch_step : Model → ℕ → List Write → Step
batch_step m number writes =
    batched_as m number (batch_bound m.schema writes) (batch_effect m.schema m.rows writes)

-- a batch of which the write at a place, from 1, is refused by reading
abbrev pub misread_report : ℕ → ℕ → Refusal → Report
misread_report number place cause = report_of number [] (end.InBatch place cause) (bound 0 0)

-- ---- CREATE COUNTER and READ

-- a counter is over a table without rows
abbrev pub crowded_refusal : Model → CounterDef → Option Refusal
crowded_refusal m def = refused_if (not (length (rows_of (counted_table m.schema def) m.rows) == 0))
    (refusal.NotEmpty def.table)

abbrev pub counted_over : Model → ℕ → CounterDef → Option Refusal → Step
counted_over m number def None = record {
  model = record m { schema = counted_schema m.schema def };
  report = report_of number [] end.Done (bound 2 1);
}
counted_over m number def (Some why) = refused_step m number why (bound 2 1)

unfoldable pub counter_step : Model → ℕ → CounterDef → Step
counter_step m number def = counted_over m number def (crowded_refusal m def)

-- how many rows the group has
abbrev pub count_read : Model → Reading → ℕ
count_read m reading = tally m.rows (counter_numbered m.schema reading.number) reading.values

-- one row, of one number
abbrev pub count_line : ℕ → Line
count_line n = line.Row (value.Int (pos n) ∷ [])

unfoldable pub read_step : Model → ℕ → Reading → Step
read_step m number reading = report_step m
    (report_of number (count_line (count_read m reading) ∷ []) (end.Rows 1 None) (bound 1 1))

-- ---- PREPARE

-- an index is filled over a million rows at most
abbrev pub crowding_refusal : Model → Option NewIndex → Option Refusal
crowding_refusal m None = None
crowding_refusal m (Some new) =
    refused_if (not (nat_le (length (rows_of new.table m.rows)) 1000000))
    (refusal.TooManyRows (table_at m.schema.tables new.table).name)

abbrev pub prepared_over : Model → ℕ → PlannedDefinition → Option Refusal → Step
prepared_over m number plan None = record {
  model = record m { schema = with_query m.schema plan.query plan.chosen.wanted };
  report = report_of number (query_lines m.schema.tables plan) end.Done (prepare_bound plan.chosen.wanted m.rows);
}
prepared_over m number plan (Some why) = record {
  model = m;
  report = refusal_report number why (prepare_bound plan.chosen.wanted m.rows);
}

-- ---- EXPLAIN

-- the lines of a PREPARE
abbrev pub explanation : List Table → ℕ → PlannedDefinition → Report
explanation tables number plan = report_of number (query_lines tables plan) end.Done (bound 0 0)

-- ---- RUN

-- the rows that some combinations give, and the cursor of the next page
abbrev pub rows_report : Model → ℕ → Running → List (List (List Value)) → Report
rows_report m number running combos =
    report_of number (map (λ combo. line.Row (selected_values running.query combo)) combos)
    (end.Rows (length combos) (next_of m.schema.tables m.rows running (page_size running.query.stop) combos))
    (query_bound m.schema.tables running.query)

-- the page of a query, with its parameters, behind its position
abbrev pub page_of : Model → ℕ → Running → Report
page_of m number running = rows_report m number running (page_combos m.schema.tables m.rows running)

-- ---- SELECT

-- the rows of a query's answer, on its bound; no page follows them
abbrev pub answer_report : Model → ℕ → Query → List (List Value) → Report
answer_report m number query rows =
    report_of number (map line.Row rows) (end.Rows (length rows) None) (query_bound m.schema.tables query)

-- the answer of a query that is run once: it has no parameters, and no page before it
abbrev pub answer_of : Model → ℕ → Query → Report
answer_of m number query = answer_report m number query (answer m.schema.tables query m.rows [] None)

-- ---- any statement

-- what an action makes of the rows
abbrev pub action_step : Model → ℕ → Action → Step
action_step m number (Creates table) = table_step m number table
action_step m number (Adds def) = alter_step m number def
action_step m number (Writes write) = write_step m number write
action_step m number (Batches writes) = batch_step m number writes
action_step m number (Misreads place cause) = report_step m (misread_report number place cause)
action_step m number (Prepares plan) = prepared_over m number plan (crowding_refusal m plan.chosen.wanted)
action_step m number (Explains plan) = report_step m (explanation m.schema.tables number plan)
action_step m number (Runs running) = report_step m (page_of m number running)
action_step m number (Counts def) = counter_step m number def
action_step m number (Reads reading) = read_step m number reading
action_step m number Shows = report_step m (report_of number (show_lines m.schema) end.Done (bound 0 0))
action_step m number (Selects plan) = report_step m (answer_of m number plan.query)

abbrev pub acted_as : Model → ℕ → Result Action Refusal → Step
acted_as m number (Ok action) = action_step m number action
acted_as m number (Err why) = refused_unread m number why

-- the step of a piece of the script
unfoldable pub step : Model → ℕ → Piece → Step
step m number piece = acted_as m number (action_of m.schema piece)
