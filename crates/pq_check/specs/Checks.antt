-- The steps of a check, which has no store: the definitions grow, and all tables are without rows throughout.
use Rattle.std.specs.Prelude.{◌≡◌, ℕ, [], Result, Ok, Err}
use Rattle.pq_base.specs.declared.number.Bound.{Bound}
use Rattle.pq_base.specs.declared.refusal.Refusal.{Refusal}
use Rattle.pq_schema.specs.Schema.{Schema}
use Rattle.pq_text.specs.declared.piece.Piece.{Piece}
use Rattle.pq_print.specs.declared.report.End.TheVariants.{Done}
use Rattle.pq_print.specs.declared.report.Report.{Report}
use Rattle.pq_batch.specs.Batches.{batch_bound}
use Rattle.pq_builds.specs.Bounds.{bound}
use Rattle.pq_counters.specs.Bounds.{whole_bound}
use Rattle.pq_running.specs.Running.{query_bound}
use Rattle.pq_statement.specs.Actions.{Action, Creates, Adds, Writes, Batches, Misreads, Prepares, Explains, Runs, Counts, Reads, Shows, Selects, action_of}
use Rattle.pq_catalog.specs.Model.{Model}
use Rattle.pq_reports.specs.Step.{Step, action_step, refused_unread, report_of, report_step}

-- these definitions, and no rows
abbrev pub without_rows : Schema → Model
without_rows schema = record { schema = schema; rows = [] }

-- just the bound is told
abbrev pub bound_told : Schema → ℕ → Bound → Step
bound_told schema number most = report_step (without_rows schema) (report_of number [] Done most)

-- a write or a batch has no effect, a query no rows and a READ no number; all else is as over tables without rows
abbrev pub action_check : Schema → ℕ → Action → Step
action_check schema number (Creates table) = action_step (without_rows schema) number (Creates table)
action_check schema number (Adds def) = action_step (without_rows schema) number (Adds def)
action_check schema number (Writes write) = bound_told schema number (whole_bound schema write)
action_check schema number (Batches writes) = bound_told schema number (batch_bound schema writes)
action_check schema number (Misreads place cause) = action_step (without_rows schema) number (Misreads place cause)
action_check schema number (Prepares plan) = action_step (without_rows schema) number (Prepares plan)
action_check schema number (Explains plan) = action_step (without_rows schema) number (Explains plan)
action_check schema number (Runs running) = bound_told schema number (query_bound schema.tables running.query)
action_check schema number (Counts def) = action_step (without_rows schema) number (Counts def)
action_check schema number (Reads reading) = bound_told schema number (bound 1 1)
action_check schema number Shows = action_step (without_rows schema) number Shows
action_check schema number (Selects plan) = bound_told schema number (query_bound schema.tables plan.query)

abbrev pub checked_as : Schema → ℕ → Result Action Refusal → Step
checked_as schema number (Ok action) = action_check schema number action
checked_as schema number (Err why) = refused_unread (without_rows schema) number why

-- the step of a piece of the script
unfoldable pub check_step : Model → ℕ → Piece → Step
check_step m number piece = checked_as m.schema number (action_of m.schema piece)

-- the definitions and the report that a check makes of what was asked for
pub record IsChecked (schema : Schema) (number : ℕ) (asked : Result Action Refusal) (next : Schema)
    (report : Report) : Type 0 where
  pub next_is : next ≡ (checked_as schema number asked).model.schema
  pub report_is : report ≡ (checked_as schema number asked).report
