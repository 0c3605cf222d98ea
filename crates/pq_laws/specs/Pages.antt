-- The pages of a query with PAGINATE k, each from the last combination of the one before it on.
use Rattle.std.specs.Prelude.{◌≡◌, ℕ, ◌<◌, List, [], ◌∷◌, length, Option, Some, None, Ok}
use Rattle.pq_base.specs.declared.value.Value.{Value}
use Rattle.pq_schema.specs.declared.query.Query.{Query}
use Rattle.pq_schema.specs.declared.query.Stop.TheVariants.{Paginate}
use Rattle.pq_schema.specs.Resolved.{IsResolved}
use Rattle.pq_schema.specs.Valid.{IsValid}
use Rattle.pq_content.specs.Tables.{Keeps}
use Rattle.pq_plan.specs.Answer.{Question, answered, position, selected_values}
use Rattle.pq_running.specs.Running.{last_of}
use Rattle.pq_running.specs.Running.{Running, running_of}
use Rattle.pq_print.specs.declared.report.End.{End}
use Rattle.pq_print.specs.declared.report.End.TheVariants.{Done, InBatch, Refused, Rows}
use Rattle.pq_print.specs.declared.report.Line.{Line}
use Rattle.pq_print.specs.declared.report.Line.TheVariants.{Row}
use Rattle.pq_print.specs.declared.report.Report.{Report}
use Rattle.pq_catalog.specs.Model.{Model}
use Rattle.pq_reports.specs.Step.{page_of}

-- a query with PAGINATE k over valid definitions, which the rows keep
pub record IsPaged (m : Model) (query : Query) (k : ℕ) : Type 0 where
  pub valid : IsValid m.schema
  pub keeps : Keeps m.schema.tables m.rows
  pub resolved : IsResolved m.schema.tables query
  pub size : query.stop ≡ Paginate k

-- the query over the rows of the model
abbrev pub question_of : Model → Query → List Value → Question
question_of m query params = record { tables = m.schema.tables; query = query; rows = m.rows; params = params }

-- the pages behind a position: pages of k combinations, and then the first one with fewer
pub data ArePages (q : Question) (k : ℕ) : Option (List Value) → List (List (List (List Value))) → Type 0 where
  last : (after : Option (List Value)) → length (answered q after) < k → ArePages q k after (answered q after ∷ [])
  next : (after : Option (List Value)) (combo : List (List Value)) (pages : List (List (List (List Value))))
      → length (answered q after) ≡ k → last_of (answered q after) ≡ Some combo
      → ArePages q k (Some (position q combo)) pages → ArePages q k after (answered q after ∷ pages)

-- ---- as they are run

-- the cursor that the last line of a report has
abbrev pub next_in : End → Option (List ℕ)
next_in (Rows count cursor) = cursor
next_in Done = None
next_in (Refused why) = None
next_in (InBatch place cause) = None

-- RUN after RUN of a name, from one with this cursor on, each with the cursor of the report before it, up to the first
-- report that has none
pub data AreRuns (m : Model) (name : List ℕ) (params : List Value) : Option (List ℕ) → List Report → Type 0 where
  last_run : (cursor : Option (List ℕ)) (number : ℕ) (running : Running)
      → running_of m.schema name params cursor ≡ Ok running → next_in (page_of m number running).end ≡ None
      → AreRuns m name params cursor (page_of m number running ∷ [])
  next_run : (cursor : Option (List ℕ)) (number : ℕ) (running : Running) (text : List ℕ) (reports : List Report)
      → running_of m.schema name params cursor ≡ Ok running → next_in (page_of m number running).end ≡ Some text
      → AreRuns m name params (Some text) reports → AreRuns m name params cursor (page_of m number running ∷ reports)

-- the line of a combination
abbrev pub line_of : Query → List (List Value) → Line
line_of query combo = Row (selected_values query combo)
