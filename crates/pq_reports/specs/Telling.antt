-- What the definitions and the text fix of a report of what was made, whatever the store tells.
use Rattle.std.specs.Prelude.{◌≡◌, ℕ, ◌≤◌, List, [], ◌∷◌, map, length, Option, None, Result, Ok, Err}
use Rattle.std.specs.List.{AllByRecursion}
use Rattle.pq_base.specs.Values.{AllFit}
use Rattle.pq_base.specs.declared.refusal.Refusal.{Refusal}
use Rattle.pq_base.specs.declared.value.ColType.{ColType}
use Rattle.pq_base.specs.declared.value.Value.{Value}
use Rattle.pq_nodes.specs.Combos.{selected_types}
use Rattle.pq_planning.specs.Lines.{table_lines, show_lines, query_lines}
use Rattle.pq_print.specs.declared.report.End.TheVariants as end
use Rattle.pq_print.specs.declared.report.Line.{Line}
use Rattle.pq_print.specs.declared.report.Line.TheVariants as line
use Rattle.pq_print.specs.declared.report.Report.{Report}
use Rattle.pq_schema.specs.Schema.{Schema}
use Rattle.pq_statement.specs.Actions.{Action, Creates, Adds, Writes, Batches, Misreads, Prepares, Explains, Runs, Counts, Reads, Shows, Selects}
use Rattle.pq_tallies.specs.Counters.{most_count}
use Rattle.pq_reports.specs.Step.{count_line}

-- lines that are rows of these types, and an end that counts them
pub record TellsRows (types : List ColType) (report : Report) : Type 0 where
  pub rows : List (List Value)
  pub next : Option (List ℕ)
  pub fit : AllByRecursion (AllFit types) rows
  pub lines : report.lines ≡ map line.Row rows
  pub end_is : report.end ≡ end.Rows (length rows) next

-- the same, with no page behind them
pub record TellsAnswer (types : List ColType) (report : Report) : Type 0 where
  pub rows : List (List Value)
  pub fit : AllByRecursion (AllFit types) rows
  pub lines : report.lines ≡ map line.Row rows
  pub end_is : report.end ≡ end.Rows (length rows) None

-- one line, of a number that a group may have
pub record TellsCount (report : Report) : Type 0 where
  pub n : ℕ
  pub few : n ≤ most_count
  pub lines : report.lines ≡ count_line n ∷ []
  pub end_is : report.end ≡ end.Rows 1 None

-- just these lines, and that it is done
abbrev pub TellsLines : List Line → Report → Type 0
TellsLines lines report = (report.lines ≡ lines) × (report.end ≡ end.Done)

-- what the definitions and the text fix of the report of an action that is not refused
abbrev pub TellsAction : Schema → Action → Report → Type 0
TellsAction schema (Creates table) report = TellsLines (table_lines table) report
TellsAction schema (Adds def) report = TellsLines [] report
TellsAction schema (Writes write) report = TellsLines [] report
TellsAction schema (Batches writes) report = TellsLines [] report
TellsAction schema (Misreads place cause) report = ⊥
TellsAction schema (Prepares plan) report = TellsLines (query_lines schema.tables plan) report
TellsAction schema (Explains plan) report = TellsLines (query_lines schema.tables plan) report
TellsAction schema (Runs running) report = TellsRows (selected_types schema.tables running.query) report
TellsAction schema (Counts def) report = TellsLines [] report
TellsAction schema (Reads reading) report = TellsCount report
TellsAction schema Shows report = TellsLines (show_lines schema) report
TellsAction schema (Selects plan) report = TellsAnswer (selected_types schema.tables plan.query) report

-- what is refused before any call has no such report
abbrev pub TellsAsked : Schema → Result Action Refusal → Report → Type 0
TellsAsked schema (Ok action) report = TellsAction schema action report
TellsAsked schema (Err why) report = ⊥
