-- The plan of a query that is prepared, explained or run once, as lines (docs/FORMATS.md, "Plans").
use Rattle.std.specs.Prelude.{◌≡◌, ℕ, List, [], ◌++◌, flat_map, sum_by, Result, Ok, Err}
use Rattle.pq_base.specs.declared.refusal.Refusal.{Refusal}
use Rattle.pq_schema.specs.Schema.{Schema}
use Rattle.pq_schema.specs.declared.table.Table.{Table}
use Rattle.pq_plan.specs.Nodes.{plan_nodes}
use Rattle.pq_nodes.specs.Rounds.{node_rounds}
use Rattle.pq_plan_lines.specs.Lines.{plan_lines, sum_of}
use Rattle.pq_plan_lines.specs.Texts.{line_text, rounds_text}
use Rattle.pq_plan_lines.specs.declared.node_line.NodeLine.{NodeLine}
use Rattle.pq_statement.specs.Actions.{Action, Creates, Adds, Writes, Batches, Misreads, Prepares, Explains, Runs, Counts, Reads, Shows, Selects}
use Rattle.pq_statement.specs.Requests.{Asks}
use Rattle.pq_statement.specs.declared.requests.Request.{Request}
use Rattle.pq_planning.specs.Planned.{IsPlanOf}
use Rattle.pq_planning.specs.Planning.{PlannedDefinition}
use Rattle.pq_planning.specs.declared.planning.PlannedQuery.{PlannedQuery}

-- the nodes of the plan, from the innermost on, with what each costs and gives
abbrev pub lines_of : List Table → PlannedDefinition → List NodeLine
lines_of tables plan = plan_lines (plan_nodes tables plan.query plan.chosen.best.choice)

-- how many rounds the nodes ask the store for
abbrev pub rounds_of : List Table → PlannedDefinition → ℕ
rounds_of tables plan = sum_by node_rounds (plan_nodes tables plan.query plan.chosen.best.choice)

unfoldable pub plan_text : List Table → PlannedDefinition → List ℕ
plan_text tables plan =
    flat_map (line_text tables plan.query plan.chosen.wanted) (lines_of tables plan)
    ++ rounds_text (rounds_of tables plan)

-- of what is asked for: just a query that is prepared, explained or run once has a plan to be told
abbrev pub asked_plan : Schema → Result Action Refusal → List ℕ
asked_plan schema (Ok (Creates table)) = []
asked_plan schema (Ok (Adds def)) = []
asked_plan schema (Ok (Writes write)) = []
asked_plan schema (Ok (Batches writes)) = []
asked_plan schema (Ok (Misreads place cause)) = []
asked_plan schema (Ok (Prepares plan)) = plan_text schema.tables plan
asked_plan schema (Ok (Explains plan)) = plan_text schema.tables plan
asked_plan schema (Ok (Runs running)) = []
asked_plan schema (Ok (Counts def)) = []
asked_plan schema (Ok (Reads reading)) = []
asked_plan schema (Ok Shows) = []
asked_plan schema (Ok (Selects plan)) = plan_text schema.tables plan
asked_plan schema (Err why) = []

-- ---- their sum

-- the costs of the nodes sum to the bound
abbrev pub SumsToBound : List Table → PlannedDefinition → Type 0
SumsToBound tables plan = sum_of (lines_of tables plan) ≡ plan.chosen.best.bound

-- of a query that is prepared, explained or run once
abbrev pub IsSummed : Schema → Result Action Refusal → Type 0
IsSummed schema (Ok (Creates table)) = Unit {0}
IsSummed schema (Ok (Adds def)) = Unit {0}
IsSummed schema (Ok (Writes write)) = Unit {0}
IsSummed schema (Ok (Batches writes)) = Unit {0}
IsSummed schema (Ok (Misreads place cause)) = Unit {0}
IsSummed schema (Ok (Prepares plan)) = SumsToBound schema.tables plan
IsSummed schema (Ok (Explains plan)) = SumsToBound schema.tables plan
IsSummed schema (Ok (Runs running)) = Unit {0}
IsSummed schema (Ok (Counts def)) = Unit {0}
IsSummed schema (Ok (Reads reading)) = Unit {0}
IsSummed schema (Ok Shows) = Unit {0}
IsSummed schema (Ok (Selects plan)) = SumsToBound schema.tables plan
IsSummed schema (Err why) = Unit {0}

-- ---- what a text tells

-- this plan
pub record TellsPlan (tables : List Table) (plan : PlannedDefinition) (text : List ℕ) : Type 0 where
  pub text_is : text ≡ plan_text tables plan
  pub sums : SumsToBound tables plan

-- that of a query that was planned
abbrev pub TellsPlanned : Schema → PlannedQuery → List ℕ → Type 0
TellsPlanned schema computed text = (plan : PlannedDefinition) → IsPlanOf computed plan → TellsPlan schema.tables plan text

-- that of what is asked for, where it is not refused
abbrev pub TellsAsked : Schema → Result Action Refusal → List ℕ → Type 0
TellsAsked schema (Ok (Creates table)) text = text ≡ []
TellsAsked schema (Ok (Adds def)) text = text ≡ []
TellsAsked schema (Ok (Writes write)) text = text ≡ []
TellsAsked schema (Ok (Batches writes)) text = text ≡ []
TellsAsked schema (Ok (Misreads place cause)) text = text ≡ []
TellsAsked schema (Ok (Prepares plan)) text = TellsPlan schema.tables plan text
TellsAsked schema (Ok (Explains plan)) text = TellsPlan schema.tables plan text
TellsAsked schema (Ok (Runs running)) text = text ≡ []
TellsAsked schema (Ok (Counts def)) text = text ≡ []
TellsAsked schema (Ok (Reads reading)) text = text ≡ []
TellsAsked schema (Ok Shows) text = text ≡ []
TellsAsked schema (Ok (Selects plan)) text = TellsPlan schema.tables plan text
TellsAsked schema (Err why) text = Unit {0}

-- that of a request, whatever asked for it
abbrev pub TellsRequested : Schema → Request → List ℕ → Type 0
TellsRequested schema request text = (asked : Result Action Refusal) → Asks schema request asked → TellsAsked schema asked text
