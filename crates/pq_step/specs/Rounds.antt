-- How often a statement asks the store at most, by what it asks for: each call of the store is a round.
use Rattle.std.specs.Prelude.{ℕ, ◌+◌, ◌≤◌, ◌⊎◌, List, [], Option, Some, None, Result, Ok, Err}
use Rattle.pq_base.specs.declared.refusal.Refusal.{Refusal}
use Rattle.pq_batch.specs.Batches.{batch_changes, batch_rounds}
use Rattle.pq_catalog.specs.Kept.{IsKeptPlan}
use Rattle.pq_content.specs.Standing.{write_ops}
use Rattle.pq_counters.specs.Whole.{whole_changes, whole_rounds}
use Rattle.pq_nodes.specs.Rounds.{plan_rounds}
use Rattle.pq_plan.specs.declared.physical.Physical.{Physical}
use Rattle.pq_schema.specs.Schema.{Schema}
use Rattle.pq_schema.specs.declared.query.Query.{Query}
use Rattle.pq_schema.specs.declared.table.NewIndex.{NewIndex}
use Rattle.pq_schema.specs.declared.table.Table.{Table}
use Rattle.pq_statement.specs.Actions.{Action, Creates, Adds, Writes, Batches, Misreads, Prepares, Explains, Runs, Counts, Reads, Shows, Selects}

-- as often as a plan asks that may be kept for the query
pub record AsksByPlan (tables : List Table) (query : Query) (before after : ℕ) : Type 0 where
  pub tree : Physical
  pub plan : IsKeptPlan tables query tree
  pub few : after ≤ before + plan_rounds tree

-- or, where no plan was begun, not at all
abbrev pub AsksQuery : List Table → Query → ℕ → ℕ → Type 0
AsksQuery tables query before after = (after ≤ before) ⊎ AsksByPlan tables query before after

-- once for the definition; where an index is made, its table's rows decide
abbrev pub AsksPrepared : Option NewIndex → ℕ → ℕ → Type 0
AsksPrepared None before after = after ≤ before + 1
AsksPrepared (Some new) before after = Unit {0}

-- a write asks for its tests and its counters' groups, and then makes its changes, each by a call
abbrev pub AsksAction : Schema → Action → ℕ → ℕ → Type 0
AsksAction schema (Creates table) before after = after ≤ before + 1
AsksAction schema (Adds def) before after = after ≤ before + 1
AsksAction schema (Writes write) before after =
    after ≤ before + (whole_rounds [] schema write + write_ops (whole_changes schema write))
AsksAction schema (Batches writes) before after =
    after ≤ before + (batch_rounds schema writes + write_ops (batch_changes schema writes))
AsksAction schema (Misreads place cause) before after = after ≤ before
AsksAction schema (Prepares plan) before after = AsksPrepared plan.chosen.wanted before after
AsksAction schema (Explains plan) before after = after ≤ before
AsksAction schema (Runs running) before after = AsksQuery schema.tables running.query before after
AsksAction schema (Counts def) before after = after ≤ before + 2
AsksAction schema (Reads reading) before after = after ≤ before + 1
AsksAction schema Shows before after = after ≤ before
AsksAction schema (Selects plan) before after = AsksQuery schema.tables plan.query before after

-- what is refused before any call doesn't ask
abbrev pub AsksAsked : Schema → Result Action Refusal → ℕ → ℕ → Type 0
AsksAsked schema (Ok action) before after = AsksAction schema action before after
AsksAsked schema (Err why) before after = after ≤ before
