-- How often a statement asks the store, by what was asked for.
use Rattle.std.proofs.Common.{ℕ, ◌+◌, ◌≤◌, List, Option, Some, None, Result, Ok, Err, inl, inr, arith}
use Rattle.std.specs.Prelude.{MatchResult}
use Rattle.pq_base.specs.declared.refusal.Refusal.{Refusal}
use Rattle.pq_catalog.specs.Kept.{IsKeptPlan}
use Rattle.pq_nodes.specs.Rounds.{plan_rounds}
use Rattle.pq_plan.specs.declared.physical.Physical.{Physical}
use Rattle.pq_schema.specs.Schema.{Schema}
use Rattle.pq_schema.specs.declared.query.Query.{Query}
use Rattle.pq_schema.specs.declared.table.NewIndex.{NewIndex}
use Rattle.pq_schema.specs.declared.table.Table.{Table}
use Rattle.pq_statement.specs.Actions as action
use Rattle.pq_statement.specs.Actions.{Action, Creates, Adds, Writes, Batches, Misreads, Prepares, Explains, Runs, Reads, Shows, Selects, action_from}
use Rattle.pq_step.specs.Rounds.{AsksAsked, AsksPrepared, AsksQuery}

pub plan_asked : (tables : List Table) (query : Query) (tree : Physical) (before after : ℕ) → IsKeptPlan tables query tree → after ≤ before + plan_rounds tree → AsksQuery tables query before after
plan_asked tables query tree before after kept few = inr (record { tree = tree; plan = kept; few = few })

pub prepared_unasked : (wanted : Option NewIndex) (before after : ℕ) → after ≤ before → AsksPrepared wanted before after
prepared_unasked None before after none = omega (arith, none)
prepared_unasked (Some new) before after none = tt

module _ (schema : Schema) (before after : ℕ) where
  -- no call was made
  pub unasked : (asked : Result Action Refusal) → after ≤ before → AsksAsked schema asked before after
  unasked (Err why) none = none
  unasked (Ok (Creates table)) none = omega (arith, none)
  unasked (Ok (Adds def)) none = omega (arith, none)
  unasked (Ok (Writes write)) none = omega (arith, none)
  unasked (Ok (Batches writes)) none = omega (arith, none)
  unasked (Ok (Misreads place cause)) none = none
  unasked (Ok (Prepares plan)) none = prepared_unasked plan.chosen.wanted before after none
  unasked (Ok (Explains plan)) none = none
  unasked (Ok (Runs running)) none = inl none
  unasked (Ok (action.Counts def)) none = omega (arith, none)
  unasked (Ok (Reads reading)) none = omega (arith, none)
  unasked (Ok Shows) none = none
  unasked (Ok (Selects plan)) none = inl none

  -- what is refused as it is found doesn't ask
  pub created_asked : (made : Result Table Refusal) → MatchResult made (λ table. after ≤ before + 1) (λ why. after ≤ before) → AsksAsked schema (action_from Creates made) before after
  created_asked (Ok table) few = few
  created_asked (Err why) few = few

  pub added_asked : (def : _) (made : Result Schema Refusal) → MatchResult made (λ next. after ≤ before + 1) (λ why. after ≤ before) → AsksAsked schema (action_from (λ next. Adds def) made) before after
  added_asked def (Ok next) few = few
  added_asked def (Err why) few = few

  pub counted_asked : (def : _) (made : Result Schema Refusal) → MatchResult made (λ next. after ≤ before + 2) (λ why. after ≤ before) → AsksAsked schema (action_from (λ next. action.Counts def) made) before after
  counted_asked def (Ok next) few = few
  counted_asked def (Err why) few = few
