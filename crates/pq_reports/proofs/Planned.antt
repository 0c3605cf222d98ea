-- A query that was planned, as it is defined and explained.
use Rattle.std.proofs.Common.{◌≡◌, ℕ, List, Option, None, Result, Ok, sym, ap, ◌∙◌, subst}
use Rattle.pq_base.specs.declared.refusal.Refusal.{Refusal}
use Rattle.pq_schema.specs.declared.table.Table.{Table}
use Rattle.pq_schema.specs.Definitions.{definition_refusal, or_ok}
use Rattle.pq_schema.specs.Schema.{Schema, with_query}
use Rattle.pq_print.specs.declared.report.Line.{Line}
use Rattle.pq_print.specs.declared.report.End.TheVariants.{Done}
use Rattle.pq_store.specs.Content.{Content}
use Rattle.pq_store.specs.Counts.{Counts}
use Rattle.pq_store.specs.declared.damage.Broke.{Broke}
use Rattle.pq_schema.specs.Names.{IsName}
use Rattle.pq_schema.specs.declared.table.NewIndex.{NewIndex}
use Rattle.pq_schema.specs.Valid.{IsDefined}
use Rattle.pq_print.specs.declared.report.Report.{Report}
use Rattle.pq_reports.specs.Promise.{Promises}
use Rattle.pq_builds.specs.Bounds.{bound}
use Rattle.pq_statement.specs.Actions.{Prepares}
use Rattle.pq_planning.specs.Planning.{PlannedDefinition, planned_definition}
use Rattle.pq_reports.specs.Step.{report_of, explanation}
use Rattle.pq_planning.specs.Lines.{query_lines, planned_lines}
use Rattle.pq_planning.specs.Planned.{IsComputed, IsPlanOf}
use Rattle.pq_planning.specs.declared.planning.PlannedQuery.{PlannedQuery}
use Rattle.pq_plan.specs.Cost.{cost}

-- a query that was planned and is not refused may be defined
pub computed_defined : (schema : Schema) (computed : PlannedQuery) (wanted : Option NewIndex) → computed.compiled.wanted ≡ wanted → IsName computed.query.name → IsComputed schema.tables computed → definition_refusal schema computed.query.name ≡ None
    → IsDefined schema computed.query wanted
computed_defined schema computed wanted is named are free =
    subst (IsDefined schema computed.query) is (record {
      name = named;
      resolved = are.resolved;
      chosen = record { best = are.compiled.best; chosen = are.compiled.least };
      accepted = ap (λ (o : Option Refusal). or_ok o (with_query schema computed.query computed.compiled.wanted)) free;
    })

-- a plan as it is computed
module _ (tables : List Table) (number : ℕ) (computed : PlannedQuery) (plan : PlannedDefinition) (is : IsPlanOf computed plan) (wanted : Option NewIndex) (wants : computed.compiled.wanted ≡ wanted) where
  pub plan_is : planned_definition computed.query plan.chosen.best wanted ≡ plan
  plan_is = λ i. record { query = sym is.query i; chosen = record { best = plan.chosen.best; wanted = sym (is.wanted ∙ wants) i } }

  pub lines_are : planned_lines tables computed.query.name computed.compiled.choice (cost computed.compiled.plan) computed.compiled.wanted ≡ query_lines tables (planned_definition computed.query plan.chosen.best wanted)
  unfolding query_lines
  lines_are = λ i. planned_lines tables computed.query.name (sym is.choice i) (sym is.bound i) (wants i)

  -- the promise of the plan is that of its parts
  pub planned_promise : (old now : Option Content) (schema : Schema) (before after : Counts) (result : Result (Schema × Report) Broke)
      → Promises number (Ok (Prepares (planned_definition computed.query plan.chosen.best wanted))) old now schema before after result
      → Promises number (Ok (Prepares plan)) old now schema before after result
  planned_promise old now schema before after result promise =
      subst (λ (p : PlannedDefinition). Promises number (Ok (Prepares p)) old now schema before after result) plan_is promise

  -- and so are the lines of its explanation
  pub explained_lines : report_of number (planned_lines tables computed.query.name computed.compiled.choice (cost computed.compiled.plan) computed.compiled.wanted) Done (bound 0 0) ≡ explanation tables number plan
  explained_lines = ap (λ (lines : List Line). report_of number lines Done (bound 0 0)) (lines_are ∙ ap (query_lines tables) plan_is)
