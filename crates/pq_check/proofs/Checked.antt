-- The steps of a check: what they report, and the definitions behind them.
use Rattle.std.proofs.Common.{◌≡◌, ℕ, List, [], Option, Some, None, Result, Ok, Err, if◌then◌else◌, refl, sym, ap, ◌∙◌, subst}
use Rattle.std.specs.Prelude.{IfErr}
use Rattle.pq_base.specs.declared.number.Bound.{Bound}
use Rattle.pq_base.specs.declared.refusal.Refusal.{Refusal}
use Rattle.pq_builds.specs.Bounds.{bound, fixed_bound, prepare_bound}
use Rattle.pq_plan.specs.Cost.{cost}
use Rattle.pq_print.specs.Report.{is_refusal}
use Rattle.pq_print.specs.declared.report.End.TheVariants.{Done}
use Rattle.pq_print.specs.declared.report.Line.{Line}
use Rattle.pq_print.specs.declared.report.Report.{Report}
use Rattle.pq_schema.specs.Schema.{Schema, with_query}
use Rattle.pq_schema.specs.declared.table.NewIndex.{NewIndex}
use Rattle.pq_text.specs.declared.piece.Piece.{Piece}
use Rattle.pq_schema.specs.Definitions.{counted_schema, new_counter}
use Rattle.pq_schema.specs.declared.definition.CounterDef.{CounterDef}
use Rattle.pq_statement.specs.Actions.{Action, Creates, Adds, Writes, Batches, Misreads, Prepares, Explains, Runs, Counts, Reads, Shows, Selects, action_from, action_of, asked_bound, asked_schema}
use Rattle.pq_check.specs.Checks.{IsChecked, action_check, checked_as, check_step, without_rows}
use Rattle.pq_planning.specs.Lines.{planned_lines}
use Rattle.pq_planning.specs.Planned.{IsComputed}
use Rattle.pq_planning.specs.Planning.{PlannedDefinition, planned_definition}
use Rattle.pq_running.specs.Running.{query_bound}
use Rattle.pq_reports.specs.Promise.{IsBound}
use Rattle.pq_reports.specs.Refusing.{CanEnd, IsUnread}
use Rattle.pq_statement.specs.Requests.{IsPlannedAs}
use Rattle.pq_reports.specs.Step.{Step, counted_over, counter_step, crowding_refusal, prepared_over, report_of}
use Rattle.pq_planning.specs.declared.planning.PlannedQuery.{PlannedQuery}
use Rattle.pq_catalog.proofs.Kept.{compiled_bound}
use Rattle.pq_reports.proofs.Planned.{explained_lines, lines_are, plan_is}

-- what a step of a check is, whatever it is a step of
pub record IsCheckStep (schema : Schema) (number : ℕ) (asked : Result Action Refusal) (made : Step) : Type 0 where
  pub numbered : made.report.number ≡ number
  pub bound : IsBound (asked_bound schema asked) made.report.bound
  pub unused : made.report.used ≡ record { ops = 0; entries = 0 }
  pub unread : IsUnread number asked made.report
  pub can : CanEnd schema asked made.report.end
  pub model : made.model ≡ without_rows (if is_refusal made.report then schema else asked_schema schema asked)

module _ (schema : Schema) (number : ℕ) where
  -- over no rows none are too many
  crowded_none : (wanted : Option NewIndex) → crowding_refusal (without_rows schema) wanted ≡ None
  crowded_none None = refl
  crowded_none (Some new) = refl

  prepared_none : (plan : PlannedDefinition) → action_check schema number (Prepares plan) ≡ prepared_over (without_rows schema) number plan None
  prepared_none plan = ap (prepared_over (without_rows schema) number plan) (crowded_none plan.chosen.wanted)

  counted_none : (def : CounterDef) → action_check schema number (Counts def) ≡ counted_over (without_rows schema) number def None
  unfolding counter_step
  counted_none def = refl

  none_bound : (wanted : Option NewIndex) → IsBound (fixed_bound wanted) (prepare_bound wanted [])
  none_bound None = refl
  none_bound (Some new) = (0, refl)

  pub is_check_step : (asked : Result Action Refusal) → IsCheckStep schema number asked (checked_as schema number asked)
  is_check_step (Err why) = record { numbered = refl; bound = refl; unused = refl; unread = refl; can = refl; model = refl }
  is_check_step (Ok (Creates table)) = record { numbered = refl; bound = refl; unused = refl; unread = tt; can = tt; model = refl }
  is_check_step (Ok (Adds def)) = record { numbered = refl; bound = refl; unused = refl; unread = tt; can = tt; model = refl }
  is_check_step (Ok (Writes write)) = record { numbered = refl; bound = refl; unused = refl; unread = tt; can = tt; model = refl }
  is_check_step (Ok (Batches writes)) = record { numbered = refl; bound = refl; unused = refl; unread = tt; can = tt; model = refl }
  is_check_step (Ok (Misreads place cause)) = record { numbered = refl; bound = refl; unused = refl; unread = refl; can = (refl, refl); model = refl }
  is_check_step (Ok (Prepares plan)) =
      subst (IsCheckStep schema number (Ok (Prepares plan))) (sym (prepared_none plan))
      (record { numbered = refl; bound = none_bound plan.chosen.wanted; unused = refl; unread = tt; can = tt; model = refl })
  is_check_step (Ok (Explains plan)) = record { numbered = refl; bound = refl; unused = refl; unread = tt; can = tt; model = refl }
  is_check_step (Ok (Runs running)) = record { numbered = refl; bound = refl; unused = refl; unread = tt; can = tt; model = refl }
  is_check_step (Ok (Counts def)) =
      subst (IsCheckStep schema number (Ok (Counts def))) (sym (counted_none def))
      (record { numbered = refl; bound = refl; unused = refl; unread = tt; can = tt; model = refl })
  is_check_step (Ok (Reads reading)) = record { numbered = refl; bound = refl; unused = refl; unread = tt; can = tt; model = refl }
  is_check_step (Ok Shows) = record { numbered = refl; bound = refl; unused = refl; unread = tt; can = tt; model = refl }
  is_check_step (Ok (Selects plan)) = record { numbered = refl; bound = refl; unused = refl; unread = tt; can = tt; model = refl }

  -- the step of a piece, by what it asks for
  pub check_by : (piece : Piece) (found : Result Action Refusal) → action_of schema piece ≡ found → check_step (without_rows schema) number piece ≡ checked_as schema number found
  unfolding check_step
  check_by piece found is = ap (checked_as schema number) is

  -- and its clauses, where what it asks for was checked
  pub checked_report : (piece : Piece) (found : Result Action Refusal) (next : Schema) (report : Report) → action_of schema piece ≡ found → IsChecked schema number found next report
      → report ≡ (check_step (without_rows schema) number piece).report
  checked_report piece found next report is done = done.report_is ∙ ap (λ (x : Step). x.report) (sym (check_by piece found is))

  pub checked_next : (piece : Piece) (found : Result Action Refusal) (next : Schema) (report : Report) → action_of schema piece ≡ found → IsChecked schema number found next report
      → next ≡ (check_step (without_rows schema) number piece).model.schema
  checked_next piece found next report is done = done.next_is ∙ ap (λ (x : Step). x.model.schema) (sym (check_by piece found is))

  pub explained_checked : (computed : PlannedQuery) (found : Result Action Refusal) → IsPlannedAs Explains found computed → (report : Report)
      → report ≡ report_of number (planned_lines schema.tables computed.query.name computed.compiled.choice (cost computed.compiled.plan) computed.compiled.wanted) Done (bound 0 0)
      → IsChecked schema number found schema report
  explained_checked computed found is report same =
      subst (λ (a : Result Action Refusal). IsChecked schema number a schema report) (sym is.asks)
      (record { next_is = refl; report_is = same ∙ explained_lines schema.tables number computed is.plan is.plan_is computed.compiled.wanted refl })

  -- of a query that is run once just the bound is told
  pub selected_checked : (computed : PlannedQuery) (found : Result Action Refusal) → IsComputed schema.tables computed → IsPlannedAs Selects found computed → (most : Bound) → most ≡ cost computed.compiled.plan
      → (report : Report) → report ≡ report_of number [] Done most → IsChecked schema number found schema report
  selected_checked computed found are is most most_is report same =
      let bound_is : most ≡ query_bound schema.tables is.plan.query =
      most_is ∙ compiled_bound schema.tables computed.query computed.compiled are.compiled ∙ ap (query_bound schema.tables) (sym is.plan_is.query) in
      subst (λ (a : Result Action Refusal). IsChecked schema number a schema report) (sym is.asks)
      (record { next_is = refl; report_is = same ∙ ap (λ (b : Bound). report_of number [] Done b) bound_is })

  -- a counter that was defined
  pub counted_checked : (def : CounterDef) (next : Schema) (report : Report) → new_counter schema def ≡ Ok next → report ≡ report_of number [] Done (bound 2 1)
      → next ≡ counted_schema schema def → IsChecked schema number (action_from (λ next. Counts def) (new_counter schema def)) next report
  counted_checked def next report made same is =
      subst (λ (r : Result Schema Refusal). IsChecked schema number (action_from (λ next. Counts def) r) next report) (sym made)
      (record { next_is = is ∙ ap (λ (x : Step). x.model.schema) (sym (counted_none def)); report_is = same ∙ ap (λ (x : Step). x.report) (sym (counted_none def)) })

-- a query that was planned and defined
pub prepared_checked : (schema : Schema) (number : ℕ) (computed : PlannedQuery) (asked : Result Action Refusal) → IsPlannedAs Prepares asked computed → (wanted : Option NewIndex) → computed.compiled.wanted ≡ wanted
    → (next : Schema) → next ≡ with_query schema computed.query wanted
    → (lines : List Line) → lines ≡ planned_lines schema.tables computed.query.name computed.compiled.choice (cost computed.compiled.plan) computed.compiled.wanted
    → (report : Report) → report ≡ report_of number lines Done (prepare_bound wanted []) → IsChecked schema number asked next report
prepared_checked schema number computed asked is wanted wants next next_same lines lined report report_same =
    let plan = planned_definition computed.query is.plan.chosen.best wanted in
    let same = sym (prepared_none schema number plan) in
    subst (λ (a : Result Action Refusal). IsChecked schema number a next report) (sym is.asks)
    (subst (λ (p : PlannedDefinition). IsChecked schema number (Ok (Prepares p)) next report) (plan_is schema.tables number computed is.plan is.plan_is wanted wants)
    (record {
      next_is = next_same ∙ ap (λ (x : Step). x.model.schema) same;
      report_is = report_same ∙ ap (λ (ls : List Line). report_of number ls Done (prepare_bound wanted [])) (lined ∙ lines_are schema.tables number computed is.plan is.plan_is wanted wants)
          ∙ ap (λ (x : Step). x.report) same;
    }))
