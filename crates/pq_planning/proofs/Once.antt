-- The plan of a query that is run once.
use Rattle.std.proofs.Common.{◌≡◌, ◌==◌, ℕ, Bool, true, false, not, List, [], length, Option, Some, None, Result, Ok, Err, refl, sym, ap, ◌∙◌}
use Rattle.std.proofs.lemmas.Bool.{eqb-true}
use Rattle.std.proofs.lemmas.List.{nil_from_length}
use Rattle.std.proofs.lemmas.Option.{none-some}
use Rattle.pq_base.specs.Answers.{Passes, Refuses}
use Rattle.pq_base.specs.declared.refusal.Refusal.{Refusal}
use Rattle.pq_base.specs.declared.refusal.Refusal.TheVariants as refusal
use Rattle.pq_base.specs.declared.refusal.Stopped.{Stopped}
use Rattle.pq_base.specs.declared.refusal.Stopped.TheVariants.{Refused, NoMem}
use Rattle.pq_query_read.specs.Queries.{read_query_of}
use Rattle.pq_query_read.specs.Trying.{◌>>=◌, passed_unless}
use Rattle.pq_base.specs.Answers.{Answers}
use Rattle.pq_schema.specs.Definitions.{refused_if}
use Rattle.pq_schema.specs.Schema.{Schema}
use Rattle.pq_schema.specs.declared.query.Query.{Query}
use Rattle.pq_schema.specs.declared.table.NewIndex.{NewIndex}
use Rattle.pq_schema.specs.declared.table.Table.{Table}
use Rattle.pq_text.specs.declared.token.Token.{Token}
use Rattle.pq_planning.specs.Lines.{IsLined}
use Rattle.pq_planning.specs.Planned.{IsOnce, IsPlanned}
use Rattle.pq_planning.specs.Planning.{PlannedDefinition, arranged_plan, as_it_is, explained_name, index_refusal, once_refusal, selected_from, selected_plan, with_no_index}
use Rattle.pq_planning.specs.declared.planning.PlannedQuery.{PlannedQuery}
use Rattle.pq_planning.proofs.Shown.{is_lined}

-- ---- what the tests say

none_counted : (count : ℕ) (b : Bool) → (count == 0) ≡ b → refused_if (not b) refusal.Params ≡ None → count ≡ 0
none_counted count true is none = eqb-true count 0 is
none_counted count false is none = absurd (none-some _ (sym none))

pub no_params : (query : Query) → once_refusal query ≡ None → query.params ≡ []
no_params query none = nil_from_length query.params (none_counted (length query.params) (length query.params == 0) refl none)

pub no_index : (tables : List Table) (wanted : Option NewIndex) → index_refusal tables wanted ≡ None → wanted ≡ None
no_index tables None none = refl
no_index tables (Some new) none = absurd (none-some _ (sym none))

-- ---- a query that was read

module _ (schema : Schema) (written : Query) where
  abbrev behind_params : Option Refusal → Result PlannedDefinition Refusal
  behind_params found = (passed_unless found >>= λ none. Ok written) >>= arranged_plan schema.tables >>= with_no_index schema.tables

  -- it is refused for its parameters
  pub params_stopped : (stopped : Stopped) → Passes {A = Unit {0}} (Err stopped) (once_refusal written) → Refuses {A = PlannedDefinition} stopped (selected_plan schema.tables written)
  params_stopped (Refused why) is = ap behind_params is
  params_stopped NoMem is = tt

  module _ (free : once_refusal written ≡ None) where
    planned_free : selected_plan schema.tables written ≡ (arranged_plan schema.tables written >>= with_no_index schema.tables)
    planned_free = ap behind_params free

    -- or it has no plan that may be run
    pub plan_stopped : (stopped : Stopped) → Refuses {A = PlannedDefinition} stopped (arranged_plan schema.tables written) → Refuses {A = PlannedDefinition} stopped (selected_plan schema.tables written)
    plan_stopped (Refused why) is = planned_free ∙ ap (λ (found : Result PlannedDefinition Refusal). found >>= with_no_index schema.tables) is
    plan_stopped NoMem is = tt

    module _ (computed : PlannedQuery) (planned : IsPlanned schema written.name (arranged_plan schema.tables written) computed) where
      abbrev behind_index : Option Refusal → Result PlannedDefinition Refusal
      behind_index found = passed_unless found >>= as_it_is planned.plan

      by_index : selected_plan schema.tables written ≡ behind_index (index_refusal schema.tables computed.compiled.wanted)
      by_index =
          planned_free ∙ ap (λ (found : Result PlannedDefinition Refusal). found >>= with_no_index schema.tables) planned.is
          ∙ ap (λ (wanted : Option NewIndex). behind_index (index_refusal schema.tables wanted)) planned.plan_is.wanted

      -- or its plan wants an index
      pub index_stopped : (stopped : Stopped) → Passes {A = Unit {0}} (Err stopped) (index_refusal schema.tables computed.compiled.wanted) → Refuses {A = PlannedDefinition} stopped (selected_plan schema.tables written)
      index_stopped (Refused why) is = by_index ∙ ap behind_index is
      index_stopped NoMem is = tt

      -- and else it is planned
      pub selected : index_refusal schema.tables computed.compiled.wanted ≡ None → IsPlanned schema written.name (selected_plan schema.tables written) computed
      selected none = record {
        named = planned.named;
        computed_is = planned.computed_is;
        plan = planned.plan;
        plan_is = planned.plan_is;
        is = by_index ∙ ap behind_index none;
      }

      pub wants_lined : IsLined schema.tables computed.compiled.wanted
      wants_lined =
          is_lined schema.tables computed.query computed.compiled.wanted planned.computed_is.resolved
          (record { best = planned.computed_is.compiled.best; chosen = planned.computed_is.compiled.least })

-- its parameters are those of what was read, and the index is that which its plan wants
pub runs_once : (tables : List Table) (written : Query) (computed : PlannedQuery) → once_refusal written ≡ None → computed.query.params ≡ written.params → index_refusal tables computed.compiled.wanted ≡ None → IsOnce computed
runs_once tables written computed free same none = record { params = same ∙ no_params written free; wanted = no_index tables computed.compiled.wanted none }

-- ---- the query of a text

module _ (schema : Schema) (text : List ℕ) (tokens : List Token) where
  pub selected_unread : (stopped : Stopped) → Answers {A = Query} (Err stopped) (read_query_of schema explained_name text tokens 0) → Refuses {A = PlannedDefinition} stopped (selected_from schema text tokens)
  unfolding selected_from
  selected_unread (Refused why) is = ap (λ (read : Result Query Refusal). read >>= selected_plan schema.tables) is
  selected_unread NoMem is = tt

  pub selected_read : (written : Query) → read_query_of schema explained_name text tokens 0 ≡ Ok written → selected_plan schema.tables written ≡ selected_from schema text tokens
  unfolding selected_from
  selected_read written is = sym (ap (λ (read : Result Query Refusal). read >>= selected_plan schema.tables) is)
