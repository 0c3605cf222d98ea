-- What was read asks for what its statement spells.
use Rattle.std.proofs.Common.{◌≡◌, ℕ, List, Option, Some, None, Result, Ok, Err, sym, ap, ◌∙◌, subst}
use Rattle.pq_base.specs.Answers.{Passes, Refuses}
use Rattle.pq_base.specs.declared.refusal.Refusal.{Refusal}
use Rattle.pq_base.specs.declared.refusal.Stopped.{Stopped}
use Rattle.pq_base.specs.declared.refusal.Stopped.TheVariants.{Refused, NoMem}
use Rattle.pq_schema.specs.Definitions.{definition_refusal}
use Rattle.pq_schema.specs.Names.{IsName}
use Rattle.pq_schema.specs.Schema.{Schema}
use Rattle.pq_schema.specs.declared.query.Query.{Query}
use Rattle.pq_text.specs.declared.token.Token.{Token}
use Rattle.pq_query_read.specs.Trying.{◌>>=◌, passed_unless}
use Rattle.pq_statement.specs.Actions.{Action, Explains, Prepares, Selects, action_from}
use Rattle.pq_planning.specs.Planned.{IsComputed, IsOnce, IsPlanned}
use Rattle.pq_planning.specs.Planning.{PlannedDefinition, arranged_from, as_it_is, definable, prepared_from, explained_name, explained_from, selected_from}
use Rattle.pq_statement.specs.Requests.{IsDefinable, IsPlannedAs}
use Rattle.pq_planning.specs.declared.planning.PlannedQuery.{PlannedQuery}

-- what is refused is not asked for
pub asking_refused : {A : Type 0} (action : A → Action) (stopped : Stopped) (said : Result A Refusal) → Refuses stopped said → Refuses stopped (action_from action said)
asking_refused action (Refused why) said is = ap (action_from action) is
asking_refused action NoMem said is = tt

-- ---- queries

module _ (schema : Schema) (name text : List ℕ) (tokens : List Token) (from : ℕ) where
  -- a plan that may be defined
  free_plan : (plan : PlannedDefinition) → definition_refusal schema plan.query.name ≡ None → definable schema plan ≡ Ok plan
  free_plan plan free = ap (λ (o : Option Refusal). passed_unless o >>= as_it_is plan) free

  prepared_free : (plan : PlannedDefinition) → arranged_from schema name text tokens from ≡ Ok plan → definition_refusal schema plan.query.name ≡ None → prepared_from schema name text tokens from ≡ Ok plan
  unfolding prepared_from
  prepared_free plan is free = ap (λ (p : Result PlannedDefinition Refusal). p >>= definable schema) is ∙ free_plan plan free

  pub prepares : (computed : PlannedQuery) → IsPlanned schema name (arranged_from schema name text tokens from) computed → definition_refusal schema computed.query.name ≡ None
      → IsPlannedAs Prepares (action_from Prepares (prepared_from schema name text tokens from)) computed
  prepares computed is free = record {
    plan = is.plan;
    plan_is = is.plan_is;
    asks = ap (action_from Prepares) (prepared_free is.plan is.is (ap (λ (q : Query). definition_refusal schema q.name) is.plan_is.query ∙ free));
  }

  pub may_be_defined : (computed : PlannedQuery) → IsName name → IsPlanned schema name (arranged_from schema name text tokens from) computed → definition_refusal schema computed.query.name ≡ None → IsDefinable schema computed
  may_be_defined computed named is free = record { name = subst IsName (sym is.named) named; computed_is = is.computed_is; free = free }

  -- and one that is refused
  definition_refused : (plan : PlannedDefinition) (why : Refusal) → arranged_from schema name text tokens from ≡ Ok plan → definition_refusal schema plan.query.name ≡ Some why → prepared_from schema name text tokens from ≡ Err why
  unfolding prepared_from
  definition_refused plan why is refused =
      ap (λ (p : Result PlannedDefinition Refusal). p >>= definable schema) is ∙ ap (λ (o : Option Refusal). passed_unless o >>= as_it_is plan) refused

  plan_refused : (why : Refusal) → arranged_from schema name text tokens from ≡ Err why → prepared_from schema name text tokens from ≡ Err why
  unfolding prepared_from
  plan_refused why is = ap (λ (p : Result PlannedDefinition Refusal). p >>= definable schema) is

  -- a call that stops for one of them
  pub stopped_plan : (stopped : Stopped) → Refuses {A = PlannedDefinition} stopped (arranged_from schema name text tokens from) → Refuses {A = PlannedDefinition} stopped (prepared_from schema name text tokens from)
  stopped_plan (Refused why) is = plan_refused why is
  stopped_plan NoMem is = tt

  pub stopped_definition : (computed : PlannedQuery) → IsPlanned schema name (arranged_from schema name text tokens from) computed
      → (stopped : Stopped) → Passes {A = Unit {0}} (Err stopped) (definition_refusal schema computed.query.name) → Refuses {A = PlannedDefinition} stopped (prepared_from schema name text tokens from)
  stopped_definition computed is (Refused why) refused =
      definition_refused is.plan why is.is (ap (λ (q : Query). definition_refusal schema q.name) is.plan_is.query ∙ refused)
  stopped_definition computed is NoMem refused = tt

-- ---- EXPLAIN

module _ (schema : Schema) (text : List ℕ) (tokens : List Token) (from : ℕ) where
  pub explains : (computed : PlannedQuery) → IsPlanned schema explained_name (arranged_from schema explained_name text tokens from) computed → IsPlannedAs Explains (action_from Explains (explained_from schema text tokens from)) computed
  unfolding explained_from
  explains computed is = record { plan = is.plan; plan_is = is.plan_is; asks = ap (action_from Explains) is.is }

  pub stopped_explained : (stopped : Stopped) → Refuses {A = PlannedDefinition} stopped (arranged_from schema explained_name text tokens from) → Refuses {A = PlannedDefinition} stopped (explained_from schema text tokens from)
  unfolding explained_from
  stopped_explained stopped is = is

-- ---- SELECT

module _ (schema : Schema) (text : List ℕ) (tokens : List Token) where
  pub selects : (computed : PlannedQuery) → IsPlanned schema explained_name (selected_from schema text tokens) computed → IsOnce computed
      → IsComputed schema.tables computed × IsOnce computed × IsPlannedAs Selects (action_from Selects (selected_from schema text tokens)) computed
  selects computed is once = (is.computed_is, once, record { plan = is.plan; plan_is = is.plan_is; asks = ap (action_from Selects) is.is })
