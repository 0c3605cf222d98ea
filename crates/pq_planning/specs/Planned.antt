-- A query and its plan as they are computed.
use Rattle.std.specs.Prelude.{◌≡◌, ℕ, List, [], None, Result, Ok}
use Rattle.pq_base.specs.declared.refusal.Refusal.{Refusal}
use Rattle.pq_schema.specs.Resolved.{IsResolved}
use Rattle.pq_schema.specs.Schema.{Schema}
use Rattle.pq_schema.specs.declared.table.Table.{Table}
use Rattle.pq_plan.specs.Cost.{cost}
use Rattle.pq_compile.specs.Chosen.{IsCompiled}
use Rattle.pq_planning.specs.Planning.{PlannedDefinition}
use Rattle.pq_planning.specs.declared.planning.PlannedQuery.{PlannedQuery}

-- the query, its candidate with that one's bound, and the index that it wants, as the plan has them
pub record IsPlanOf (computed : PlannedQuery) (plan : PlannedDefinition) : Type 0 where
  pub query : plan.query ≡ computed.query
  pub choice : plan.chosen.best.choice ≡ computed.compiled.choice
  pub bound : plan.chosen.best.bound ≡ cost computed.compiled.plan
  pub wanted : plan.chosen.wanted ≡ computed.compiled.wanted

-- a query that may be defined, and its plan
pub record IsComputed (tables : List Table) (computed : PlannedQuery) : Type 0 where
  pub resolved : IsResolved tables computed.query
  pub compiled : IsCompiled tables computed.query computed.compiled

-- a query of this name that was found, with the plan of its least candidate
pub record IsPlanned (schema : Schema) (name : List ℕ) (found : Result PlannedDefinition Refusal)
    (computed : PlannedQuery) : Type 0 where
  pub named : computed.query.name ≡ name
  pub computed_is : IsComputed schema.tables computed
  pub plan : PlannedDefinition
  pub plan_is : IsPlanOf computed plan
  pub is : found ≡ Ok plan

-- a query that is run once: it has no parameters, and wants no index
pub record IsOnce (computed : PlannedQuery) : Type 0 where
  pub params : computed.query.params ≡ []
  pub wanted : computed.compiled.wanted ≡ None
