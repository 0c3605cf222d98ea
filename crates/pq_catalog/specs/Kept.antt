-- The plans that are kept beside definitions.
use Rattle.std.specs.Prelude.{◌≡◌, ℕ, ◌-◌, ◌++◌, ◌∷◌, [], List, length, Option, None, Result, Ok, Err, slice_index_or, MatchOption}
use Rattle.pq_base.specs.declared.refusal.Refusal.{Refusal}
use Rattle.pq_base.specs.declared.refusal.Stopped.{Stopped}
use Rattle.pq_base.specs.declared.refusal.Stopped.TheVariants.{Refused, NoMem}
use Rattle.pq_schema.specs.Schema.{Schema, query_at}
use Rattle.pq_schema.specs.declared.query.Query.{Query}
use Rattle.pq_schema.specs.declared.table.NewIndex.{NewIndex}
use Rattle.pq_schema.specs.declared.table.Table.{Table}
use Rattle.pq_plan.specs.Cost.{cost}
use Rattle.pq_plan.specs.declared.physical.Physical.{Physical}
use Rattle.pq_compile.specs.Chosen.{IsCompiled}
use Rattle.pq_compile.specs.declared.compiler.Compiled.{Compiled}
use Rattle.pq_runnable.specs.Runnable.{IsRunnablePlan}
use Rattle.pq_running.specs.Running.{IsQueryNumber, query_bound}

-- the plan can be run for the query over these tables, and costs the query's bound
pub record IsKeptPlan (tables : List Table) (query : Query) (plan : Physical) : Type 0 where
  pub runnable : IsRunnablePlan tables query plan
  pub bound : cost plan ≡ query_bound tables query

-- a place for each definition, with the plan of each query's
pub record ArePlans (schema : Schema) (plans : List (Option Physical)) : Type 0 where
  pub long : length plans ≡ length schema.definitions
  pub each : (n : ℕ) → IsQueryNumber schema n
      → MatchOption (slice_index_or plans (n - 1) None) ⊥ (IsKeptPlan schema.tables (query_at schema n))

-- the plan that the query is compiled to over these tables, with the index that it wants
pub record IsPlanWanting (tables : List Table) (query : Query) (plan : Physical) (wanted : Option NewIndex) :
    Type 0 where
  pub made : Compiled
  pub compiled : IsCompiled tables query made
  pub plan_is : made.plan ≡ plan
  pub wanted_is : made.wanted ≡ wanted

-- the plan of a definition that was made is kept behind the others; of one that is refused none is
abbrev pub KeepsPlan : {N P : Type 0} → List P → P → Result N Stopped → Result N Refusal → List P → Type 0
KeepsPlan plans plan (Ok number) made kept = (made ≡ Ok number) × (kept ≡ plans ++ plan ∷ [])
KeepsPlan plans plan (Err (Refused why)) made kept = (made ≡ Err why) × (kept ≡ plans)
KeepsPlan plans plan (Err NoMem) made kept = ⊥
