-- What a query is compiled to.
use Rattle.std.specs.Prelude.{◌≡◌, List, Some, Ok}
use Rattle.pq_schema.specs.declared.table.Table.{Table}
use Rattle.pq_schema.specs.declared.query.Query.{Query}
use Rattle.pq_schema.specs.Candidates.{Candidate, candidates, least}
use Rattle.pq_schema.specs.Wanted.{chosen_candidate}
use Rattle.pq_plan.specs.Cost.{cost}
use Rattle.pq_plan.specs.Plans.{IsPlanFor}
use Rattle.pq_plan.specs.Running.{PlanMeansAnswer}
use Rattle.pq_stop_push.specs.Pushes.{PlannedPush, planned_push}
use Rattle.pq_compile.specs.declared.compiler.Compiled.{Compiled}

-- the least candidate, with its tree
pub record IsBest (tables : List Table) (query : Query) (held : PlannedPush) : Type 0 where
  pub best : Candidate
  pub least : least (candidates tables query) ≡ Some best
  pub is : held ≡ planned_push tables query best

-- the plan is one for the least candidate, its numbers are that candidate's, and it means the query's answer
pub record IsCompiled (tables : List Table) (query : Query) (made : Compiled) : Type 0 where
  pub best : Candidate
  pub least : chosen_candidate tables query ≡ Ok (record { best = best; wanted = made.wanted })
  pub choice : made.choice ≡ best.choice
  pub plan : IsPlanFor tables query made.choice made.plan
  pub numbers : cost made.plan ≡ best.bound
  pub meaning : PlanMeansAnswer tables query made.plan
