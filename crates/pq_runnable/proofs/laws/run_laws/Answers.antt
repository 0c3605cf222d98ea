use Rattle.pq_schema.specs.Schema.{query_at}
use Rattle.pq_runnable.proofs.Compiled.{again_none}
use Rattle.pq_runnable.proofs.Keeping.{plan_defined, plan_grown}
use Rattle.pq_runnable.proofs.Runnable.{compiled_plan, runnable_split}
use Rattle.pq_runnable.proofs.Staying.{query_planned}
use Rattle.pq_runnable.proofs.laws.run_laws.Goals as goal

pub returns : goal.returns
returns c = record {
  plan = λ s n made valid defined is. compiled_plan s.tables (query_at s n) made (query_planned s n valid defined) is (again_none s n valid defined made is);
  defined = plan_defined;
  grown = plan_grown;
  split = runnable_split;
}
