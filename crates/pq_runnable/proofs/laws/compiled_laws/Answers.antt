use Rattle.pq_schema.specs.Schema.{query_at}
use Rattle.pq_schema.proofs.Soundness.{valid_query}
use Rattle.pq_schema.proofs.Valid.{valid_made}
use Rattle.pq_runnable.proofs.Again.{plan_stays}
use Rattle.pq_runnable.proofs.Compiled.{compiled_indexed, compiled_small, few_bits, again_none, never_refused}
use Rattle.pq_runnable.proofs.Staying.{query_planned}
use Rattle.pq_runnable.proofs.laws.compiled_laws.Goals as goal

pub returns : goal.returns
returns c = record {
  indexed = λ tables query made sound is none. compiled_indexed tables query sound made is none;
  small = compiled_small;
  narrow = λ tables query made is. let small = compiled_small tables query made is in (few_bits _ small.0, few_bits _ small.1);
  again = λ s n made valid defined is. again_none s n valid defined made is;
  unrefused = λ s n stopped valid defined said. never_refused s n valid defined stopped said;
  stays = λ before query wanted now valid defined grown. plan_stays before.tables query wanted (valid_made valid) defined.resolved defined.chosen now grown (valid_query before query valid defined.resolved);
  run = λ s n made valid defined is. compiled_indexed s.tables (query_at s n) (query_planned s n valid defined) made is (again_none s n valid defined made is);
}
