use Rattle.pq_plan.proofs.Choices.{choice_has}
use Rattle.pq_nodes.proofs.InOrder.{plan_runs, before_read}
use Rattle.pq_nodes.proofs.laws.order_laws.Goals as goal

pub returns : goal.returns
returns c = record {
  order = λ tables query choice sound has. plan_runs tables query sound choice (choice_has tables query choice has);
  before = λ tables query choice front node back rel sound has is reads. before_read tables query sound choice (choice_has tables query choice has) front node back rel is reads;
}
