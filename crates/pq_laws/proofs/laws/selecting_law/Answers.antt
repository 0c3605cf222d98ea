use Rattle.pq_laws.proofs.Selecting.{index_refused, params_refused, selected_answers, selected_parts}
use Rattle.pq_laws.proofs.laws.selecting_law.Goals as goal

pub returns : goal.returns
returns c = record {
  planned = selected_parts;
  params = params_refused;
  wanted = index_refused;
  answers = selected_answers;
}
