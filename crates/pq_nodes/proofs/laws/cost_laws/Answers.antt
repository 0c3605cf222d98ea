use Rattle.pq_nodes.proofs.Paying.{step_cost, step_size, step_more, front_costs, node_affords}
use Rattle.pq_nodes.proofs.laws.cost_laws.Goals as goal

pub returns : goal.returns
returns c = record {
  costs = step_cost;
  size = step_size;
  more = step_more;
  front = front_costs;
  affords = node_affords;
}
