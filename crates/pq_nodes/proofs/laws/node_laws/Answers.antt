use Rattle.pq_nodes.proofs.Inverse.{node_is}
use Rattle.pq_nodes.proofs.laws.node_laws.Goals as goal

pub returns : goal.returns
returns c tables query node sound is = node_is tables query sound node is
