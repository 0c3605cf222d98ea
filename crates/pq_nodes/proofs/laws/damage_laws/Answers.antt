use Rattle.pq_nodes.proofs.Undamaged.{read_undamaged}
use Rattle.pq_nodes.proofs.laws.damage_laws.Goals as goal

pub returns : goal.returns
returns c = read_undamaged
