use Rattle.pq_clients.proofs.Holding.{holds_throughout}
use Rattle.pq_clients.proofs.laws.client_laws.Goals as goal

pub returns : goal.returns
returns c = record { throughout = holds_throughout }
