use Rattle.pq_clients.proofs.OneCalls.{makes_one_call}
use Rattle.pq_clients.proofs.laws.call_laws.Goals as goal

pub returns : goal.returns
returns c = record { one = makes_one_call }
