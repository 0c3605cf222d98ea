use Rattle.std.proofs.Common.{ap, refl}
use Rattle.pq_clients.specs.Stepping.{view_of}
use Rattle.pq_clients.proofs.client.Client.put_next.Goals as goal

pub returns : goal.returns
returns c = record { view = ap view_of c.set_next.ensures; step = refl }
