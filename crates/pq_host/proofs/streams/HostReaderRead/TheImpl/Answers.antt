use Rattle.pq_host.proofs.Untold.{untold_read}
use Rattle.pq_host.proofs.streams.HostReaderRead.TheImpl.Goals as goal

pub read-tells : goal.read-tells
read-tells g c = record { bound = c.ensures.bound; bytes = untold_read c.result _ }
