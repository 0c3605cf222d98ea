use Rattle.pq_host.proofs.Untold.{untold_write}
use Rattle.pq_host.proofs.streams.HostWriterWrite.TheImpl.Goals as goal

pub write-tells : goal.write-tells
write-tells g c = record { bound = c.ensures.bound; bytes = untold_write c.result c.args.buf.now }
