use Rattle.std.proofs.Common.{arith}
use Rattle.pq_key_code.proofs.Reading.{IsBytes_from}
use Rattle.pq_clients.proofs.rows.known_bytes.Goals as goal

pub returns : goal.returns
returns c = IsBytes_from c.args.bytes.now (λ i. omega (arith, c.type_inv.bytes i))
