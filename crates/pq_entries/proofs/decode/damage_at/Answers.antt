use Rattle.std.proofs.Common.{arith, ap, Some}
use Rattle.pq_key_code.proofs.Reading.{IsBytes_from}
use Rattle.pq_entries.proofs.decode.damage_at.Goals as goal

pub returns : goal.returns
returns c = record {
  bytes = IsBytes_from c.args.key.now (λ i. omega (arith, c.type_inv.key i));
  at = c.in_ok-of_bytes.ensures;
  has = ap Some c.in_ok-of_bytes-2.ensures;
}
