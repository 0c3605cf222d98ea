use Rattle.std.proofs.Common.{arith}
use Rattle.pq_key_code.proofs.Reading.{IsBytes_from, is_found, is_none_left}
use Rattle.pq_key_code.proofs.decode.decode_key.Goals as goal

pub returns-clause-found : goal.returns-clause-found
returns-clause-found c = is_found c.args.types.now c.args.dirs.now c.args.bytes.now c.key_of.result c.requires (IsBytes_from c.args.bytes.now (λ i. omega (arith, c.type_inv.bytes i))) c.key_of.ensures

pub returns-clause-none : goal.returns-clause-none
returns-clause-none c = is_none_left c.args.types.now c.args.dirs.now c.args.bytes.now c.key_of.result c.requires c.key_of.ensures
