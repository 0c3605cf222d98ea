use Rattle.std.proofs.Common.{arith}
use Rattle.pq_key_code.proofs.Reading.{IsBytes_from}
use Rattle.pq_row_code.proofs.Rows.{is_found, is_none_left}
use Rattle.pq_row_code.proofs.decode.decode_row.Goals as goal

pub returns-clause-found : goal.returns-clause-found
returns-clause-found c = is_found c.args.types.now c.args.bytes.now c.row_read.result (IsBytes_from c.args.bytes.now (λ i. omega (arith, c.type_inv.bytes i))) c.row_read.ensures

pub returns-clause-none : goal.returns-clause-none
returns-clause-none c = is_none_left c.args.types.now c.args.bytes.now c.row_read.result c.known_types.ensures c.row_read.ensures
