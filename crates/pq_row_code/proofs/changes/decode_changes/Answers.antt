use Rattle.std.proofs.Common.{arith}
use Rattle.pq_key_code.proofs.Reading.{IsBytes_from}
use Rattle.pq_row_code.proofs.ChangeLists.{is_found, is_none_left}
use Rattle.pq_row_code.proofs.changes.decode_changes.Goals as goal

pub returns-clause-found : goal.returns-clause-found
returns-clause-found c = is_found c.args.bytes.now c.list_of.result (IsBytes_from c.args.bytes.now (λ i. omega (arith, c.type_inv.bytes i))) c.list_of.ensures

pub returns-clause-none : goal.returns-clause-none
returns-clause-none c = is_none_left c.args.bytes.now c.list_of.result c.list_of.ensures
