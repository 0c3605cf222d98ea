use Rattle.std.proofs.Common.{◌≡◌, List, Option, IfOk, arith, subst}
use Rattle.pq_base.specs.declared.value.Value.{Value}
use Rattle.pq_base.specs.Shapes.{row_shape}
use Rattle.pq_key_code.proofs.Reading.{IsBytes_from}
use Rattle.pq_row_code.specs.StoredRow.{AreFillers, filled_decoded}
use Rattle.pq_row_code.proofs.Stored.{is_filled, is_none_filled}
use Rattle.pq_row_code.proofs.stored_row.decode_filled.Goals as goal

pub returns-clause-found : goal.returns-clause-found
returns-clause-found c =
    is_filled (row_shape c.args.types.now c.args.fillers.now) c.args.bytes.now c.filled_read.result (IsBytes_from c.args.bytes.now (λ i. omega (arith, c.type_inv.bytes i)))
    (subst AreFillers c.items-fillers.ensures c.known_fillers.ensures)
    (subst (λ (fillers : List (Option Value)). IfOk c.filled_read.result (λ o. o ≡ filled_decoded (row_shape c.args.types.now fillers) c.args.bytes.now)) c.items-fillers.ensures c.filled_read.ensures)

pub returns-clause-none : goal.returns-clause-none
returns-clause-none c =
    is_none_filled (row_shape c.args.types.now c.args.fillers.now) c.args.bytes.now c.filled_read.result c.known_types.ensures
    (subst (λ (fillers : List (Option Value)). IfOk c.filled_read.result (λ o. o ≡ filled_decoded (row_shape c.args.types.now fillers) c.args.bytes.now)) c.items-fillers.ensures c.filled_read.ensures)
