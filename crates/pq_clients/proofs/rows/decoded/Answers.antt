use Rattle.std.proofs.Common.{List, Option, subst}
use Rattle.pq_base.specs.declared.value.Value.{Value}
use Rattle.pq_base.specs.Shapes.{row_shape}
use Rattle.pq_row_code.specs.StoredRow.{AreFillers}
use Rattle.pq_clients.proofs.Decoding.{is_decoded, fit_decoded}
use Rattle.pq_clients.proofs.rows.decoded.Goals as goal

pub returns-clause-row : goal.returns-clause-row
returns-clause-row c =
    is_decoded (row_shape c.args.types.now c.args.fillers.now) c.args.code.now c.decode_filled.result c.known_types.ensures (subst (λ (fs : List (Option Value)). AreFillers fs) c.items.ensures c.known_fillers.ensures)
    c.known_bytes.ensures c.decode_filled.ensures.found c.decode_filled.ensures.none

pub returns-clause-fits : goal.returns-clause-fits
returns-clause-fits c = fit_decoded (row_shape c.args.types.now c.args.fillers.now) c.args.code.now c.decode_filled.result c.decode_filled.ensures.found
