use Rattle.std.proofs.Common.{refl, count_ones}
use Rattle.pq_base.specs.Columns.{set_of}
use Rattle.pq_schema.specs.Keys.{given_value}
use Rattle.pq_row_keys.specs.Groups.{values_from}
use Rattle.pq_row_keys.proofs.CodedKeys.{secondary_made}
use Rattle.pq_row_keys.proofs.groups.secondary_key.Goals as goal

pub returns : goal.returns
returns c =
    secondary_made (given_value c.args.cols.now (values_from c.args.source c.args.cols.now c.args.values.now)) c.args.number c.args.index c.args.table.now (count_ones (set_of c.args.cols.now)) c.index_numbered.result.now c.items-parts.result.now _ c.items.result.now _ _
    c.index_numbered.ensures.index c.items-parts.ensures refl c.items.ensures c.in_ok-front.ensures c.in_ok-put_first.ensures
