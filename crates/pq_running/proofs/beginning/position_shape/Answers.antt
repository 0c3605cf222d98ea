use Rattle.std.proofs.Common.{◌∙◌}
use Rattle.pq_schema.proofs.Soundness.{valid_query}
use Rattle.pq_running.proofs.Columns.{position_at}
use Rattle.pq_running.proofs.beginning.position_shape.Goals as goal

pub position_columns-requires : goal.position_columns-requires
position_columns-requires c = valid_query c.args.catalog.now c.args.query.now c.known.ensures c.requires

pub type_of-requires-clause-query : goal.type_of-requires-clause-query
type_of-requires-clause-query c = valid_query c.args.catalog.now c.args.query.now c.known.ensures c.requires

pub type_of-requires-clause-from_one : goal.type_of-requires-clause-from_one
type_of-requires-clause-from_one c =
    (position_at c.args.catalog.now.tables c.args.query.now c.requires c.items-item-items.result.now (c.items-item-items.ensures ∙ c.in_ok-position_columns.ensures) c.loop-item.item-index _ c.loop-item-test.true).0

pub type_of-requires-clause-there : goal.type_of-requires-clause-there
type_of-requires-clause-there c =
    (position_at c.args.catalog.now.tables c.args.query.now c.requires c.items-item-items.result.now (c.items-item-items.ensures ∙ c.in_ok-position_columns.ensures) c.loop-item.item-index _ c.loop-item-test.true).1
