use Rattle.std.proofs.Common.{refl, ap, ◌∙◌, map}
use Rattle.pq_schema.specs.declared.query.OrderItem.{OrderItem}
use Rattle.pq_schema.proofs.Soundness.{valid_query}
use Rattle.pq_plan.specs.Answer.{values_at}
use Rattle.pq_schema.specs.Relations.{position_columns}
use Rattle.pq_local_ops.proofs.Codes.{ok_more, position_typed}
use Rattle.pq_local_ops.proofs.position.position_of.Goals as goal

pub position_columns-requires : goal.position_columns-requires
position_columns-requires c = valid_query c.args.catalog.now c.args.query.now c.known.ensures c.requires

pub returns-clause-fits : goal.returns-clause-fits
returns-clause-fits c =
    let sound = valid_query c.args.catalog.now c.args.query.now c.known.ensures c.requires in
    let columns = position_columns c.args.catalog.now.tables c.args.query.now in
    ok_more _ _ (λ values is. position_typed c.args.catalog.now.tables c.args.query.now sound c.requires
    (map (λ (item : OrderItem). item.col) columns) (map (λ (item : OrderItem). item.dir) columns) refl refl c.args.combo.now values
    (is ∙ ap (λ (items : _). values_at c.args.combo.now (map (λ (item : OrderItem). item.col) items)) (c.items.ensures ∙ c.in_ok-items.ensures)))
    c.values_of.result c.values_of.ensures
