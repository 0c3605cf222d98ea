use Rattle.std.proofs.Common.{◌≤◌, List, length, subst, sym}
use Rattle.pq_schema.specs.declared.table.KeyPart.{KeyPart}
use Rattle.pq_schema.specs.Sound.{AreParts}
use Rattle.pq_stop_push.proofs.Orders.{order_columns, order_few}
use Rattle.pq_compile.proofs.wanting.need_at.Goals as goal

pub returns-clause-need : goal.returns-clause-need
returns-clause-need c = record {
  parts = subst AreParts (sym c.order_rest.ensures.parts) (order_columns c.args.query.now c.args.p c.requires);
  few = subst (λ (parts : List KeyPart). length parts ≤ 4) (sym c.order_rest.ensures.parts) (order_few c.args.query.now c.args.p c.requires);
}
