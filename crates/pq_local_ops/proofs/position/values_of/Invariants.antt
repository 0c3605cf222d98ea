use Rattle.std.proofs.Common.{◌≡◌, map, take}
use Rattle.pq_schema.specs.declared.query.OrderItem.{OrderItem}
use Rattle.pq_plan.specs.Answer.{values_at}
use Rattle.pq_local_ops.proofs.position.values_of.Given as goal

abbrev pub invariant-loop-item : goal.invariant-loop-item
invariant-loop-item l = l.values ≡ values_at l.combo (map (λ (item : OrderItem). item.col) (take l.item-index l.items))
