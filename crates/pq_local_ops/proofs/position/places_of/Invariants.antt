use Rattle.std.proofs.Common.{◌≡◌, map, take}
use Rattle.pq_schema.specs.declared.query.OrderItem.{OrderItem}
use Rattle.pq_local_ops.proofs.position.places_of.Given as goal

abbrev pub invariant-loop-item : goal.invariant-loop-item
invariant-loop-item l = record {
  cols : l.cols ≡ map (λ (item : OrderItem). item.col) (take l.item-index l.item-items);
  dirs : l.dirs ≡ map (λ (item : OrderItem). item.dir) (take l.item-index l.item-items);
}
