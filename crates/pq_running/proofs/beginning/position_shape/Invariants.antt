use Rattle.std.proofs.Common.{◌≡◌, map, take}
use Rattle.pq_schema.specs.Resolved.{ref_type}
use Rattle.pq_schema.specs.declared.query.OrderItem.{OrderItem}
use Rattle.pq_running.proofs.beginning.position_shape.Given as goal

abbrev pub invariant-loop-item : goal.invariant-loop-item
invariant-loop-item l = record {
  types : l.types ≡ map (λ (item : OrderItem). ref_type l.catalog.tables l.query item.col) (take l.item-index l.item-items);
  dirs : l.dirs ≡ map (λ (item : OrderItem). item.dir) (take l.item-index l.item-items);
}
