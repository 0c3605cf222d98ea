use Rattle.std.proofs.Common.{◌≡◌, ◌++◌, ◌-◌, take}
use Rattle.std.specs.Prelude.{flat_map}
use Rattle.std.specs.List.{range_with_len}
use Rattle.pq_schema.specs.Relations.{key_items}
use Rattle.pq_predicates.proofs.position.position_columns.Given as goal

abbrev pub invariant-loop-item : goal.invariant-loop-item
invariant-loop-item l = l.items ≡ take l.item-index l.query.order

abbrev pub invariant-loop-rel : goal.invariant-loop-rel
invariant-loop-rel l = l.items ≡ l.query.order ++ flat_map (key_items l.catalog.tables l.query) (range_with_len 1 (l.rel - 1))
