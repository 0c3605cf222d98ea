-- The position columns of a query are columns from 0 to 31.
use Rattle.std.proofs.Common.{ℕ, ◌-◌, ◌≤◌, ◌<◌, inl, inr, List, length, arith}
use Rattle.pq_base.specs.Members.{In}
use Rattle.pq_base.proofs.Members.{all_member, at_in}
use Rattle.pq_schema.specs.declared.query.OrderItem.{OrderItem}
use Rattle.pq_schema.specs.declared.query.Query.{Query}
use Rattle.pq_schema.specs.declared.table.Table.{Table}
use Rattle.pq_schema.specs.declared.query.Relation.{Relation}
use Rattle.pq_schema.specs.Relations.{table_of, position_columns, relation_at, no_relation}
use Rattle.pq_schema.specs.Tables.{no_table}
use Rattle.pq_schema.specs.Sound.{IsQuery, IsTable}
use Rattle.pq_serving.proofs.Columns.{position_item}

sound_table : (tables : List Table) (query : Query) → IsQuery tables query → (i : ℕ) → 1 ≤ i → i ≤ length query.relations → IsTable (table_of tables query i)
sound_table tables query sound i low high =
    let inside : i - 1 < length query.relations = omega arith in
    let number = all_member (λ (relation : Relation). (1 ≤ relation.table) × (relation.table ≤ length tables)) query.relations sound.relations (relation_at query i) (at_in query.relations (i - 1) no_relation inside) in
    let one = number.0 in
    let there = number.1 in
    let below : (relation_at query i).table - 1 < length tables = omega arith in
    all_member IsTable tables sound.each (table_of tables query i) (at_in tables ((relation_at query i).table - 1) no_table below)

pub item_small : (tables : List Table) (query : Query) → IsQuery tables query → (item : OrderItem) → In item (position_columns tables query) → item.col.col < 32
item_small tables query sound item here =
    let refs = sound.refs in
    elim (position_item tables query 1 item here) [
      | inl a ↦ all_member (λ (item : OrderItem). item.col.col < 32) query.order refs.order item a
      | inr b ↦
          let table : IsTable (table_of tables query item.col.rel) = sound_table tables query sound item.col.rel b.0 b.1 in
          all_member (λ (col : ℕ). col < 32) (table_of tables query item.col.rel).key table.key item.col.col b.3
    ]
