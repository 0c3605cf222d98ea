-- The position columns of a query are columns of its relations.
use Rattle.std.proofs.Common.{◌≡◌, ℕ, ◌<◌, ◌≤◌, true, false, cond, not, inl, inr, List, [], filter, flat_map, map, length, get_or, sym, subst, arith}
use Rattle.std.specs.List.{range_with_len}
use Rattle.pq_base.specs.Members.{In}
use Rattle.pq_base.proofs.Members.{all_member, at_in, in_either, in_flat_map, in_map, in_range}
use Rattle.pq_schema.specs.declared.query.OrderItem.{OrderItem}
use Rattle.pq_schema.specs.declared.query.Query.{Query}
use Rattle.pq_schema.specs.declared.table.Table.{Table}
use Rattle.pq_schema.specs.Relations.{table_of, tied_set, is_ordered, key_item, key_items, position_columns}
use Rattle.pq_schema.specs.Resolved.{IsColumnOf, IsResolved}
use Rattle.pq_schema.specs.Tables.{is_lookup}

-- an item of a relation of the query
abbrev pub IsOfRelation : Query → OrderItem → Type 0
IsOfRelation query item = (1 ≤ item.col.rel) × (item.col.rel ≤ length query.relations)

key_of : (tables : List Table) (query : Query) (rel : ℕ) (item : OrderItem) → In item (key_items tables query rel) → item.col.rel ≡ rel
key_of tables query rel item here =
    elim (is_lookup (table_of tables query rel) (tied_set query rel)) as (λ b. In item (cond b [] (map (key_item rel) (filter (λ col. not (is_ordered query rel col)) (table_of tables query rel).key))) → item.col.rel ≡ rel) [
      | true ↦ λ none. absurd none
      | false ↦ λ some.
          let made = in_map (key_item rel) item (filter (λ col. not (is_ordered query rel col)) (table_of tables query rel).key) some in
          (λ i. (sym made.2 i).col.rel)
    ] here

pub position_of_relation : (tables : List Table) (query : Query) → IsResolved tables query → (item : OrderItem) → In item (position_columns tables query) → IsOfRelation query item
position_of_relation tables query resolved item here =
    elim (in_either item query.order (flat_map (key_items tables query) (range_with_len 1 (length query.relations))) here) [
      | inl ordered ↦
          let column = all_member (λ (item : OrderItem). IsColumnOf tables query item.col) query.order resolved.order item ordered in
          (column.from_one, column.there)
      | inr keyed ↦
          let from = in_flat_map (key_items tables query) item (range_with_len 1 (length query.relations)) keyed in
          let between = in_range from.0 1 (length query.relations) from.1 in
          let same = key_of tables query from.0 item from.2 in
          (omega (arith, between.0, same), omega (arith, between.1, same))
    ]

-- and so is the item at each place of them
pub position_at : (tables : List Table) (query : Query) → IsResolved tables query → (items : List OrderItem) → items ≡ position_columns tables query → (k : ℕ) (d : OrderItem) → k < length items → IsOfRelation query (get_or items k d)
position_at tables query resolved items is k d low =
    position_of_relation tables query resolved (get_or items k d) (subst (λ (all : List OrderItem). In (get_or items k d) all) is (at_in items k d low))
