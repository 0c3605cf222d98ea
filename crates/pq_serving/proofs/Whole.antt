-- From a query at which a stop can stand, and a sequence that serves, to what one range of the store answers.
use Rattle.std.proofs.Common.{◌≡◌, ℕ, ◌-◌, ◌<◌, inl, inr, List, ◌++◌, length, map, All, Option, Some, ap, ◌∙◌, subst, arith}
use Rattle.std.proofs.lemmas.List.{length-map}
use Rattle.pq_base.specs.Columns.{set_of}
use Rattle.pq_base.specs.declared.value.Value.{Value}
use Rattle.pq_base.specs.Members.{In}
use Rattle.pq_base.proofs.TypeFits.{length_from_fits}
use Rattle.pq_schema.specs.declared.table.Access.{Access}
use Rattle.pq_schema.specs.declared.table.Access.TheVariants.{Primary, Secondary}
use Rattle.pq_schema.specs.declared.table.Index.{Index}
use Rattle.pq_schema.specs.declared.table.KeyPart.{KeyPart}
use Rattle.pq_schema.specs.declared.table.Table.{Table}
use Rattle.pq_schema.specs.declared.query.OrderItem.{OrderItem}
use Rattle.pq_schema.specs.Sound.{IsQuery, IsMade}
use Rattle.pq_schema.specs.Resolved.{IsColumnOf, ref_type}
use Rattle.pq_schema.specs.Sequences.{ascending_part, columns_of, without, index_numbered, no_index, sequence_of, IsAccess}
use Rattle.pq_schema.specs.Relations.{relation_at, table_of, position_columns}
use Rattle.pq_schema.proofs.Soundness.{resolved_is_query}
use Rattle.pq_content.specs.Tables.{types_at}
use Rattle.pq_plan.specs.Answer.{Question, rows_at, position}
use Rattle.pq_plan.specs.Kept.{KeepsSchema}
use Rattle.pq_base.proofs.Members.{each_in, each_by_in, all_member, at_in, get_at, in_map, in_either, in_filter}
use Rattle.pq_plan.proofs.Bounds.{number_at}
use Rattle.pq_nodes.specs.Combos.{FitsTables, position_types}
use Rattle.pq_base.specs.Values.{AllFit}
use Rattle.std.specs.Prelude.{IfSome}
use Rattle.pq_schema.specs.declared.query.Query.{Query}
use Rattle.pq_nodes.specs.Operators.{IsCursor}
use Rattle.pq_serving.specs.Laws.{IsInput, IsScanned, Serves, StopScans, EntryScans, RowScans, PositionCodes}
use Rattle.pq_serving.proofs.Keys.{Fits}
use Rattle.pq_serving.proofs.Columns.{position_item}
use Rattle.pq_serving.proofs.Found.{position_fits, by_code}
use Rattle.pq_serving.proofs.Served.{each_item, HasColumns, IsServed, served, wide}
use Rattle.pq_serving.proofs.Scans.{stop_scan_is}
use Rattle.pq_serving.proofs.Stored.{IsTyped, entries_are, rows_are_found}
use Rattle.pq_serving.proofs.Typed.{typed}

-- the columns of a table's sequence are columns of the table
module _ (table : Table) (key : (k : ℕ) → In k table.key → k < length table.columns) where
  then_inside : (parts : List KeyPart) (set : ℕ) → ((part : KeyPart) → In part parts → part.col < length table.columns) → (k : ℕ) → In k (columns_of (parts ++ map ascending_part (without set table.key))) → k < length table.columns
  then_inside parts set inside k here =
      let m = in_map (λ (part : KeyPart). part.col) k (parts ++ map ascending_part (without set table.key)) here in
      subst (λ (n : ℕ). n < length table.columns) m.2 (elim (in_either m.0 parts (map ascending_part (without set table.key)) m.1) [
        | inl a ↦ inside m.0 a
        | inr b ↦
            let c = in_map ascending_part m.0 (without set table.key) b in
            subst (λ (part : KeyPart). part.col < length table.columns) c.2 (key c.0 (in_filter _ c.0 table.key c.1).0)
      ])

  key_inside : (k : ℕ) → In k (columns_of (map ascending_part table.key)) → k < length table.columns
  key_inside k here =
      let m = in_map (λ (part : KeyPart). part.col) k (map ascending_part table.key) here in
      let c = in_map ascending_part m.0 table.key m.1 in
      subst (λ (n : ℕ). n < length table.columns) (ap (λ (part : KeyPart). part.col) c.2 ∙ m.2) (key c.0 c.1)

-- the values of a cursor fit
cursor_at : (tables : List Table) (query : Query) (after : Option (List Value)) → IsCursor tables query after → (at : List Value) → after ≡ Some at → AllFit (position_types tables query) at
cursor_at tables query after cursor at is = subst (λ (o : Option (List Value)). IfSome o (AllFit (position_types tables query))) is cursor

module _ (q : Question) (p : ℕ) (is : IsScanned q p) where
  query_is : IsQuery q.tables q.query
  query_is = resolved_is_query q.tables q.query is.asked.made is.asked.resolved

  schema_is : KeepsSchema q.tables q.rows
  schema_is = let keeps = is.rows in keeps.schema

  table_made : IsMade q.tables (relation_at q.query p).table (table_of q.tables q.query p)
  table_made = let number = number_at q.tables q.query q.rows q.params query_is schema_is p is.relation.from_one is.relation.there in is.asked.made (relation_at q.query p).table number.0 number.1

  key_in : (k : ℕ) → In k (table_of q.tables q.query p).key → k < length (table_of q.tables q.query p).columns
  key_in = all_member (λ col. col < length (table_of q.tables q.query p).columns) (table_of q.tables q.query p).key table_made.key.inside

  inside : (access : Access) → IsAccess (table_of q.tables q.query p) access → (k : ℕ) → In k (columns_of (sequence_of (table_of q.tables q.query p) access)) → k < length (table_of q.tables q.query p).columns
  inside Primary there = key_inside (table_of q.tables q.query p) key_in
  inside (Secondary number) there =
      let table = table_of q.tables q.query p in
      let low = there.0 in
      let high = there.1 in
      let index = index_numbered table number in
      let parts = all_member (λ (index : Index). All (λ (part : KeyPart). part.col < length table.columns) index.cols) table.indexes table_made.indexes index (at_in table.indexes (number - 1) no_index (omega arith)) in
      then_inside table key_in index.cols (set_of (columns_of index.cols)) (all_member (λ (part : KeyPart). part.col < length table.columns) index.cols parts)

  -- the cursor is as long as the position
  pub cursor_long : (after : Option (List Value)) → IsCursor q.tables q.query after → (at : List Value) → after ≡ Some at → length at ≡ length (position_columns q.tables q.query)
  cursor_long after cursor at e = length_from_fits (map (λ (item : OrderItem). ref_type q.tables q.query item.col) (position_columns q.tables q.query)) at (cursor_at q.tables q.query after cursor at e) ∙ length-map (position_columns q.tables q.query) (λ (item : OrderItem). ref_type q.tables q.query item.col)

  -- the values of a position are typed
  pub position_typed : (combo : List (List Value)) → FitsTables q.tables q.query p combo → Fits (map (λ (item : OrderItem). ref_type q.tables q.query item.col) (position_columns q.tables q.query)) (position q combo)
  position_typed combo fits = position_fits q combo (λ item here.
      let bounds = each_item q.tables q.query q.rows q.params query_is schema_is is.asked.resolved p is.relation.from_one is.relation.there is.can item here in
      let high = is.relation.there in
      let number = number_at q.tables q.query q.rows q.params query_is schema_is item.col.rel bounds.0 (omega (arith, high, bounds.1)) in (
        fits.rows item.col.rel bounds.0 bounds.1,
        elim (position_item q.tables q.query p item here) [
          | inl a ↦ (resolved_order item a).inside
          | inr b ↦ all_member (λ col. col < length (table_of q.tables q.query item.col.rel).columns) (table_of q.tables q.query item.col.rel).key (is.asked.made (relation_at q.query item.col.rel).table number.0 number.1).key.inside item.col.col b.3
        ],
      ))
    where
      resolved_order : (item : OrderItem) → In item q.query.order → IsColumnOf q.tables q.query item.col
      resolved_order item here = let resolved = is.asked.resolved in all_member (λ (item : OrderItem). IsColumnOf q.tables q.query item.col) q.query.order resolved.order item here

  module _ (access : Access) (s : Serves q p access) where
    abbrev sequence : List KeyPart
    sequence = sequence_of (table_of q.tables q.query p) access

    pub served_is : IsServed q p sequence
    served_is = served q.tables q.query q.rows q.params query_is schema_is is.asked.resolved p is.relation.from_one is.relation.there is.can sequence s.1

    pub wide_is : (r : List Value) → In r (rows_at q p) → HasColumns sequence r
    wide_is = wide q.tables q.query q.rows q.params query_is schema_is is.asked.resolved p is.relation.from_one is.relation.there is.can sequence (inside access s.0)

    pub typed_is : (after : Option (List Value)) → IsCursor q.tables q.query after → (c : List (List Value)) → IsInput q p c → IsTyped q p sequence c after (types_at (table_of q.tables q.query p).columns (columns_of sequence))
    typed_is after cursor c input =
        typed q p sequence served_is is.asked.resolved is.asked.params_fit
        c (λ j low high. let fits = input.fits in fits.rows j low (omega arith)) input.passes after (cursor_at q.tables q.query after cursor)

pub stop_scans : StopScans
stop_scans q p is access s after cursor k inputs long =
    stop_scan_is q p (sequence_of (table_of q.tables q.query p) access) (served_is q p is access s) (wide_is q p is access s) after (cursor_long q p is after cursor) k inputs long

pub entry_scans : EntryScans
entry_scans q p is number s others beside after cursor c input =
    let table = table_of q.tables q.query p in
    let sequence = sequence_of table (Secondary number) in
    let low = s.0.0 in
    let high = s.0.1 in
    entries_are q p c after others (schema_is q p is) beside (number - 1) (index_numbered table number) (get_at table.indexes (number - 1) no_index (omega arith)) number (omega arith) (typed_is q p is (Secondary number) s after cursor c input)

pub row_scans : RowScans
row_scans q p is s others beside after cursor c input =
    rows_are_found q p c after others (schema_is q p is) beside (typed_is q p is Primary s after cursor c input)

pub position_codes : PositionCodes
position_codes q p is combos fit =
    by_code q p (position_types q.tables q.query) combos
    (each_by_in _ combos (λ combo here. position_typed q p is combo (each_in (FitsTables q.tables q.query p) combos fit combo here)))
