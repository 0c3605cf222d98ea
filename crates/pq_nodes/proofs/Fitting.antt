-- Combinations fit their tables, and their positions and selected values fit the columns.
use Rattle.std.proofs.Common.{◌≡◌, ℕ, zero, suc, ◌<◌, ◌≤◌, true, false, cond, not, nat_le, inl, inr, List, [], ◌∷◌, length, get_or, map, filter, flat_map, refl, sym, subst, arith}
use Rattle.std.specs.List.{AllByRecursion, range_with_len}
use Rattle.std.proofs.lemmas.Bool.{and_parts, leb-true, cases_lt}
use Rattle.std.proofs.lemmas.List.{length-map}
use Rattle.std.proofs.lemmas.List.Elements.{recursion_from_All}
use Rattle.pq_base.specs.Members.{In}
use Rattle.pq_base.specs.Values.{FitsType, AllFit}
use Rattle.pq_base.specs.declared.value.ColType.{ColType}
use Rattle.pq_base.specs.declared.value.ColType.TheVariants as type
use Rattle.pq_base.specs.declared.value.Value.{Value}
use Rattle.pq_schema.specs.declared.query.ColRef.{ColRef}
use Rattle.pq_schema.specs.declared.query.OrderItem.{OrderItem}
use Rattle.pq_schema.specs.declared.query.Query.{Query}
use Rattle.pq_schema.specs.declared.table.Table.{Table}
use Rattle.pq_schema.specs.Relations.{relation_at, table_of, tied_set, is_ordered, key_item, key_items, position_columns}
use Rattle.pq_schema.specs.Resolved.{IsColumnOf, IsResolved, ref_type}
use Rattle.pq_schema.specs.Rows.{no_value, types_of}
use Rattle.pq_schema.specs.Sound.{IsQuery}
use Rattle.pq_schema.specs.Tables.{is_lookup}
use Rattle.pq_plan.specs.Answer.{row_of, values_at, position, selected_values}
use Rattle.pq_plan.specs.Kept.{KeepsSchema}
use Rattle.pq_plan.proofs.Bounds.{number_at, linked}
use Rattle.pq_plan.proofs.Choices.{CanStop}
use Rattle.pq_plan.proofs.Kept.{row_fits}
use Rattle.pq_base.proofs.Members.{all_at, all_member, in_range, each_append, each_by_in, each_flat_map}
use Rattle.pq_plan.proofs.PlanCost.{no_rows_keep}
use Rattle.pq_nodes.specs.Combos.{IsCombo, FitsTables, position_types, selected_types}
use Rattle.pq_nodes.proofs.Inverse.{later_looked_up}

-- a value of a row that fits fits its column's type
pub fits_at : (types : List ColType) (row : List Value) (col : ℕ) (t : ColType) (d : Value) → AllFit types row → col < length types → FitsType (get_or types col t) (get_or row col d)
fits_at [] row col t d fits low = absurd (omega arith)
fits_at (u ∷ types) [] col t d fits low = absurd fits
fits_at (u ∷ types) (x ∷ row) zero t d fits low = fits.0
fits_at (u ∷ types) (x ∷ row) (suc col) t d fits low = fits_at types row col t d fits.1 (omega arith)

-- columns of the query, of relations up to this one
abbrev pub IsColumnUpTo : List Table → Query → ℕ → ColRef → Type 0
IsColumnUpTo tables query count col = IsColumnOf tables query col × (col.rel ≤ count)

abbrev pub AreColumnsUpTo : List Table → Query → ℕ → List OrderItem → Type 0
AreColumnsUpTo tables query count items = AllByRecursion (λ (item : OrderItem). IsColumnUpTo tables query count item.col) items

module _ (tables : List Table) (query : Query) where
  one_fits : (count : ℕ) (combo : List (List Value)) (col : ColRef) → FitsTables tables query count combo → IsColumnUpTo tables query count col → FitsType (ref_type tables query col) (get_or (row_of col.rel combo) col.col no_value)
  one_fits count combo col fits is =
      let table = table_of tables query col.rel in
      let long = length-map table.columns (λ column. column.ty) in
      let inside = is.0.inside in
      fits_at (types_of table) (row_of col.rel combo) col.col type.Bool no_value (fits.rows col.rel is.0.from_one is.1) (omega (arith, long, inside))

  pub items_fit : (count : ℕ) (combo : List (List Value)) (items : List OrderItem) → FitsTables tables query count combo → AreColumnsUpTo tables query count items → AllFit (map (λ item. ref_type tables query item.col) items) (values_at combo (map (λ item. item.col) items))
  items_fit count combo [] fits all = tt
  items_fit count combo (item ∷ items) fits all = (one_fits count combo item.col fits all.0, items_fit count combo items fits all.1)

  pub columns_fit : (count : ℕ) (combo : List (List Value)) (cols : List ColRef) → FitsTables tables query count combo → AllByRecursion (IsColumnUpTo tables query count) cols → AllFit (map (ref_type tables query) cols) (values_at combo cols)
  columns_fit count combo [] fits all = tt
  columns_fit count combo (col ∷ cols) fits all = (one_fits count combo col fits all.0, columns_fit count combo cols fits all.1)

module _ (tables : List Table) (query : Query) (sound : IsQuery tables query) (resolved : IsResolved tables query) where
  abbrev m : ℕ
  m = length query.relations

  -- the key columns of a relation are columns of its table
  key_inside : (rel : ℕ) → 1 ≤ rel → rel ≤ m → (col : ℕ) → In col (table_of tables query rel).key → col < length (table_of tables query rel).columns
  key_inside rel low high col here =
      let table = table_of tables query rel in
      let number = number_at tables query [] [] sound (no_rows_keep tables) rel low high in
      all_member (λ col. col < length table.columns) table.key (linked tables query [] [] sound (no_rows_keep tables) (relation_at query rel).table number).key col here

  key_items_upto : (count rel : ℕ) → 1 ≤ rel → rel ≤ m → (count < rel → is_lookup (table_of tables query rel) (tied_set query rel) ≡ true) → AreColumnsUpTo tables query count (key_items tables query rel)
  key_items_upto count rel low high later =
      let table = table_of tables query rel in
      let items = map (key_item rel) (filter (λ col. not (is_ordered query rel col)) table.key) in
      elim (cases_lt count rel) [
        | inl above ↦ subst (λ b. AreColumnsUpTo tables query count (cond b [] items)) (sym (later above)) tt
        | inr upto ↦ elim (is_lookup table (tied_set query rel)) as (λ b. AreColumnsUpTo tables query count (cond b [] items)) [
          | true ↦ tt
          | false ↦ of_key upto table.key (λ col here. key_inside rel low high col here)
        ]
      ]
    where
      of_key : rel ≤ count → (key : List ℕ) → ((col : ℕ) → In col key → col < length (table_of tables query rel).columns) → AreColumnsUpTo tables query count (map (key_item rel) (filter (λ col. not (is_ordered query rel col)) key))
      of_key upto [] inside = tt
      of_key upto (col ∷ key) inside =
          let rest = of_key upto key (λ c here. inside c (inr here)) in
          elim (not (is_ordered query rel col)) as (λ b. AreColumnsUpTo tables query count (map (key_item rel) (cond b (col ∷ filter (λ col. not (is_ordered query rel col)) key) (filter (λ col. not (is_ordered query rel col)) key)))) [
            | true ↦ ((record { from_one = low; there = high; inside = inside col (inl refl) }, upto), rest)
            | false ↦ rest
          ]

  position_upto : (count : ℕ) → AllByRecursion (λ (item : OrderItem). item.col.rel ≤ count) query.order → ((rel : ℕ) → count < rel → rel ≤ m → is_lookup (table_of tables query rel) (tied_set query rel) ≡ true) → AreColumnsUpTo tables query count (position_columns tables query)
  position_upto count ordered later =
      each_append (λ (item : OrderItem). IsColumnUpTo tables query count item.col) query.order (flat_map (key_items tables query) (range_with_len 1 m))
      (both query.order (recursion_from_All (λ (item : OrderItem). IsColumnOf tables query item.col) query.order resolved.order) ordered)
      (each_flat_map (λ (item : OrderItem). IsColumnUpTo tables query count item.col) (key_items tables query) (range_with_len 1 m) (λ rel here.
      let between = in_range rel 1 m here in
      let below : rel ≤ m = omega (arith, between.1) in
      key_items_upto count rel between.0 below (λ above. later rel above below)))
    where
      both : (items : List OrderItem) → AllByRecursion (λ (item : OrderItem). IsColumnOf tables query item.col) items → AllByRecursion (λ (item : OrderItem). item.col.rel ≤ count) items → AreColumnsUpTo tables query count items
      both [] a b = tt
      both (item ∷ items) a b = ((a.0, b.0), both items a.1 b.1)

  whole_upto : AreColumnsUpTo tables query m (position_columns tables query)
  whole_upto = position_upto m (each query.order (recursion_from_All (λ (item : OrderItem). IsColumnOf tables query item.col) query.order resolved.order)) (λ rel above below. absurd (omega arith))
    where
      each : (items : List OrderItem) → AllByRecursion (λ (item : OrderItem). IsColumnOf tables query item.col) items → AllByRecursion (λ (item : OrderItem). item.col.rel ≤ m) items
      each [] all = tt
      each (item ∷ items) all = (all.0.there, each items all.1)

  stop_upto : (p : ℕ) → CanStop tables query p → AreColumnsUpTo tables query p (position_columns tables query)
  stop_upto p can =
      let ordered = (and_parts _ _ (and_parts _ _ (and_parts _ _ can.can).0).0).1 in
      position_upto p (each_by_in (λ (item : OrderItem). item.col.rel ≤ p) query.order (λ item here. leb-true item.col.rel p (all_at (λ (item : OrderItem). nat_le item.col.rel p) query.order ordered item here)))
      (later_looked_up tables query sound p can)

  -- the position of a whole combination fits the position columns
  pub position_fits : (rows : List (ℕ × List Value)) (params : List Value) (combo : List (List Value)) → FitsTables tables query m combo → AllFit (position_types tables query) (position (record { tables = tables; query = query; rows = rows; params = params }) combo)
  position_fits rows params combo fits = items_fit tables query m combo (position_columns tables query) fits whole_upto

  -- and so does that of a combination up to a stop
  pub stop_position_fits : (rows : List (ℕ × List Value)) (params : List Value) (p : ℕ) → CanStop tables query p → (combo : List (List Value)) → FitsTables tables query p combo → AllFit (position_types tables query) (position (record { tables = tables; query = query; rows = rows; params = params }) combo)
  stop_position_fits rows params p can combo fits = items_fit tables query p combo (position_columns tables query) fits (stop_upto p can)

  -- what is selected fits its columns
  pub selected_fits : (combo : List (List Value)) → FitsTables tables query m combo → AllFit (selected_types tables query) (selected_values query combo)
  selected_fits combo fits = columns_fit tables query m combo query.select fits (each query.select (recursion_from_All (IsColumnOf tables query) query.select resolved.select))
    where
      each : (cols : List ColRef) → AllByRecursion (IsColumnOf tables query) cols → AllByRecursion (IsColumnUpTo tables query m) cols
      each [] all = tt
      each (col ∷ cols) all = ((all.0, all.0.there), each cols all.1)

-- rows of tables that keep the schema fit
pub combo_fits : (tables : List Table) (query : Query) (rows : List (ℕ × List Value)) (params : List Value) → IsQuery tables query → KeepsSchema tables rows → (count : ℕ) → count ≤ length query.relations → (combo : List (List Value)) → IsCombo (record { tables = tables; query = query; rows = rows; params = params }) count combo → FitsTables tables query count combo
combo_fits tables query rows params sound kept count few combo is = record {
  long = is.long;
  rows = λ rel low high. row_fits tables rows kept (relation_at query rel).table (row_of rel combo) (is.rows rel low high);
}
