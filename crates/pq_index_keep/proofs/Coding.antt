-- How many changes a write has, and that an intent can hold them.
use Rattle.std.proofs.Common.{◌≡◌, ℕ, suc, ◌+◌, ◌*◌, ◌≤◌, ◌<◌, ◌^◌, true, false, cond, not, ◌==◌, List, [], ◌∷◌, ◌++◌, length, map, get_or, replicate, zero, Some, None, refl, sym, ap, subst, ◌∙◌, arith}
use Rattle.std.specs.Prelude.{All, IfSome, filter}
use Rattle.std.specs.List.{AllByRecursion, count_by}
use Rattle.std.proofs.lemmas.List.Sums.{count_by-le-length, length-filter}
use Rattle.pq_index_keep.specs.Needs.{IsCodable}
use Rattle.pq_index_keep.specs.Tested.{touches_index}
use Rattle.pq_index_keep.specs.declared.write.Scope.{Scope}
use Rattle.std.proofs.lemmas.List.{length-append, length-map}
use Rattle.std.proofs.Math.Nat.{suc-mul, mul-le-mul_right}
use Rattle.std.specs.Int.{w16, to_be_bytes}
use Rattle.pq_base.specs.Columns.{has_col, set_of}
use Rattle.pq_base.specs.declared.value.ColType.{ColType}
use Rattle.pq_base.specs.declared.value.ColType.TheVariants as type
use Rattle.pq_base.specs.declared.value.Dir.TheVariants.{Asc}
use Rattle.pq_base.specs.declared.value.Value.{Value}
use Rattle.pq_base.specs.declared.value.Value.TheVariants as value
use Rattle.pq_base.specs.Values.{AllFit, FitsType}
use Rattle.pq_base.proofs.TypeFits.{length_from_fits}
use Rattle.pq_key_code.specs.KeyCode.{row_key}
use Rattle.pq_row_code.specs.declared.changes.Change.{Change as Coded}
use Rattle.pq_row_code.specs.Changes.{IsChange}
use Rattle.pq_row_code.specs.RowCode.{field, fields, null_marks, mark_bytes, row_front, row_code, IsShort}
use Rattle.pq_row_code.proofs.Stored.{shorter_code}
use Rattle.pq_schema.proofs.TypeKinds.{room_sized}
use Rattle.pq_schema.specs.Sound.{IsSized}
use Rattle.pq_schema.specs.declared.table.Column.{Column}
use Rattle.pq_schema.specs.declared.table.Index.{Index}
use Rattle.pq_schema.specs.declared.table.Table.{Table}
use Rattle.pq_schema.specs.Sequences.{ascending_part, columns_of, without, index_sequence}
use Rattle.pq_content.specs.Pairs.{Change, entry_pair, entries_from, pairs_of_row, entry_changes, puts, removals}
use Rattle.pq_content.specs.Standing.{change_of, AreOfRows}
use Rattle.pq_content.specs.Tables.{types_of, shape_of, type_at, types_at, key_types, key_of, values_of, same_values, stored_code}
use Rattle.pq_content.proofs.Lengths.{length-puts, length-removals, length-pairs_of_row, length-update_changes, IsWithinLength, length-code_of, length-entry_key}
use Rattle.pq_content.proofs.Values.{key_fits}
use Rattle.pq_content.proofs.Settling.{inserts_of_rows, deletes_of_rows, updates_of_rows}
use Rattle.pq_index_keep.specs.Promises.{ArePlanned}
use Rattle.pq_index_keep.specs.Sound.{IsWritable}
use Rattle.pq_index_keep.proofs.Inserting.{each_is, each_by}

-- ---- a row that fits

one_short : (t : ColType) (x : Value) → IsSized t → FitsType t x → IsShort x
one_short t value.Null sized fits = tt
one_short t (value.Int n) sized fits = tt
one_short t (value.Bool b) sized fits = tt
one_short t (value.Text s) sized fits = let le = fits.1 in let most = room_sized t sized in omega (arith, le, most)

all_short : (columns : List Column) (row : List Value) → AllByRecursion (λ (column : Column). IsSized column.ty) columns → AllFit (map (λ (column : Column). column.ty) columns) row → AllByRecursion IsShort row
all_short [] [] sized fits = tt
all_short [] (x ∷ xs) sized fits = absurd fits
all_short (c ∷ cs) [] sized fits = absurd fits
all_short (c ∷ cs) (x ∷ xs) sized fits = (one_short c.ty x sized.0 fits.0, all_short cs xs sized.1 fits.1)

module _ (tables : List Table) (table : Table) (w : IsWritable tables table) (row : List Value) (fits : AllFit (types_of table) row) where
  pub shorts : AllByRecursion IsShort row
  shorts = all_short table.columns row (each_by (λ (column : Column). IsSized column.ty) table.columns w.made.sized) fits

  pub fit_texts : All IsShort row
  fit_texts = each_is IsShort row shorts

  pub fit_columns : length row ≤ 32
  fit_columns = omega (arith, length_from_fits (types_of table) row fits, length-map table.columns (λ (column : Column). column.ty), w.made.few_columns)

  pub codable : IsCodable row
  codable = record { columns = fit_columns; texts = fit_texts }

field_short : (x : Value) → IsShort x → length (field x) ≤ 1002
field_short value.Null h = omega arith
field_short (value.Int z) h = let eight : length (field (value.Int z)) ≡ 8 = refl in omega arith
field_short (value.Bool b) h = omega arith
field_short (value.Text t) h =
    let parts = length-append (to_be_bytes w16 (length t)) t in
    let two : length (to_be_bytes w16 (length t)) ≡ 2 = refl in
    omega arith

length-row_front : (n marks : ℕ) → length (row_front n marks) ≤ 5
length-row_front n marks = elim (marks == 0) as (λ b. length (cond b (n ∷ []) ((n + 64) ∷ mark_bytes marks)) ≤ 5) [ true ↦ omega arith | false ↦ omega arith ]

fields_short : (xs : List Value) → AllByRecursion IsShort xs → length (fields xs) ≤ length xs * 1002
fields_short [] h = omega arith
fields_short (x ∷ xs) h =
    let parts = length-append (field x) (fields xs) in
    let first = field_short x h.0 in
    let rest = fields_short xs h.1 in
    omega (arith, suc-mul (length xs) 1002)

pub whole_short : (tables : List Table) (table : Table) → IsWritable tables table → (row : List Value) → AllFit (types_of table) row → length (row_code row) ≤ 40000
whole_short tables table w row fits =
    let most = fields_short row (shorts tables table w row fits) in
    let few = fit_columns tables table w row fits in
    let parts = length-append (row_front (length row) (null_marks row)) (fields row) in
    let front = length-row_front (length row) (null_marks row) in
    omega (arith, most, few, parts, front)

stored_short : (tables : List Table) (table : Table) → IsWritable tables table → (row : List Value) → AllFit (types_of table) row → length (stored_code table row) ≤ 40000
stored_short tables table w row fits =
    let most = whole_short tables table w row fits in
    omega (arith, shorter_code (shape_of table) row, most)

-- ---- a key that fits

type_sized : (columns : List Column) (col : ℕ) → AllByRecursion (λ (column : Column). IsSized column.ty) columns → IsSized (get_or (map (λ (column : Column). column.ty) columns) col type.Bool)
type_sized [] col sized = tt
type_sized (c ∷ cs) zero sized = sized.0
type_sized (c ∷ cs) (suc col) sized = type_sized cs col sized.1

pub within_short : (x : Value) → IsShort x → IsWithinLength 1000 x
within_short value.Null h = tt
within_short (value.Int n) h = tt
within_short (value.Bool b) h = tt
within_short (value.Text t) h = h

pub key_within : (table : Table) (cols : List ℕ) (key : List Value) → AllByRecursion (λ (column : Column). IsSized column.ty) table.columns → AllFit (types_at table.columns cols) key → AllByRecursion (IsWithinLength 1000) key
key_within table [] [] sized fits = tt
key_within table [] (x ∷ xs) sized fits = absurd fits
key_within table (c ∷ cols) [] sized fits = absurd fits
key_within table (c ∷ cols) (x ∷ xs) sized fits = (within_short x (one_short (type_at table.columns c) x (type_sized table.columns c sized) fits.0), key_within table cols xs sized fits.1)

-- ---- changes that an intent can hold

abbrev IsCoded : Change → Type 0
IsCoded change = (length change.0 < 2 ^ 32) × IfSome change.1 (λ v. length v < 2 ^ 32)

coded_each : (changes : List Coded) → AllByRecursion IsCoded (map change_of changes) → AllByRecursion IsChange changes
coded_each [] h = tt
coded_each (c ∷ cs) h = (record { key = h.0.0; new = h.0.1 }, coded_each cs h.1)

planned_from : (xs : List Change) (most : ℕ) (changes : List Coded) → map change_of changes ≡ xs → AllByRecursion IsCoded xs → AreOfRows xs → 1 ≤ length xs → length xs ≤ most → most ≤ 40 → ArePlanned most changes
planned_from xs most changes is coded of_rows some few small =
    let long : length changes ≡ length xs = sym (length-map changes change_of) ∙ ap (λ (l : List Change). length l) is in
    let less : length changes < 2 ^ 16 = omega arith in
    record {
      some = omega arith;
      few = omega arith;
      coded = record { few = less; each = each_is IsChange changes (coded_each changes (subst (AllByRecursion IsCoded) (sym is) coded)) };
      of_rows = subst AreOfRows (sym is) of_rows;
    }

fewer : (left : ℕ) (key : List ℕ) → length (without left key) ≤ length key
fewer left [] = omega arith
fewer left (c ∷ key) =
    let rest = fewer left key in
    elim (has_col left c) as (λ b. length (cond (not b) (c ∷ without left key) (without left key)) ≤ suc (length key)) [ true ↦ omega arith | false ↦ omega arith ]

module _ (tables : List Table) (table : Table) (w : IsWritable tables table) (t : ℕ) where
  pub narrow_sequence : (index : Index) → length index.cols ≤ 36 → length (index_sequence table index) ≤ 40
  narrow_sequence index narrow =
      let left = set_of (columns_of index.cols) in
      let parts = length-append index.cols (map ascending_part (without left table.key)) in
      let same = length-map (without left table.key) ascending_part in
      let few = fewer left table.key in
      let short = w.made.key.few in
      omega arith

  key_coded : (key : List Value) → AllFit (key_types table) key → length (row_key t key) < 2 ^ 32
  key_coded key fits =
      let sized = each_by (λ (column : Column). IsSized column.ty) table.columns w.made.sized in
      let most = length-code_of 1000 (replicate (length key) Asc) key (key_within table table.key key sized fits) in
      let long : length key ≡ length table.key = length_from_fits (key_types table) key fits ∙ length-map table.key (type_at table.columns) in
      let short = w.made.key.few in
      omega arith

  module _ (row : List Value) (fits : AllFit (types_of table) row) where
    value_coded : length (stored_code table row) < 2 ^ 32
    value_coded = let most = stored_short tables table w row fits in omega arith

    entry_coded : (i : ℕ) (index : Index) → length index.cols ≤ 36 → length (entry_pair t i (index_sequence table index) row).0 < 2 ^ 32
    entry_coded i index narrow =
        let most = length-entry_key 40000 t i (index_sequence table index) row (whole_short tables table w row fits) in
        let long = narrow_sequence index narrow in
        omega (arith, mul-le-mul_right 80009 long)

    puts_coded : (i : ℕ) (indexes : List Index) → AllByRecursion (λ (index : Index). length index.cols ≤ 36) indexes → AllByRecursion IsCoded (puts (entries_from t i table indexes row))
    puts_coded i [] h = tt
    puts_coded i (x ∷ xs) h = ((entry_coded i x h.0, omega arith), puts_coded (i + 1) xs h.1)

    removals_coded : (i : ℕ) (indexes : List Index) → AllByRecursion (λ (index : Index). length index.cols ≤ 36) indexes → AllByRecursion IsCoded (removals (entries_from t i table indexes row))
    removals_coded i [] h = tt
    removals_coded i (x ∷ xs) h = ((entry_coded i x h.0, tt), removals_coded (i + 1) xs h.1)

    narrows : AllByRecursion (λ (index : Index). length index.cols ≤ 36) table.indexes
    narrows = each_by (λ (index : Index). length index.cols ≤ 36) table.indexes w.narrow

    pub insert_planned : (changes : List Coded) → map change_of changes ≡ puts (pairs_of_row t table row) → ArePlanned (1 + length table.indexes) changes
    insert_planned changes made =
        let pairs = pairs_of_row t table row in
        let long : length (puts pairs) ≡ suc (length table.indexes) = length-puts pairs ∙ length-pairs_of_row t table row in
        let few = w.made.few_indexes in
        planned_from (puts pairs) (1 + length table.indexes) changes made ((key_coded (key_of table row) (key_fits table row fits), value_coded), puts_coded 1 table.indexes narrows) (inserts_of_rows t table row) (omega arith) (omega arith) (omega arith)

    pub delete_planned : (key : List Value) (at : List ℕ) → AllFit (key_types table) key → at ≡ row_key t key → (changes : List Coded) → map change_of changes ≡ (at, None) ∷ removals (entries_from t 1 table table.indexes row) → ArePlanned (1 + length table.indexes) changes
    delete_planned key at fits_key is changes made =
        let pairs = pairs_of_row t table row in
        let rest = removals (entries_from t 1 table table.indexes row) in
        let long : suc (length rest) ≡ suc (length table.indexes) = length-removals pairs ∙ length-pairs_of_row t table row in
        let few = w.made.few_indexes in
        planned_from ((row_key t key, None) ∷ rest) (1 + length table.indexes) changes (made ∙ ap (λ (k : List ℕ). (k, None) ∷ rest) is) ((key_coded key fits_key, tt), removals_coded 1 table.indexes narrows) (refl, (deletes_of_rows t table row).1) (omega arith) (omega arith) (omega arith)

    module _ (new : List Value) (fits_new : AllFit (types_of table) new) (of : Scope) where
      moves_coded : (i : ℕ) (indexes : List Index) → AllByRecursion (λ (index : Index). length index.cols ≤ 36) indexes → AllByRecursion IsCoded (entry_changes t i table indexes row new)
      moves_coded i [] h = tt
      moves_coded i (x ∷ xs) h =
          elim (same_values (values_of (index_sequence table x) row) (values_of (index_sequence table x) new)) as (λ b. AllByRecursion IsCoded ((cond b [] (((entry_pair t i (index_sequence table x) row).0, None) ∷ ((entry_pair t i (index_sequence table x) new).0, Some []) ∷ [])) ++ entry_changes t (i + 1) table xs row new)) [
            | true ↦ moves_coded (i + 1) xs h.1
            | false ↦ ((entry_coded i x h.0, tt), ((new_coded i x h.0, omega arith), moves_coded (i + 1) xs h.1))
          ]
        where
          new_coded : (i : ℕ) (index : Index) → length index.cols ≤ 36 → length (entry_pair t i (index_sequence table index) new).0 < 2 ^ 32
          new_coded i index narrow =
              let most = length-entry_key 40000 t i (index_sequence table index) new (whole_short tables table w new fits_new) in
              let long = narrow_sequence index narrow in
              omega (arith, mul-le-mul_right 80009 long)

      new_value : length (stored_code table new) < 2 ^ 32
      new_value = let most = stored_short tables table w new fits_new in omega arith

      pub update_planned : ((index : Index) → touches_index of table index ≡ false → values_of (index_sequence table index) row ≡ values_of (index_sequence table index) new) → (key : List Value) (at : List ℕ) → AllFit (key_types table) key → at ≡ row_key t key
          → (changes : List Coded) → map change_of changes ≡ (at, Some (stored_code table new)) ∷ entry_changes t 1 table table.indexes row new → ArePlanned (1 + 2 * count_by (touches_index of table) table.indexes) changes
      update_planned stays key at fits_key is changes made =
          let rest = entry_changes t 1 table table.indexes row new in
          let most : suc (length rest) ≤ 1 + 2 * length (filter (touches_index of table) table.indexes) = length-update_changes (touches_index of table) t table row new stays in
          let same = length-filter (touches_index of table) table.indexes in
          let all = count_by-le-length (touches_index of table) table.indexes in
          let few = w.made.few_indexes in
          planned_from ((row_key t key, Some (stored_code table new)) ∷ rest) (1 + 2 * count_by (touches_index of table) table.indexes) changes (made ∙ ap (λ (k : List ℕ). (k, Some (stored_code table new)) ∷ rest) is) ((key_coded key fits_key, new_value), moves_coded 1 table.indexes narrows) (refl, (updates_of_rows t table row new).1) (omega arith) (omega arith) (omega arith)

pub short_texts : (table : Table) (row : List Value) → All (λ (column : Column). IsSized column.ty) table.columns → AllFit (types_of table) row → All IsShort row
short_texts table row sized fits = each_is IsShort row (all_short table.columns row (each_by (λ (column : Column). IsSized column.ty) table.columns sized) fits)

pub few_values : (table : Table) (row : List Value) → length table.columns ≤ 32 → AllFit (types_of table) row → length row ≤ 32
few_values table row few fits = omega (arith, length_from_fits (types_of table) row fits, length-map table.columns (λ (column : Column). column.ty))
