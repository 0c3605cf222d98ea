-- One more value behind a row: what stands at the columns before it, and how the row is stored, stay.
use Rattle.std.proofs.Common.{◌≡◌, ℕ, zero, suc, ◌+◌, ◌<◌, ◌≤◌, cond, true, List, [], ◌∷◌, ◌++◌, length, map, not, take, Option, Some, None, refl, sym, ap, ◌∙◌, arith}
use Rattle.std.specs.Prelude.{All, slice_index_or}
use Rattle.std.proofs.Math.Seq.{get_or-append_seam}
use Rattle.std.proofs.lemmas.Bool.{le-ltb}
use Rattle.std.proofs.lemmas.List.{get_or_append_left, length-append, take-append-le}
use Rattle.std.proofs.lemmas.List.Elements.{All-head, All-tail, All-append, All-map, All-filter}
use Rattle.pq_base.specs.Cells.{no_value, value_of}
use Rattle.pq_base.specs.Columns.{has_col, set_of}
use Rattle.pq_base.specs.declared.value.ColType.{ColType}
use Rattle.pq_base.specs.declared.value.Value.{Value}
use Rattle.pq_base.specs.Values.{FitsType, AllFit}
use Rattle.pq_base.proofs.SameValues.{value_decides}
use Rattle.pq_key_code.specs.KeyCode.{row_key, entry_key}
use Rattle.pq_row_code.specs.RowCode.{row_code}
use Rattle.pq_row_code.specs.StoredRow.{is_filler, holds_default, len_below, stored_len, stored_row}
use Rattle.pq_row_code.proofs.Stored.{stored_inside}
use Rattle.pq_schema.specs.declared.table.Column.{Column}
use Rattle.pq_schema.specs.declared.table.Index.{Index}
use Rattle.pq_schema.specs.declared.table.KeyPart.{KeyPart}
use Rattle.pq_schema.specs.declared.table.Table.{Table}
use Rattle.pq_schema.specs.Schema.{with_new_column}
use Rattle.pq_schema.specs.Sequences.{ascending_part, columns_of, without, index_sequence}
use Rattle.pq_content.specs.Pairs.{entries_from, pairs_of_row}
use Rattle.pq_content.specs.Tables.{dirs_of, key_of, stored_code}

-- ---- values

-- what stands at columns below a width that the row has
pub values_before : {X : Type 0} (col_of : X → ℕ) (xs : List X) (row : List Value) (x : Value) (width : ℕ) → width ≤ length row → All (λ y. col_of y < width) xs → map (λ y. value_of (row ++ x ∷ []) (col_of y)) xs ≡ map (λ y. value_of row (col_of y)) xs
values_before col_of [] row x width wide inside = refl
values_before col_of (y ∷ ys) row x width wide inside =
    let first = All-head (λ y. col_of y < width) y ys inside in
    let below : col_of y < length row = omega (arith, first, wide) in
    λ i. get_or_append_left row (x ∷ []) no_value (col_of y) below i ∷ values_before col_of ys row x width wide (All-tail (λ y. col_of y < width) y ys inside) i

pub fits_behind : (ts : List ColType) (t : ColType) (row : List Value) (x : Value) → AllFit ts row → FitsType t x → AllFit (ts ++ t ∷ []) (row ++ x ∷ [])
fits_behind [] t [] x fits last = (last, tt)
fits_behind [] t (y ∷ row) x fits last = absurd fits
fits_behind (u ∷ ts) t [] x fits last = absurd fits
fits_behind (u ∷ ts) t (y ∷ row) x fits last = (fits.0, fits_behind ts t row x fits.1 last)

-- ---- the stored row

holds_before : (fillers : List (Option Value)) (row : List Value) (x : Value) (i : ℕ) → i < length fillers → i < length row → holds_default (fillers ++ Some x ∷ []) (row ++ x ∷ []) i ≡ holds_default fillers row i
holds_before fillers row x i below inside = λ k. is_filler (get_or_append_left fillers (Some x ∷ []) None i below k) (get_or_append_left row (x ∷ []) no_value i inside k)

-- the last column holds its default
holds_last : (fillers : List (Option Value)) (row : List Value) (x : Value) → length row ≡ length fillers → holds_default (fillers ++ Some x ∷ []) (row ++ x ∷ []) (length row) ≡ true
holds_last fillers row x long =
    ap (λ n. is_filler (slice_index_or (fillers ++ Some x ∷ []) n None) (value_of (row ++ x ∷ []) (length row))) long
    ∙ (λ k. is_filler (get_or-append_seam fillers (Some x) [] None k) (get_or-append_seam row x [] no_value k))
    ∙ (value_decides x x).1 refl

below_before : (fillers : List (Option Value)) (row : List Value) (x : Value) (n : ℕ) → n ≤ length fillers → n ≤ length row → len_below (fillers ++ Some x ∷ []) (row ++ x ∷ []) n ≡ len_below fillers row n
below_before fillers row x zero below inside = refl
below_before fillers row x (suc n) below inside =
    λ k. cond (holds_before fillers row x n (omega arith) (omega arith) k) (below_before fillers row x n (omega arith) (omega arith) k) (suc n)

few_stored : (fillers : List (Option Value)) (row : List Value) → length row ≤ 32 → stored_len fillers row ≡ len_below fillers row (length row)
few_stored fillers row few = ap (λ b. cond b (length row) (len_below fillers row (length row))) (le-ltb 32 (length row) few)

-- a row with the default of an added column behind it is stored as it was
pub stored_before : (fillers : List (Option Value)) (row : List Value) (x : Value) → length row ≡ length fillers → length row ≤ 31 → stored_row (fillers ++ Some x ∷ []) (row ++ x ∷ []) ≡ stored_row fillers row
stored_before fillers row x long few =
    let fillers' : List (Option Value) = fillers ++ Some x ∷ [] in
    let row' : List Value = row ++ x ∷ [] in
    let n = length row in
    let append = length-append row (x ∷ []) in
    let more : length row' ≡ suc n = omega (arith, append) in
    let below : n ≤ length fillers = omega (arith, long) in
    let same : stored_len fillers' row' ≡ stored_len fillers row =
    few_stored fillers' row' (omega (arith, more, few))
    ∙ ap (len_below fillers' row') more
    ∙ ap (λ b. cond b (len_below fillers' row' n) (suc n)) (holds_last fillers row x long)
    ∙ below_before fillers row x n below (omega arith)
    ∙ sym (few_stored fillers row (omega (arith, few))) in
    ap (λ m. take m row') same ∙ take-append-le (stored_len fillers row) row (x ∷ []) (stored_inside fillers row)

-- ---- pairs

sequence_inside : (table : Table) (index : Index) (width : ℕ) → All (λ col. col < width) table.key → All (λ part. part.col < width) index.cols → All (λ part. part.col < width) (index_sequence table index)
sequence_inside table index width key inside =
    let set = set_of (columns_of index.cols) in
    All-append (λ (part : KeyPart). part.col < width) index.cols (map ascending_part (without set table.key)) inside
    (All-map (λ (part : KeyPart). part.col < width) ascending_part (without set table.key) (All-filter (λ col. not (has_col set col)) (λ col. col < width) table.key key))

entries_before : (t i : ℕ) (table : Table) (column : Column) (x : Value) (indexes : List Index) (row : List Value) (width : ℕ) → width ≤ length row → All (λ col. col < width) table.key → All (λ index. All (λ part. part.col < width) index.cols) indexes → entries_from t i (with_new_column table column x) indexes (row ++ x ∷ []) ≡ entries_from t i table indexes row
entries_before t i table column x [] row width wide key inside = refl
entries_before t i table column x (index ∷ indexes) row width wide key inside =
    let P = λ (index : Index). All (λ part. part.col < width) index.cols in
    let sequence = index_sequence table index in
    let values = values_before (λ part. part.col) sequence row x width wide (sequence_inside table index width key (All-head P index indexes inside)) in
    λ k. (entry_key t i (dirs_of sequence) (values k), []) ∷ entries_before t (i + 1) table column x indexes row width wide key (All-tail P index indexes inside) k

-- a row's code is that of before
pub code_before : (table : Table) (column : Column) (x : Value) (row : List Value) → length row ≡ length table.columns → length table.columns ≡ length table.fillers → length table.columns ≤ 31 → stored_code (with_new_column table column x) (row ++ x ∷ []) ≡ stored_code table row
code_before table column x row long fillers few = ap row_code (stored_before table.fillers row x (long ∙ fillers) (omega (arith, long, few)))

-- and so are its pairs
pub pairs_before : (t : ℕ) (table : Table) (column : Column) (x : Value) (row : List Value) → length row ≡ length table.columns → length table.columns ≡ length table.fillers → length table.columns ≤ 31 → All (λ col. col < length table.columns) table.key → All (λ index. All (λ part. part.col < length table.columns) index.cols) table.indexes → pairs_of_row t (with_new_column table column x) (row ++ x ∷ []) ≡ pairs_of_row t table row
pairs_before t table column x row long fillers few key indexes =
    let width = length table.columns in
    let wide : width ≤ length row = omega (arith, long) in
    let values : key_of (with_new_column table column x) (row ++ x ∷ []) ≡ key_of table row = values_before (λ col. col) table.key row x width wide key in
    let code : stored_code (with_new_column table column x) (row ++ x ∷ []) ≡ stored_code table row = code_before table column x row long fillers few in
    λ k. (row_key t (values k), code k) ∷ entries_before t 1 table column x table.indexes row width wide key indexes k
