-- What is put at a row's key is read back.
use Rattle.std.proofs.Common.{◌≡◌, ℕ, suc, ◌+◌, ◌^◌, ◌≤◌, ◌<◌, ◌==◌, nat_le, true, false, cond, ◌&&◌, List, [], ◌∷◌, ◌++◌, map, length, take, drop, Option, Some, None, refl, ap, ◌∙◌, subst, arith}
use Rattle.std.specs.Prelude.{All}
use Rattle.std.specs.List.{AllByRecursion}
use Rattle.std.specs.Int.{w32, to_be_bytes, from_be_bytes}
use Rattle.std.proofs.lemmas.Bool.{ne_eqb}
use Rattle.std.proofs.lemmas.Bool.Decides.{nat_tests}
use Rattle.pq_base.specs.declared.value.Value.{Value}
use Rattle.pq_base.specs.Values.{IsType, AllFit}
use Rattle.pq_base.proofs.TypeFits.{length_from_fits}
use Rattle.pq_row_code.proofs.Stored.{stored_few, filled_again}
use Rattle.pq_row_code.specs.RowCode.{fields, null_marks, mark_bytes, row_front}
use Rattle.pq_row_code.specs.StoredRow.{stored_row}
use Rattle.pq_row_code.proofs.Widths.{wide32}
use Rattle.pq_schema.specs.declared.table.Column.{Column}
use Rattle.pq_schema.specs.declared.table.Table.{Table}
use Rattle.pq_schema.proofs.TypeKinds.{type_sized}
use Rattle.pq_schema.specs.Sound.{IsSized}
use Rattle.pq_schema.specs.Tables.{table_at}
use Rattle.pq_content.specs.Pairs.{is_in_space}
use Rattle.pq_content.specs.Tables.{IsTableNumber, types_of, shape_of, stored_code}
use Rattle.pq_store.specs.Content.{Content}
use Rattle.std.specs.FinMap.{get}
use Rattle.pq_index_keep.specs.Sound.{IsWritable, AreWritable}
use Rattle.pq_index_keep.proofs.Inserting.{writable_at, each_is, each_by}
use Rattle.pq_clients.specs.Held.{Cell, Free, Held, cell_of, held_value, code_or_nothing, something, decoded_row}
use Rattle.pq_clients.specs.Invariant.{IsRowAt, MayStandAt, cell_at, present_at_cell}
use Rattle.pq_clients.proofs.Basics.{cell_is}

are_types : (columns : List Column) → AllByRecursion (λ (column : Column). IsSized column.ty) columns → AllByRecursion IsType (map (λ (column : Column). column.ty) columns)
are_types [] h = tt
are_types (column ∷ columns) h = (type_sized column.ty h.0, are_types columns h.1)

pub types_are : (tables : List Table) (t : ℕ) → AreWritable tables → IsTableNumber tables t → All IsType (types_of (table_at tables t))
types_are tables t sound number =
    let table = table_at tables t in
    let w : IsWritable tables table = writable_at tables t sound number in
    each_is IsType (types_of table) (are_types table.columns (each_by (λ (column : Column). IsSized column.ty) table.columns w.made.sized))

-- a row is read back from its code
pub row_decodes : (tables : List Table) (t : ℕ) (row : List Value) → AreWritable tables → IsTableNumber tables t → AllFit (types_of (table_at tables t)) row → decoded_row (table_at tables t) (stored_code (table_at tables t) row) ≡ Some row
row_decodes tables t row sound number fits = filled_again (shape_of (table_at tables t)) row (types_are tables t sound number) fits

-- ---- a row's code is no held value

length_types : (columns : List Column) → length (map (λ (column : Column). column.ty) columns) ≡ length columns
length_types [] = refl
length_types (c ∷ cs) = ap suc (length_types cs)

short_row : (tables : List Table) (t : ℕ) (row : List Value) → AreWritable tables → IsTableNumber tables t → AllFit (types_of (table_at tables t)) row → length (stored_row (table_at tables t).fillers row) ≤ 32
short_row tables t row sound number fits =
    let table = table_at tables t in
    let w : IsWritable tables table = writable_at tables t sound number in
    let long : length row ≡ length (types_of table) = length_from_fits (types_of table) row fits in
    let columns : length (types_of table) ≡ length table.columns = length_types table.columns in
    let few : length table.columns ≤ 32 = w.made.few_columns in
    stored_few table.fillers row (omega (arith, long, columns, few))

unmarked : (n : ℕ) (bs : List ℕ) → n < 128 → cell_of (n ∷ bs) ≡ Free (n ∷ bs)
unfolding cell_of
unmarked n bs few = ap (λ b. cond (b && nat_le 8 (length bs)) (Held (from_be_bytes w32 (take 4 (drop 1 (n ∷ bs)))) (from_be_bytes w32 (take 4 (drop 5 (n ∷ bs)))) (something (drop 9 (n ∷ bs)))) (Free (n ∷ bs))) (ne_eqb n 128 (λ e. absurd (omega (arith, few, e))))

-- the first byte is the number of columns, or 64 more where one of them is NULL
unmarked_front : (n marks : ℕ) (bs : List ℕ) → n ≤ 32 → cell_of (row_front n marks ++ bs) ≡ Free (row_front n marks ++ bs)
unmarked_front n marks bs few =
    elim (marks == 0) as (λ b. cell_of (cond b (n ∷ []) ((n + 64) ∷ mark_bytes marks) ++ bs) ≡ Free (cond b (n ∷ []) ((n + 64) ∷ mark_bytes marks) ++ bs)) [
      | true ↦ unmarked n bs (omega (arith, few))
      | false ↦ unmarked (n + 64) (mark_bytes marks ++ bs) (omega (arith, few))
    ]

pub free_cell : (tables : List Table) (k code : List ℕ) → AreWritable tables → IsRowAt tables k code → cell_of code ≡ Free code
free_cell tables k code sound at =
    let stored = stored_row (table_at tables at.table).fillers at.row in
    subst (λ (code : List ℕ). cell_of code ≡ Free code) at.code_is (unmarked_front (length stored) (null_marks stored) (fields stored) (short_row tables at.table at.row sound at.number at.fits))

-- what a row's pair holds that nobody holds
abbrev pub plain : Option (List ℕ) → Option Cell
plain None = None
plain (Some code) = Some (Free code)

pub plain_cell : (tables : List Table) (c : Content) (k : List ℕ) (p : Option (List ℕ)) → AreWritable tables → MayStandAt tables k p → is_in_space 2 k ≡ true → get c k ≡ p → cell_at c k ≡ plain p
plain_cell tables c k None sound stands space is = cell_is c k None space is
plain_cell tables c k (Some code) sound stands space is = cell_is c k (Some code) space is ∙ ap (λ (x : Cell). Some x) (free_cell tables k code sound stands)

pub plain_present : (p : Option (List ℕ)) → present_at_cell (plain p) ≡ p
plain_present None = refl
plain_present (Some code) = refl

-- ---- a held value is read back

some_code : (tables : List Table) (k : List ℕ) (p : Option (List ℕ)) → MayStandAt tables k p → something (code_or_nothing p) ≡ p
some_code tables k None stands = refl
some_code tables k (Some code) stands =
    let stored = stored_row (table_at tables stands.table).fillers stands.row in
    subst (λ (code : List ℕ). something code ≡ Some code) stands.code_is (some_front (length stored) (null_marks stored) (fields stored))
  where
    some_front : (n marks : ℕ) (bs : List ℕ) → something (row_front n marks ++ bs) ≡ Some (row_front n marks ++ bs)
    some_front n marks bs = elim (marks == 0) as (λ b. something (cond b (n ∷ []) ((n + 64) ∷ mark_bytes marks) ++ bs) ≡ Some (cond b (n ∷ []) ((n + 64) ∷ mark_bytes marks) ++ bs)) [ true ↦ refl | false ↦ refl ]

eight_more : (n : ℕ) → nat_le 8 (suc (suc (suc (suc (suc (suc (suc (suc n)))))))) ≡ true
eight_more n = grind (arith, nat_tests)

held_parts : (i m : ℕ) (rest : List ℕ) → i < 2 ^ 32 → m < 2 ^ 32 → cell_of (128 ∷ (to_be_bytes w32 i ++ (to_be_bytes w32 m ++ rest))) ≡ Held i m (something rest)
unfolding cell_of
held_parts i m rest small few =
    let bytes = 128 ∷ (to_be_bytes w32 i ++ (to_be_bytes w32 m ++ rest)) in
    ap (λ b. cond b (Held (from_be_bytes w32 (to_be_bytes w32 i)) (from_be_bytes w32 (to_be_bytes w32 m)) (something rest)) (Free bytes)) (eight_more (length rest))
    ∙ ap (λ n. Held n (from_be_bytes w32 (to_be_bytes w32 m)) (something rest)) (wide32.again i small) ∙ ap (λ n. Held i n (something rest)) (wide32.again m few)

pub held_cell : (tables : List Table) (k : List ℕ) (i m : ℕ) (p : Option (List ℕ)) → i < 2 ^ 32 → m < 2 ^ 32 → MayStandAt tables k p → cell_of (held_value i m p) ≡ Held i m p
unfolding held_value
held_cell tables k i m p small few stands = held_parts i m (code_or_nothing p) small few ∙ ap (Held i m) (some_code tables k p stands)
