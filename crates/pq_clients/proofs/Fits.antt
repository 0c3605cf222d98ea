-- Rows that fit their tables: the columns that a write sets, and texts.
use Rattle.std.proofs.Common.{◌≡◌, ℕ, ◌≤◌, ◌<◌, List, [], ◌∷◌, map, length, sym, arith, subst, Result, Ok, Err, None}
use Rattle.std.specs.Prelude.{All, IfOk}
use Rattle.std.specs.List.{AllByRecursion}
use Rattle.std.proofs.lemmas.List.{length-map}
use Rattle.std.proofs.lemmas.List.Elements.{recursion_from_All, All-from_recursion}
use Rattle.pq_base.specs.Values.{FitsType, AllFit}
use Rattle.pq_base.specs.declared.value.ColType.{ColType}
use Rattle.pq_base.specs.declared.value.Value.{Value}
use Rattle.pq_base.specs.declared.value.Value.TheVariants as value
use Rattle.pq_base.proofs.TypeFits.{length_from_fits}
use Rattle.pq_schema.specs.Sound.{IsSized}
use Rattle.pq_schema.proofs.TypeKinds.{room_sized}
use Rattle.pq_schema.specs.Tables.{table_at}
use Rattle.pq_schema.specs.declared.table.Column.{Column}
use Rattle.pq_schema.specs.declared.table.Table.{Table}
use Rattle.pq_content.specs.Tables.{IsTableNumber, types_of}
use Rattle.pq_row_code.specs.RowCode.{IsShort}
use Rattle.pq_index_keep.proofs.Inserting.{writable_at}
use Rattle.pq_index_keep.proofs.Updating.{fit_sets}
use Rattle.pq_index_keep.specs.Sound.{IsWritable, IsSet, IsWrite}
use Rattle.pq_index_keep.specs.Tested.{with_sets}
use Rattle.pq_index_keep.specs.declared.write.SetCol.{SetCol}
use Rattle.pq_index_keep.specs.declared.write.Write.{Write}
use Rattle.pq_index_keep.specs.declared.write.Write.TheVariants as write
use Rattle.pq_clients.specs.Flights.{table_number, table_of, row_refusal, sets_of, conds_of}
use Rattle.pq_clients.specs.Fitting.{MayWrite, HasColumns, IsUpdateOf}
use Rattle.pq_clients.proofs.Granting.{granted_sums}

one_short : (t : ColType) (x : Value) → IsSized t → FitsType t x → IsShort x
one_short t value.Null sized fits = tt
one_short t (value.Int n) sized fits = tt
one_short t (value.Bool b) sized fits = tt
one_short t (value.Text s) sized fits = let le = fits.1 in let most = room_sized t sized in omega (arith, le, most)

all_short : (columns : List Column) (row : List Value) → AllByRecursion (λ (column : Column). IsSized column.ty) columns → AllFit (map (λ (column : Column). column.ty) columns) row → AllByRecursion IsShort row
all_short [] [] sized fits = tt
all_short [] (x ∷ xs) sized fits = absurd fits
all_short (c ∷ cs) [] sized fits = absurd fits
all_short (c ∷ cs) (x ∷ xs) sized fits = (one_short c.ty x sized.0 fits.0, all_short cs xs sized.1 fits.1)

-- the table of a write
pub numbered : (tables : List Table) (w : Write) → IsWrite tables w → IsTableNumber tables (table_number w)
numbered tables (write.Insert t row) is = is.number
numbered tables (write.Update t key sets conds) is = is.number
numbered tables (write.Delete t key conds) is = is.number

pub writable_of : (tables : List Table) (w : Write) → MayWrite tables w → IsWritable tables (table_of tables w)
writable_of tables w may = writable_at tables (table_number w) may.sound (numbered tables w may.write)

module _ (tables : List Table) (w : Write) (may : MayWrite tables w) (row : List Value) (fits : AllFit (types_of (table_of tables w)) row) where
  pub short_texts : All IsShort row
  short_texts = All-from_recursion IsShort row (all_short (table_of tables w).columns row (recursion_from_All (λ (column : Column). IsSized column.ty) (table_of tables w).columns (writable_of tables w may).made.sized) fits)

  pub few_values : length row ≤ 32
  few_values = omega (arith, length_from_fits (types_of (table_of tables w)) row fits, length-map (table_of tables w).columns (λ (column : Column). column.ty), (writable_of tables w may).made.few_columns)

-- the columns that are set are columns of the table
inside_sets : (table : Table) (n : ℕ) (sets : List SetCol) → length table.columns ≤ n → AllByRecursion (IsSet table) sets → AllByRecursion (λ (set : SetCol). set.col < n) sets
inside_sets table n [] few each = tt
inside_sets table n (set ∷ sets) few each = (let inside = each.0.inside in omega arith, inside_sets table n sets few each.1)

pub has_columns : (tables : List Table) (w : Write) → MayWrite tables w → HasColumns w
has_columns tables (write.Insert t row) may = tt
has_columns tables (write.Update t key sets conds) may =
    All-from_recursion (λ (set : SetCol). set.col < 32) sets (inside_sets (table_at tables t) 32 sets (writable_of tables (write.Update t key sets conds) may).made.few_columns may.write.each)
has_columns tables (write.Delete t key conds) may = tt

-- those of an UPDATE, and the number of its conditions
pub sets_inside : (tables : List Table) (w : Write) → MayWrite tables w → All (λ (set : SetCol). set.col < length (table_of tables w).columns) (sets_of w)
sets_inside tables (write.Insert t row) may = All-from_recursion (λ (set : SetCol). set.col < length (table_at tables t).columns) [] tt
sets_inside tables (write.Update t key sets conds) may =
    All-from_recursion (λ (set : SetCol). set.col < length (table_at tables t).columns) sets (inside_sets (table_at tables t) (length (table_at tables t).columns) sets (omega arith) may.write.each)
sets_inside tables (write.Delete t key conds) may = All-from_recursion (λ (set : SetCol). set.col < length (table_at tables t).columns) [] tt

pub few_conds : (tables : List Table) (w : Write) → MayWrite tables w → length (conds_of w) ≤ 16
few_conds tables (write.Insert t row) may = omega arith
few_conds tables (write.Update t key sets conds) may = may.write.tested.0
few_conds tables (write.Delete t key conds) may = may.write.tested.0

-- each set column is one of a row that fits
pub inside_row : (tables : List Table) (w : Write) (sets : List SetCol) (row : List Value) → MayWrite tables w → IsUpdateOf w sets → AllFit (types_of (table_of tables w)) row → All (λ (set : SetCol). set.col < length row) sets
inside_row tables (write.Insert t own) sets row may is fits = absurd is
inside_row tables (write.Update t key own conds) sets row may is fits =
    subst (λ (ss : List SetCol). All (λ (set : SetCol). set.col < length row) ss) is
    (All-from_recursion (λ (set : SetCol). set.col < length row) own (inside_sets (table_at tables t) (length row) own
    (omega (arith, length_from_fits (types_of (table_at tables t)) row fits, length-map (table_at tables t).columns (λ (column : Column). column.ty))) may.write.each))
inside_row tables (write.Delete t key conds) sets row may is fits = absurd is

pub fit_update : (tables : List Table) (w : Write) (sets : List SetCol) (row : List Value) → MayWrite tables w → IsUpdateOf w sets → row_refusal tables w row ≡ None → AllFit (types_of (table_of tables w)) row → AllFit (types_of (table_of tables w)) (with_sets sets row)
fit_update tables (write.Insert t own) sets row may is granted fits = absurd is
fit_update tables (write.Update t key own conds) sets row may is granted fits =
    subst (λ (ss : List SetCol). AllFit (types_of (table_at tables t)) (with_sets ss row)) is (fit_sets (table_at tables t) own row may.write.each (granted_sums tables (write.Update t key own conds) row granted) fits)
fit_update tables (write.Delete t key conds) sets row may is granted fits = absurd is

pub fit_ok : {E : Type 0} (ts : List ColType) (r : Result (List Value) E) (row : List Value) → IfOk r (λ x. x ≡ row) → AllFit ts row → IfOk r (AllFit ts)
fit_ok ts (Ok x) row is fits = subst (AllFit ts) (sym is) fits
fit_ok ts (Err e) row is fits = tt
