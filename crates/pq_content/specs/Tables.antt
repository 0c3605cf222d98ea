-- Rows of tables: their keys and types, how they are found, and when they keep their definitions.
use Rattle.std.specs.Prelude.{◌≡◌, ◌⊎◌, ℕ, ◌<◌, ◌≤◌, false, not, List, [], map, filter, take, length, count_ones, Contains}
use Rattle.std.specs.List.{AllByRecursion}
use Rattle.pq_base.specs.Columns.{set_of}
use Rattle.pq_base.specs.declared.value.Value.{Value}
use Rattle.pq_base.specs.Values.{AllFit, has_null}
use Rattle.pq_schema.specs.declared.table.Foreign.{Foreign}
use Rattle.pq_schema.specs.declared.table.KeyPart.{KeyPart}
use Rattle.pq_schema.specs.declared.table.Limit.{Limit}
use Rattle.pq_schema.specs.declared.table.Table.{Table}
use Rattle.pq_schema.specs.Sequences.{columns_of}
pub use Rattle.pq_schema.specs.Keys.{IsOfKind, AllOfKinds, key_types, dirs_of}
pub use Rattle.pq_schema.specs.Rows.{Rows, rows_of, value_of, cells, types_of, shape_of, key_of, same_value, same_values, agrees, has_key, row_at, group_of, IsTableNumber, AreApart, IsWithinLimit, HasParent, KeepsSchema}
use Rattle.pq_schema.specs.Tables.{table_at}
pub use Rattle.pq_schema.specs.Tables.{type_at, types_at}
use Rattle.pq_row_code.specs.StoredRow.{code_as}

-- the values at the columns of a sequence
abbrev pub values_of : List KeyPart → List Value → List Value
values_of parts row = map (λ part. value_of row part.col) parts

-- the rows but for the one of a table with this key
abbrev pub rows_without : List Table → ℕ → List Value → Rows → Rows
rows_without tables t key rows = filter (λ e. not (has_key tables t key e)) rows

-- the first columns of a sequence that begins with the set of these
abbrev pub first_columns : List KeyPart → List ℕ → List ℕ
first_columns sequence cols = take (count_ones (set_of cols)) (columns_of sequence)

-- the bytes that a store holds for a row of this table
abbrev pub stored_code : Table → List Value → List ℕ
stored_code table row = code_as (shape_of table) row

-- the rows keep the definitions of their tables, and each row's code is short
pub record Keeps (tables : List Table) (rows : Rows) : Type 0 where
  pub schema : KeepsSchema tables rows
  pub open schema use *
  pub short : AllByRecursion (λ e. length (stored_code (table_at tables e.0) e.1) ≤ 4096) rows

-- what is known of a row that is found by its key
pub record IsFound (tables : List Table) (rows : Rows) (t : ℕ) (key row : List Value) : Type 0 where
  pub there : Contains rows (t, row)
  pub number : IsTableNumber tables t
  pub fits : AllFit (types_of (table_at tables t)) row
  pub key_is : key_of (table_at tables t) row ≡ key
  pub short : length (stored_code (table_at tables t) row) ≤ 4096

-- the group of a limit's columns that a row comes into has room; a row with NULL in them comes into none
abbrev pub HasRoom : ℕ → Rows → List Value → Limit → Type 0
HasRoom t rows row limit = has_null (cells limit.cols row) ≡ false
    → length (group_of t limit.cols (cells limit.cols row) rows) < limit.n

-- no row names the row of this table with this key
abbrev pub IsUnreferenced : List Table → Rows → ℕ → List Value → Type 0
IsUnreferenced tables rows t key =
    (u : ℕ) → IsTableNumber tables u → AllByRecursion
    (λ foreign. foreign.table ≡ t → group_of u foreign.cols key rows ≡ []) (table_at tables u).foreign

-- the values at a limit's columns stay, or the group that the new row comes into has room
abbrev pub MayChangeRow : ℕ → Rows → List Value → List Value → Limit → Type 0
MayChangeRow t rows old new limit = (cells limit.cols old ≡ cells limit.cols new) ⊎ HasRoom t rows new limit

-- the values at a foreign key's columns stay, or the row that they name is there
abbrev pub MayRefer : List Table → Rows → List Value → List Value → Foreign → Type 0
MayRefer tables rows old new foreign = (cells foreign.cols old ≡ cells foreign.cols new)
    ⊎ HasParent tables rows new foreign
