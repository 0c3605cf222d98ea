-- What every table is over which writes are planned, and what a write has that is planned.
use Rattle.std.specs.Prelude.{◌≡◌, ℕ, ◌≤◌, ◌<◌, Bool, false, ◌==◌, List, count_ones, length, All, FitsSigned}
use Rattle.std.specs.Int.{w64}
use Rattle.std.specs.List.{AllByRecursion, list_any}
use Rattle.pq_base.specs.Columns.{set_of}
use Rattle.pq_base.specs.declared.value.Value.{Value}
use Rattle.pq_base.specs.Values.{FitsType, AllFit, kind_of_type}
use Rattle.pq_base.specs.declared.value.ColType.{ColType}
use Rattle.pq_base.specs.declared.value.DataKind.TheVariants as kind
use Rattle.pq_schema.specs.declared.table.Foreign.{Foreign}
use Rattle.pq_schema.specs.declared.table.Index.{Index}
use Rattle.pq_schema.specs.declared.table.Table.{Table}
use Rattle.pq_schema.specs.Resolved.{param_type, IsConstant}
use Rattle.pq_schema.specs.Sound.{IsMade}
use Rattle.pq_schema.specs.Tables.{table_at}
use Rattle.pq_content.specs.Tables.{IsTableNumber, AllOfKinds, types_of, type_at, types_at, key_types, stored_code}
use Rattle.pq_def_read.specs.declared.write.Setting.{Setting}
use Rattle.pq_def_read.specs.declared.write.Setting.TheVariants as setting
use Rattle.pq_index_keep.specs.declared.write.Cond.{Cond}
use Rattle.pq_index_keep.specs.declared.write.SetCol.{SetCol}
use Rattle.pq_index_keep.specs.declared.write.Write.{Write}
use Rattle.pq_index_keep.specs.declared.write.Write.TheVariants as write

-- whether a column is among some columns
abbrev pub is_among : List ℕ → ℕ → Bool
is_among cols col = list_any (λ other. other == col) cols

-- values of a key that the columns of a foreign key may have, where it refers to the key's table
pub record IsKeyFor (table : Table) (key : List Value) (foreign : Foreign) : Type 0 where
  pub different : count_ones (set_of foreign.cols) ≡ length foreign.cols
  pub kinds : AllOfKinds (types_at table.columns foreign.cols) key

abbrev pub MayName : Table → ℕ → List Value → Foreign → Type 0
MayName table t key foreign = foreign.table ≡ t → IsKeyFor table key foreign

-- a table of a schema, whose indexes have few columns
pub record IsWritable (tables : List Table) (table : Table) : Type 0 where
  pub number : ℕ
  pub made : IsMade tables number table
  pub narrow : All (λ (index : Index). length index.cols ≤ 36) table.indexes

abbrev pub AreWritable : List Table → Type 0
AreWritable tables = All (IsWritable tables) tables

-- a value that fits a type, or a number of 64 bits that is added to numbers
abbrev pub FitsSetting : ColType → Setting → Type 0
FitsSetting ty (setting.Is value) = FitsType ty value
FitsSetting ty (setting.Add number) = (kind_of_type ty ≡ kind.Int) × FitsSigned w64 number

-- a column that is none of the key is set to what fits it
pub record IsSet (table : Table) (set : SetCol) : Type 0 where
  pub inside : set.col < length table.columns
  pub fits : FitsSetting (type_at table.columns set.col) set.to
  pub other : is_among table.key set.col ≡ false

-- a condition on a column of the table, by a value of its kind
pub record IsCond (table : Table) (cond : Cond) : Type 0 where
  pub inside : cond.col < length table.columns
  pub constant : IsConstant cond.op (param_type (type_at table.columns cond.col)) cond.value

abbrev pub AreConds : Table → List Cond → Type 0
AreConds table conds = (length conds ≤ 16) × AllByRecursion (IsCond table) conds

-- an INSERT of a row that fits its table and is short
pub record IsInsert (tables : List Table) (t : ℕ) (row : List Value) : Type 0 where
  pub number : IsTableNumber tables t
  pub fits : AllFit (types_of (table_at tables t)) row
  pub short : length (stored_code (table_at tables t) row) ≤ 4096

-- an UPDATE by a key that fits, of columns that are none of the key
pub record IsUpdate (tables : List Table) (t : ℕ) (key : List Value) (sets : List SetCol) (conds : List Cond) :
    Type 0 where
  pub number : IsTableNumber tables t
  pub fits : AllFit (key_types (table_at tables t)) key
  pub each : AllByRecursion (IsSet (table_at tables t)) sets
  pub tested : AreConds (table_at tables t) conds

-- a DELETE by a key that fits
pub record IsDelete (tables : List Table) (t : ℕ) (key : List Value) (conds : List Cond) : Type 0 where
  pub number : IsTableNumber tables t
  pub fits : AllFit (key_types (table_at tables t)) key
  pub tested : AreConds (table_at tables t) conds

-- a write that reading gives
abbrev pub IsWrite : List Table → Write → Type 0
IsWrite tables (write.Insert t row) = IsInsert tables t row
IsWrite tables (write.Update t key sets conds) = IsUpdate tables t key sets conds
IsWrite tables (write.Delete t key conds) = IsDelete tables t key conds
