-- What shows that a content is damaged: a key, and the value that a call answered for it.
use Rattle.std.specs.Prelude.{◌≡◌, ◌≢◌, ℕ, List, [], ◌++◌, Option, Some, None, IfSome}
use Rattle.std.specs.FinMap.{get}
use Rattle.pq_base.specs.declared.value.Value.{Value}
use Rattle.pq_base.specs.Shapes.{RowShape}
use Rattle.pq_base.specs.Values.{AllFit}
use Rattle.pq_key_code.specs.KeyCode.{row_key}
use Rattle.pq_row_code.specs.StoredRow.{code_as, IsNoRowCode}
use Rattle.pq_schema.specs.declared.table.Access.{Access}
use Rattle.pq_schema.specs.declared.table.Access.TheVariants.{Secondary}
use Rattle.pq_schema.specs.declared.table.Table.{Table}
use Rattle.pq_schema.specs.Keys.{AllOfKinds, key_types}
use Rattle.pq_schema.specs.Rows.{IsTableNumber, shape_of}
use Rattle.pq_schema.specs.Sequences.{IsAccess}
use Rattle.pq_schema.specs.Tables.{table_at}
use Rattle.pq_store.specs.Content.{Content}
use Rattle.pq_store.specs.declared.damage.Broke.{Broke}
use Rattle.pq_store.specs.declared.damage.Broke.TheVariants as broke
use Rattle.pq_store.specs.declared.damage.Damage.{Damage}
use Rattle.pq_calls.specs.Keys.{sequence_key, sequence_types, named_key}

-- no value, and no row; or a row that fits and has the value as its code
abbrev pub IsRead : RowShape → Option (List ℕ) → Option (List Value) → Type 0
IsRead shape None None = Unit {0}
IsRead shape None (Some row) = ⊥
IsRead shape (Some code) None = ⊥
IsRead shape (Some code) (Some row) = AllFit shape.types row × (code_as shape row ≡ code)

-- the value of this key, which is told as damage, is the code of no row that fits
abbrev pub IsUnreadRow : RowShape → List ℕ → List ℕ → Broke → Type 0
IsUnreadRow shape key code broke.Failed = ⊥
IsUnreadRow shape key code broke.NoMem = Unit {0}
IsUnreadRow shape key code (broke.Damaged damage) = (damage.key ≡ key) × (damage.value ≡ Some code) × IsNoRowCode shape code

-- the value at this key is the code of no row that fits
pub record IsNoRowAt (shape : RowShape) (key : List ℕ) (told : Option Content) (damage : Damage) : Type 0 where
  pub code : List ℕ
  pub at : damage.key ≡ key
  pub has : damage.value ≡ Some code
  pub no_row : IsNoRowCode shape code
  pub there : IfSome told (λ content. get content key ≡ Some code)

-- the value at the key of a row is the code of no row of its table
pub record IsNoRow (tables : List Table) (content : Content) (damage : Damage) : Type 0 where
  pub table : ℕ
  pub key : List Value
  pub number : IsTableNumber tables table
  pub kinds : AllOfKinds (key_types (table_at tables table)) key
  pub shown : IsNoRowAt (shape_of (table_at tables table)) (row_key table key) (Some content) damage

-- the row that an entry names is not there
pub record IsMissingRow (tables : List Table) (content : Content) (damage : Damage) : Type 0 where
  pub table : ℕ
  pub index : ℕ
  pub values : List Value
  pub entry : List ℕ
  pub number : IsTableNumber tables table
  pub access : IsAccess (table_at tables table) (Secondary index)
  pub fits : AllFit (sequence_types (table_at tables table) (Secondary index)) values
  pub there : get content (sequence_key table (table_at tables table) (Secondary index) values) ≡ Some entry
  pub at : damage.key ≡ row_key table (named_key (table_at tables table) (Secondary index) values)
  pub has : damage.value ≡ None
  pub absent : get content damage.key ≡ None

-- a key among those of a table's rows, or of an index's entries, is the code of no values that fit
pub record IsNoKey (tables : List Table) (content : Content) (damage : Damage) : Type 0 where
  pub table : ℕ
  pub access : Access
  pub rest : List ℕ
  pub value : List ℕ
  pub number : IsTableNumber tables table
  pub is_access : IsAccess (table_at tables table) access
  pub at : damage.key ≡ sequence_key table (table_at tables table) access [] ++ rest
  pub has : damage.value ≡ Some value
  pub there : get content damage.key ≡ Some value
  pub no_values : (values : List Value) → AllFit (sequence_types (table_at tables table) access) values
      → sequence_key table (table_at tables table) access values ≢ damage.key
