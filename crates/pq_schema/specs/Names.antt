-- Names in small letters, and the definitions of tables whose words are names and kinds.
use Rattle.std.specs.Prelude.{◌≡◌, ◌⊎◌, ℕ, ℤ, pos, Bool, true, false, not, ◌==◌, ◌&&◌, ◌||◌, nat_le, All, List, [], ◌∷◌, map, length, codes}
use Rattle.std.specs.Char.{is_ascii_digit, is_ascii_lowercase}
use Rattle.std.specs.Str.{bytes_eq}
use Rattle.std.specs.List.{list_any, list_all}
use Rattle.pq_base.specs.Words.{uppercase_byte, keywords}
use Rattle.pq_schema.specs.declared.definition.AlterDef.{AlterDef}
use Rattle.pq_schema.specs.declared.definition.ColumnDef.{ColumnDef}
use Rattle.pq_schema.specs.declared.definition.CounterDef.{CounterDef}
use Rattle.pq_schema.specs.declared.definition.LimitDef.{LimitDef}
use Rattle.pq_schema.specs.declared.definition.ForeignDef.{ForeignDef}
use Rattle.pq_schema.specs.declared.definition.TableDef.{TableDef}

-- a small letter or `_`
abbrev pub is_small_letter : ℕ → Bool
is_small_letter b = b == 95 || is_ascii_lowercase b

abbrev pub is_name_byte : ℕ → Bool
is_name_byte b = is_small_letter b || is_ascii_digit b

-- small letters and digits, the first a letter
abbrev pub is_word : List ℕ → Bool
is_word [] = false
is_word (b ∷ bs) = is_small_letter b && list_all is_name_byte bs

-- a keyword in any letter case
abbrev pub is_keyword : List ℕ → Bool
is_keyword name = list_any (bytes_eq (map uppercase_byte name)) keywords

-- a word of at most 32 bytes that is no keyword
unfoldable pub is_name : List ℕ → Bool
is_name name = is_word name && nat_le (length name) 32 && not (is_keyword name)

abbrev pub IsName : List ℕ → Type 0
IsName name = is_name name ≡ true

-- INT and BOOL have size 0, TEXT any
abbrev pub IsKind : List ℕ → ℤ → Type 0
IsKind kind size = ((kind ≡ codes "INT") × (size ≡ pos 0))
    ⊎ (((kind ≡ codes "BOOL") × (size ≡ pos 0)) ⊎ (kind ≡ codes "TEXT"))

pub record IsColumnDef (column : ColumnDef) : Type 0 where
  pub name : IsName column.name
  pub kind : IsKind column.kind column.size

abbrev pub IsLimitDef : LimitDef → Type 0
IsLimitDef limit = All IsName limit.cols

pub record IsForeignDef (foreign : ForeignDef) : Type 0 where
  pub cols : All IsName foreign.cols
  pub table : IsName foreign.table

-- a definition as statements spell it
pub record IsTableDef (def : TableDef) : Type 0 where
  pub name : IsName def.name
  pub columns : All IsColumnDef def.columns
  pub key : All IsName def.key
  pub limits : All IsLimitDef def.limits
  pub foreign : All IsForeignDef def.foreign

-- and one of an added column
pub record IsAlterDef (def : AlterDef) : Type 0 where
  pub table : IsName def.table
  pub column : IsColumnDef def.column

-- and one of a counter
pub record IsCounterDef (def : CounterDef) : Type 0 where
  pub name : IsName def.name
  pub table : IsName def.table
  pub cols : All IsName def.cols
