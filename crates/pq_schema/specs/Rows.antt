-- Rows of tables: their values at columns, how they are found, and when they keep their definitions.
use Rattle.std.specs.Prelude.{◌≡◌, ℕ, ◌≤◌, Bool, false, ◌==◌, ◌&&◌, if◌then◌else◌, List, [], ◌∷◌, map, filter, length, Option, IsSome}
use Rattle.std.specs.List.{AllByRecursion}
use Rattle.std.specs.List as lists
use Rattle.std.specs.Ordering.{is_eq}
use Rattle.std.specs.Cmp.Lexicographic.{pointwise}
use Rattle.pq_base.specs.declared.value.Value.{Value}
use Rattle.pq_base.specs.declared.value.ColType.{ColType}
pub use Rattle.pq_base.specs.Cells.{no_value, value_of}
use Rattle.pq_base.specs.Order.{value_cmp}
use Rattle.pq_base.specs.Shapes.{RowShape, row_shape}
use Rattle.pq_base.specs.Values.{AllFit, has_null}
use Rattle.pq_schema.specs.declared.table.Foreign.{Foreign}
use Rattle.pq_schema.specs.declared.table.Limit.{Limit}
use Rattle.pq_schema.specs.declared.table.Table.{Table}
use Rattle.pq_schema.specs.Tables.{table_at}

-- each row after the number of its table, from 1
abbrev pub Rows : Type 0
Rows = List (ℕ × List Value)

-- the rows of one table
abbrev pub rows_of : ℕ → Rows → List (List Value)
rows_of t [] = []
rows_of t (e ∷ es) = if e.0 == t then e.1 ∷ rows_of t es else rows_of t es

-- the values of a row at some columns
abbrev pub cells : List ℕ → List Value → List Value
cells cols row = map (value_of row) cols

abbrev pub types_of : Table → List ColType
types_of table = map (λ column. column.ty) table.columns

abbrev pub shape_of : Table → RowShape
shape_of table = row_shape (types_of table) table.fillers

abbrev pub key_of : Table → List Value → List Value
key_of table row = cells table.key row

-- equal values, and equal lists of values
abbrev pub same_value : Value → Value → Bool
same_value x y = is_eq (value_cmp x y)

abbrev pub same_values : List Value → List Value → Bool
same_values = pointwise same_value

-- whether a row has these values at these columns
abbrev pub agrees : List ℕ → List Value → List Value → Bool
agrees cols values row = same_values (cells cols row) values

-- whether it is a row of this table with this key
abbrev pub has_key : List Table → ℕ → List Value → ℕ × List Value → Bool
has_key tables t key e = e.0 == t && agrees (table_at tables t).key key e.1

-- the row of a table with this key
abbrev pub row_at : List Table → Rows → ℕ → List Value → Option (List Value)
row_at tables rows t key = lists.find (agrees (table_at tables t).key key) (rows_of t rows)

-- the rows of a table with these values at these columns
abbrev pub group_of : ℕ → List ℕ → List Value → Rows → List (List Value)
group_of t cols values rows = filter (agrees cols values) (rows_of t rows)

-- a number of a table
abbrev pub IsTableNumber : List Table → ℕ → Type 0
IsTableNumber tables t = (1 ≤ t) × (t ≤ length tables)

-- no two rows of a table have one key
abbrev pub AreApart : List Table → Rows → Type 0
AreApart tables [] = Unit {0}
AreApart tables (e ∷ es) =
    AllByRecursion (λ f. has_key tables e.0 (key_of (table_at tables e.0) e.1) f ≡ false) es × AreApart tables es

-- at most n rows of the table without NULL in the limit's columns agree on them
abbrev pub IsWithinLimit : ℕ → Rows → Limit → Type 0
IsWithinLimit t rows limit =
    (values : List Value) → has_null values ≡ false → length (group_of t limit.cols values rows) ≤ limit.n

-- the row that the foreign key names is there, unless the row has NULL in its columns
abbrev pub HasParent : List Table → Rows → List Value → Foreign → Type 0
HasParent tables rows row foreign = has_null (cells foreign.cols row) ≡ false
    → IsSome (row_at tables rows foreign.table (cells foreign.cols row))

-- the rows keep the definitions of their tables
pub record KeepsSchema (tables : List Table) (rows : Rows) : Type 0 where
  pub known : AllByRecursion (λ e. IsTableNumber tables e.0) rows
  pub fit : AllByRecursion (λ e. AllFit (types_of (table_at tables e.0)) e.1) rows
  pub apart : AreApart tables rows
  pub limits : (t : ℕ) → IsTableNumber tables t → AllByRecursion (IsWithinLimit t rows) (table_at tables t).limits
  pub foreign : AllByRecursion (λ e. AllByRecursion (HasParent tables rows e.1) (table_at tables e.0).foreign) rows
