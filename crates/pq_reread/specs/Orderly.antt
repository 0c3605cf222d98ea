-- Tables whose names are names and lead back to them.
use Rattle.std.specs.Prelude.{◌≡◌, ℕ, ◌≤◌, ◌<◌, List, length, slice_index_or, All}
use Rattle.std.specs.List.{AllByRecursion, position_or_len}
use Rattle.std.specs.Str.{bytes_eq}
use Rattle.pq_schema.specs.declared.table.Column.{Column}
use Rattle.pq_schema.specs.declared.table.Table.{Table}
use Rattle.pq_schema.specs.Names.{IsName}

-- the first that has the name of an element is this element
abbrev pub AreNamedApart : {X : Type 0} → (X → List ℕ) → List X → Type 0
AreNamedApart {X} name xs = (i : ℕ) (d : X) → i < length xs
    → position_or_len (λ x. bytes_eq (name x) (name (slice_index_or xs i d))) xs ≡ i

-- its columns have names, all different, and its key has one to four of them
pub record IsOrderly (table : Table) : Type 0 where
  pub name : IsName table.name
  pub columns : AllByRecursion (λ (column : Column). IsName column.name) table.columns
  pub apart : AreNamedApart (λ (column : Column). column.name) table.columns
  pub some_key : 0 < length table.key
  pub short_key : length table.key ≤ 4
  pub key : AllByRecursion (λ col. col < length table.columns) table.key

-- and the names of the tables are all different
pub record AreOrderly (tables : List Table) : Type 0 where
  pub each : All IsOrderly tables
  pub apart : AreNamedApart (λ (table : Table). table.name) tables
