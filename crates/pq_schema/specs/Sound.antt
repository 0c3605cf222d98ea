-- What every table and query has.
use Rattle.std.specs.Prelude.{◌≡◌, ℕ, ◌<◌, ◌≤◌, All, IsSome, IfSome, count_ones, length, List, [], ◌∷◌, Option, true, false}
use Rattle.pq_base.specs.declared.value.ColType.{ColType}
use Rattle.pq_base.specs.declared.value.ColType.TheVariants as type
use Rattle.pq_base.specs.declared.value.Value.{Value}
use Rattle.pq_schema.specs.declared.table.Column.{Column}
use Rattle.pq_schema.specs.declared.table.Foreign.{Foreign}
use Rattle.pq_schema.specs.declared.query.ColRef.{ColRef}
use Rattle.pq_schema.specs.declared.query.Operand.{Operand}
use Rattle.pq_schema.specs.declared.query.Operand.TheVariants as operand
use Rattle.pq_schema.specs.declared.query.Pred.{Pred}
use Rattle.pq_base.specs.Columns.{set_of}
use Rattle.pq_schema.specs.Sequences.{group_access}
use Rattle.pq_base.specs.Values.{FitsType, is_nullable}
use Rattle.pq_schema.specs.Tables.{table_at, type_at, types_at, same_kinds}
use Rattle.pq_schema.specs.Candidates.{stop_size}
use Rattle.pq_schema.specs.declared.table.Limit.{Limit}
use Rattle.pq_schema.specs.declared.table.Table.{Table}
use Rattle.pq_schema.specs.declared.query.Query.{Query}
use Rattle.pq_schema.specs.declared.table.KeyPart.{KeyPart}

-- columns from 0 to 31
abbrev pub AreColumns : List ℕ → Type 0
AreColumns cols = All (λ col. col < 32) cols

abbrev pub AreParts : List KeyPart → Type 0
AreParts parts = All (λ part. part.col < 32) parts

pub record IsTable (table : Table) : Type 0 where
  pub key : AreColumns table.key
  pub short : length table.key ≤ 4
  pub limits : All (λ limit. AreColumns limit.cols) table.limits
  pub sizes : All (λ limit. limit.n ≤ 10000) table.limits
  pub few : length table.limits ≤ 4
  pub indexes : All (λ index. AreParts index.cols) table.indexes
  pub few_indexes : length table.indexes ≤ 16
  pub few_columns : length table.columns ≤ 32

-- a table as it is before it gets indexes for its limits and foreign keys
pub record IsBare (table : Table) : Type 0 where
  pub sound : IsTable table
  pub foreign : All (λ foreign. AreColumns foreign.cols) table.foreign
  pub few_foreign : length table.foreign ≤ 4
  pub indexes : table.indexes ≡ []

-- a query's predicates and order name columns
pub record AreRefs (query : Query) : Type 0 where
  pub preds : All (λ pred. pred.left.col < 32) query.preds
  pub order : All (λ item. item.col.col < 32) query.order
  pub few : length query.order ≤ 4

-- a foreign key has as many columns as the key that it names, and they are columns of its own table
pub record IsForeign (tables : List Table) (table : Table) (foreign : Foreign) : Type 0 where
  pub long : length foreign.cols ≡ length (table_at tables foreign.table).key
  pub inside : All (λ col. col < length table.columns) foreign.cols

-- the key and the foreign keys of a table have columns that are there, and for each limit and each foreign key
-- a sequence begins with its columns
pub record IsLinked (tables : List Table) (table : Table) : Type 0 where
  pub key : All (λ col. col < length table.columns) table.key
  pub foreign : All (IsForeign tables table) table.foreign
  pub limit_groups : All (λ limit. IsSome (group_access table (set_of limit.cols))) table.limits
  pub foreign_groups : All (λ foreign. IsSome (group_access table (set_of foreign.cols))) table.foreign

-- n of TEXT(n) is from 1 to 1,000
abbrev pub IsSized : ColType → Type 0
IsSized type.Int = Unit {0}
IsSized type.Bool = Unit {0}
IsSized (type.Text n) = (1 ≤ n) × (n ≤ 1000)
IsSized type.NullInt = Unit {0}
IsSized type.NullBool = Unit {0}
IsSized (type.NullText n) = (1 ≤ n) × (n ≤ 1000)

-- 1 to 4 different columns of so many
pub record AreKeyColumns (width : ℕ) (cols : List ℕ) : Type 0 where
  pub some : 1 ≤ length cols
  pub few : length cols ≤ 4
  pub inside : All (λ col. col < width) cols
  pub different : count_ones (set_of cols) ≡ length cols

-- n is from 1 to 10,000
pub record IsMadeLimit (width : ℕ) (limit : Limit) : Type 0 where
  pub cols : AreKeyColumns width limit.cols
  pub from_one : 1 ≤ limit.n
  pub most : limit.n ≤ 10000

-- different columns, of the number and kinds of the key of a table below this number
pub record IsMadeForeign (tables : List Table) (number : ℕ) (columns : List Column) (foreign : Foreign) : Type 0 where
  pub inside : All (λ col. col < length columns) foreign.cols
  pub different : count_ones (set_of foreign.cols) ≡ length foreign.cols
  pub from_one : 1 ≤ foreign.table
  pub earlier : foreign.table < number
  pub shape : same_kinds (types_at columns foreign.cols)
      (types_at (table_at tables foreign.table).columns (table_at tables foreign.table).key) ≡ true

-- each default fits its column
abbrev pub AreDefaults : List Column → List (Option Value) → Type 0
AreDefaults [] [] = Unit {0}
AreDefaults (column ∷ columns) (filler ∷ fillers) = IfSome filler (FitsType column.ty) × AreDefaults columns fillers
AreDefaults _ _ = ⊥

-- the table of this number of a schema
pub record IsMade (tables : List Table) (number : ℕ) (table : Table) : Type 0 where
  pub some_columns : 1 ≤ length table.columns
  pub few_columns : length table.columns ≤ 32
  pub sized : All (λ column. IsSized column.ty) table.columns
  pub fillers : AreDefaults table.columns table.fillers
  pub key : AreKeyColumns (length table.columns) table.key
  pub plain : All (λ col. is_nullable (type_at table.columns col) ≡ false) table.key
  pub few_limits : length table.limits ≤ 4
  pub limits : All (IsMadeLimit (length table.columns)) table.limits
  pub few_foreign : length table.foreign ≤ 4
  pub foreign : All (IsMadeForeign tables number table.columns) table.foreign
  pub few_indexes : length table.indexes ≤ 16
  pub indexes : All (λ index. All (λ part. part.col < length table.columns) index.cols) table.indexes
  pub limit_groups : All (λ limit. IsSome (group_access table (set_of limit.cols))) table.limits
  pub foreign_groups : All (λ foreign. IsSome (group_access table (set_of foreign.cols))) table.foreign

-- each table is made over the tables before it
abbrev pub AreMade : List Table → Type 0
AreMade tables = (number : ℕ) → 1 ≤ number → number ≤ length tables → IsMade tables number (table_at tables number)

-- the column is of one of so many relations
abbrev pub IsNamed : ℕ → ColRef → Type 0
IsNamed count col = (1 ≤ col.rel) × (col.rel ≤ count)

abbrev pub IsNamedSide : ℕ → Operand → Type 0
IsNamedSide count (operand.Col col) = IsNamed count col
IsNamedSide count (operand.Const value) = Unit {0}
IsNamedSide count (operand.Param number) = Unit {0}

abbrev pub IsNamedPred : ℕ → Pred → Type 0
IsNamedPred count pred = IsNamed count pred.left × IsNamedSide count pred.right

-- a query over the tables
pub record IsQuery (tables : List Table) (query : Query) : Type 0 where
  pub each : All IsTable tables
  pub relations : All (λ relation. (1 ≤ relation.table) × (relation.table ≤ length tables)) query.relations
  pub few_relations : length query.relations ≤ 6
  pub refs : AreRefs query
  pub linked : All (IsLinked tables) tables
  pub named : All (IsNamedPred (length query.relations)) query.preds
  pub stop : IfSome (stop_size query.stop) (λ k. (1 ≤ k) × (k ≤ 1000))
