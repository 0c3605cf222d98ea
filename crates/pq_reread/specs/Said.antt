-- A table and a counter say what their definitions say, with places and numbers where those have names.
use Rattle.std.specs.Prelude.{◌≡◌, ℕ, pos, true, ◌^◌, ◌<◌, ◌≤◌, List, [], ◌∷◌, length}
use Rattle.pq_base.specs.Values.{FitsType}
use Rattle.pq_schema.specs.declared.definition.AlterDef.{AlterDef}
use Rattle.pq_schema.specs.declared.counter.Counter.{Counter}
use Rattle.pq_schema.specs.declared.definition.ColumnDef.{ColumnDef}
use Rattle.pq_schema.specs.declared.definition.CounterDef.{CounterDef}
use Rattle.pq_schema.specs.declared.definition.LimitDef.{LimitDef}
use Rattle.pq_schema.specs.declared.definition.ForeignDef.{ForeignDef}
use Rattle.pq_schema.specs.declared.definition.TableDef.{TableDef}
use Rattle.pq_schema.specs.declared.table.Column.{Column}
use Rattle.pq_schema.specs.declared.table.Limit.{Limit}
use Rattle.pq_schema.specs.declared.table.Foreign.{Foreign}
use Rattle.pq_schema.specs.declared.table.Table.{Table}
use Rattle.pq_schema.specs.Definitions.{has_type, column_of}
use Rattle.pq_schema.specs.Tables.{table_at}
use Rattle.pq_print.specs.Canonical.{column_at, column_name, filler_at}

-- as many of both, and each stands so to the one at its place
abbrev pub Pairwise : {X Y : Type 0} → (X → Y → Type 0) → List X → List Y → Type 0
Pairwise R [] [] = Unit {0}
Pairwise R [] (y ∷ ys) = ⊥
Pairwise R (x ∷ xs) [] = ⊥
Pairwise R (x ∷ xs) (y ∷ ys) = R x y × Pairwise R xs ys

pub record SaysColumn (def : ColumnDef) (said : Column) : Type 0 where
  pub typed : has_type def ≡ true
  pub column : said ≡ column_of def

-- the columns at these places have these names
pub record SaysColumns (columns : List Column) (said : List (List ℕ)) (cols : List ℕ) : Type 0 where
  pub some : 0 < length said
  pub names : Pairwise (λ name col. column_name columns col ≡ name) said cols

pub record SaysLimit (columns : List Column) (def : LimitDef) (limit : Limit) : Type 0 where
  pub n : def.n ≡ pos limit.n
  pub small : limit.n < 2 ^ 63
  pub cols : SaysColumns columns def.cols limit.cols

pub record SaysForeign (tables : List Table) (columns : List Column) (def : ForeignDef) (foreign : Foreign) :
    Type 0 where
  pub cols : SaysColumns columns def.cols foreign.cols
  pub table : (table_at tables foreign.table).name ≡ def.table

pub record Says (tables : List Table) (def : TableDef) (table : Table) : Type 0 where
  pub name : table.name ≡ def.name
  pub some : 0 < length def.columns
  pub columns : Pairwise SaysColumn def.columns table.columns
  pub key : SaysColumns table.columns def.key table.key
  pub limits : Pairwise (SaysLimit table.columns) def.limits table.limits
  pub foreign : Pairwise (SaysForeign tables table.columns) def.foreign table.foreign

-- the column at this place of the table, with its default, says what the definition says
pub record SaysAdded (def : AlterDef) (table : Table) (col : ℕ) : Type 0 where
  pub name : table.name ≡ def.table
  pub column : SaysColumn def.column (column_at table.columns col)
  pub filler : filler_at table.fillers col ≡ def.filler
  pub fits : FitsType (column_of def.column).ty def.filler

-- the counter, of the table with this name and of some of its columns, at most four
pub record SaysCounter (tables : List Table) (def : CounterDef) (counter : Counter) : Type 0 where
  pub name : counter.name ≡ def.name
  pub table : (table_at tables counter.table).name ≡ def.table
  pub cols : SaysColumns (table_at tables counter.table).columns def.cols counter.cols
  pub few : length counter.cols ≤ 4
