-- Catalogs that later definitions made grow, and what stays of a query that was defined.
use Rattle.std.specs.Prelude.{◌≡◌, ℕ, ◌<◌, ◌≤◌, All, List, ◌++◌, length, Option, None, Ok}
use Rattle.pq_base.specs.declared.value.Value.{Value}
use Rattle.pq_schema.specs.declared.query.Query.{Query}
use Rattle.pq_schema.specs.declared.table.Column.{Column}
use Rattle.pq_schema.specs.declared.table.Index.{Index}
use Rattle.pq_schema.specs.declared.table.NewIndex.{NewIndex}
use Rattle.pq_schema.specs.declared.table.Table.{Table}
use Rattle.pq_schema.specs.Schema.{Schema, with_wanted}
use Rattle.pq_schema.specs.Tables.{table_at}
use Rattle.pq_schema.specs.Valid.{IsValid, IsDefined}
use Rattle.pq_schema.specs.Wanted.{chosen_candidate}

-- the table with these behind what it has
abbrev pub with_more : Table → List Column → List (Option Value) → List Index → Table
with_more table columns fillers indexes = record table {
  columns = table.columns ++ columns;
  fillers = table.fillers ++ fillers;
  indexes = table.indexes ++ indexes;
}

-- its foreign keys are of columns that it has
abbrev pub AreOwnForeign : Table → Type 0
AreOwnForeign table = All (λ foreign. All (λ col. col < length table.columns) foreign.cols) table.foreign

-- more columns, each with its default, and more indexes stand behind those that it had
pub record HasGrown (before now : Table) : Type 0 where
  pub columns : List Column
  pub fillers : List (Option Value)
  pub indexes : List Index
  pub is : now ≡ with_more before columns fillers indexes
  pub own : AreOwnForeign before

-- each table stands where it stood
pub record HaveGrown (before now : List Table) : Type 0 where
  pub long : length before ≤ length now
  pub each : (number : ℕ) → 1 ≤ number → number ≤ length before →
      HasGrown (table_at before number) (table_at now number)

-- the query was defined over a catalog before, which with its index has grown to these tables
pub record WasDefined (tables : List Table) (query : Query) : Type 0 where
  pub before : Schema
  pub wanted : Option NewIndex
  pub valid : IsValid before
  pub defined : IsDefined before query wanted
  pub grown : HaveGrown (with_wanted before.tables wanted) tables

-- the least candidate is that of its definition, and wants no index
pub record IsStillChosen (schema : Schema) (query : Query) : Type 0 where
  pub was : WasDefined schema.tables query
  pub chosen : chosen_candidate schema.tables query ≡ Ok (record { best = was.defined.chosen.best; wanted = None })
