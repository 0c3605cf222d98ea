-- Valid schemas: each definition is accepted over the ones before it.
use Rattle.std.specs.Prelude.{◌≡◌, Option, Ok}
use Rattle.pq_base.specs.Values.{FitsType}
use Rattle.pq_schema.specs.declared.definition.AlterDef.{AlterDef}
use Rattle.pq_schema.specs.declared.definition.CounterDef.{CounterDef}
use Rattle.pq_schema.specs.declared.definition.TableDef.{TableDef}
use Rattle.pq_schema.specs.declared.query.Query.{Query}
use Rattle.pq_schema.specs.declared.table.NewIndex.{NewIndex}
use Rattle.pq_schema.specs.declared.table.Table.{Table}
use Rattle.pq_schema.specs.Names.{IsName, IsTableDef, IsAlterDef, IsCounterDef}
use Rattle.pq_schema.specs.Schema.{Schema, IsSmall, empty_schema, with_table, with_query}
use Rattle.pq_schema.specs.Definitions.{column_of, new_table, new_query, new_column, new_counter}
use Rattle.pq_schema.specs.Resolved.{IsResolved}
use Rattle.pq_schema.specs.Wanted.{IsWanted}

-- the query may be defined over the schema, with the index that it wants
pub record IsDefined (schema : Schema) (query : Query) (wanted : Option NewIndex) : Type 0 where
  pub name : IsName query.name
  pub resolved : IsResolved schema.tables query
  pub chosen : IsWanted schema.tables query wanted
  pub accepted : new_query schema query wanted ≡ Ok (with_query schema query wanted)

-- the column may be added to the schema, which makes the next one
pub record IsAddition (schema : Schema) (def : AlterDef) (next : Schema) : Type 0 where
  pub names : IsAlterDef def
  pub fits : FitsType (column_of def.column).ty def.filler
  pub accepted : new_column schema def ≡ Ok next

-- the counter may be defined over the schema, which makes the next one
pub record IsCounted (schema : Schema) (def : CounterDef) (next : Schema) : Type 0 where
  pub names : IsCounterDef def
  pub accepted : new_counter schema def ≡ Ok next

pub data IsValid : Schema → Type 0 where
  empty : IsValid empty_schema
  then_table : (schema : Schema) (def : TableDef) (table : Table) → IsValid schema → IsTableDef def
      → new_table schema def ≡ Ok table → IsValid (with_table schema table)
  then_query : (schema : Schema) (query : Query) (wanted : Option NewIndex) → IsValid schema
      → IsDefined schema query wanted → IsValid (with_query schema query wanted)
  then_column : (schema : Schema) (def : AlterDef) (next : Schema) → IsValid schema → IsAddition schema def next
      → IsValid next
  then_counter : (schema : Schema) (def : CounterDef) (next : Schema) → IsValid schema → IsCounted schema def next
      → IsValid next

-- a valid schema, whose numbers are small
pub record IsSound (schema : Schema) : Type 0 where
  pub small : IsSmall schema
  pub valid : IsValid schema
