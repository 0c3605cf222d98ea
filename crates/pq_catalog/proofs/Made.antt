-- What valid schemas have: their tables are made over one another, and they are small.
use Rattle.std.proofs.Common.{◌≡◌, ℕ, ◌<◌, ◌≤◌, List, [], ◌∷◌, map, length, Ok}
use Rattle.std.specs.Prelude.{All}
use Rattle.std.specs.List.{AllByRecursion}
use Rattle.pq_base.specs.declared.value.ColType.{ColType}
use Rattle.pq_base.specs.Values.{IsType}
use Rattle.pq_content.specs.Tables.{IsTableNumber, types_of}
use Rattle.pq_schema.proofs.TypeKinds.{type_sized}
use Rattle.pq_schema.specs.declared.table.Column.{Column}
use Rattle.pq_schema.specs.declared.definition.TableDef.{TableDef}
use Rattle.pq_schema.specs.declared.table.Table.{Table}
use Rattle.pq_schema.specs.Definitions.{new_table}
use Rattle.pq_schema.specs.Schema.{Schema}
use Rattle.pq_schema.specs.Sound.{AreMade, IsSized}
use Rattle.pq_schema.specs.Tables.{table_at}
use Rattle.pq_schema.specs.Valid.{IsValid}
use Rattle.pq_schema.proofs.Accepted.{made_none, room}
use Rattle.pq_schema.proofs.Valid.{valid_made, valid_small}
use Rattle.pq_planning.proofs.Lists.{each_by, each_is}

pub made_of : (schema : Schema) → IsValid schema → AreMade schema.tables
made_of schema valid = valid_made valid

pub small_of : (schema : Schema) → IsValid schema → length schema.definitions ≤ 256
small_of schema valid = (valid_small valid).definitions

pub made_room : (schema : Schema) (def : TableDef) (table : Table) → new_table schema def ≡ Ok table → length schema.definitions < 256
made_room schema def table made = room schema def (made_none schema def table made)

-- ---- the types of columns

is_type : (ty : ColType) → IsSized ty → IsType ty
is_type = type_sized

are_types : (columns : List Column) → AllByRecursion (λ (column : Column). IsSized column.ty) columns → AllByRecursion IsType (map (λ (column : Column). column.ty) columns)
are_types [] h = tt
are_types (c ∷ cs) h = (is_type c.ty h.0, are_types cs h.1)

pub types_at : (schema : Schema) (t : ℕ) → IsValid schema → IsTableNumber schema.tables t → All IsType (types_of (table_at schema.tables t))
types_at schema t valid number =
    let table = table_at schema.tables t in
    each_is IsType (types_of table) (are_types table.columns (each_by (λ (column : Column). IsSized column.ty) table.columns (made_of schema valid t number.0 number.1).sized))
