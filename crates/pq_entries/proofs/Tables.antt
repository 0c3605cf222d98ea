-- Tables of a catalog by their numbers.
use Rattle.std.proofs.Common.{List, [], ◌∷◌, ℕ, map}
use Rattle.std.specs.Prelude.{All}
use Rattle.std.specs.List.{AllByRecursion}
use Rattle.std.proofs.lemmas.List.Elements.{recursion_from_All, All-from_recursion}
use Rattle.pq_base.specs.Values.{IsType}
use Rattle.pq_base.specs.declared.value.ColType.{ColType}
use Rattle.pq_schema.specs.declared.table.Column.{Column}
use Rattle.pq_schema.specs.declared.table.Access.{Access}
use Rattle.pq_schema.specs.Schema.{Schema}
use Rattle.pq_schema.specs.Rows.{types_of}
use Rattle.pq_schema.proofs.TypeKinds.{type_sized}
use Rattle.pq_schema.specs.Sound.{IsTable, IsSized}
use Rattle.pq_schema.specs.Tables.{table_at}
use Rattle.pq_schema.specs.Valid.{IsValid}
use Rattle.pq_schema.proofs.Soundness.{table_made}
use Rattle.pq_schema.proofs.Valid.{valid_made}
use Rattle.pq_entries.specs.Entries.{IsSequence}

pub sequence_table : (s : Schema) (t : ℕ) (access : Access) → IsValid s → IsSequence s.tables t access → IsTable (table_at s.tables t)
sequence_table s t access valid is = table_made s.tables t (table_at s.tables t) (valid_made valid t is.number.0 is.number.1)

-- the types of a table of a catalog are of 16 bits
pub sequence_types_known : (s : Schema) (t : ℕ) (access : Access) → IsValid s → IsSequence s.tables t access → All IsType (types_of (table_at s.tables t))
sequence_types_known s t access valid is =
    let table = table_at s.tables t in
    All-from_recursion IsType (types_of table) (each table.columns (recursion_from_All (λ (column : Column). IsSized column.ty) table.columns (valid_made valid t is.number.0 is.number.1).sized))
  where
    one : (ty : ColType) → IsSized ty → IsType ty
    one = type_sized

    each : (columns : List Column) → AllByRecursion (λ (column : Column). IsSized column.ty) columns → AllByRecursion IsType (map (λ (column : Column). column.ty) columns)
    each [] h = tt
    each (column ∷ columns) h = (one column.ty h.0, each columns h.1)
