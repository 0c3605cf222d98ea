-- The code that a store holds for a row.
use Rattle.std.proofs.Common.{◌≡◌, List, Option, ap}
use Rattle.std.specs.Prelude.{All}
use Rattle.pq_base.specs.declared.value.Value.{Value}
use Rattle.pq_base.specs.Values.{IsType, AllFit}
use Rattle.pq_row_code.specs.RowCode.{row_code}
use Rattle.pq_row_code.specs.StoredRow.{stored_row}
use Rattle.pq_row_code.proofs.Stored.{code_as_injective}
use Rattle.pq_schema.specs.declared.table.Table.{Table}
use Rattle.pq_content.specs.Tables.{types_of, shape_of, stored_code}

-- different rows of a table have different codes
pub stored_code_injective : (table : Table) (xs ys : List Value) → All IsType (types_of table) → AllFit (types_of table) xs → AllFit (types_of table) ys → stored_code table xs ≡ stored_code table ys → xs ≡ ys
stored_code_injective table xs ys types f g same = code_as_injective (shape_of table) xs ys types f g same

-- of a table the defaults of its columns alone play a part
pub same_fillers_code : (table other : Table) (row : List Value) → table.fillers ≡ other.fillers → stored_code table row ≡ stored_code other row
same_fillers_code table other row fillers = ap (λ (fs : List (Option Value)). row_code (stored_row fs row)) fillers
