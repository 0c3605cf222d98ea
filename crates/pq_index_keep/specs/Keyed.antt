-- The row of a table that a write names by its key.
use Rattle.std.specs.Prelude.{◌≡◌, ℕ, List}
use Rattle.pq_base.specs.Values.{AllFit}
use Rattle.pq_base.specs.declared.value.Value.{Value}
use Rattle.pq_content.specs.Tables.{types_of}
use Rattle.pq_key_code.specs.KeyCode.{row_key}
use Rattle.pq_schema.specs.Tables.{table_at}
use Rattle.pq_schema.specs.declared.table.Table.{Table}
use Rattle.pq_index_keep.specs.declared.plan.KeyedRow.{KeyedRow}

abbrev pub keyed_table : KeyedRow → Table
keyed_table keyed = table_at keyed.catalog.now.tables keyed.number

-- the key in the store is its own, and the row that stands there fits its table
pub record IsHeldAt (keyed : KeyedRow) (place : List ℕ) (row : List Value) : Type 0 where
  pub at : place ≡ row_key keyed.number keyed.key.now
  pub fits : AllFit (types_of (keyed_table keyed)) row
