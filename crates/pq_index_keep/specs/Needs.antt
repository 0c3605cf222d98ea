-- What a table, its indexes and a row have, so that tests, entries and codes can be made of them.
use Rattle.std.specs.Prelude.{◌≤◌, List, length, All, IsSome}
use Rattle.pq_base.specs.Columns.{set_of}
use Rattle.pq_base.specs.declared.value.Value.{Value}
use Rattle.pq_row_code.specs.RowCode.{IsShort}
use Rattle.pq_schema.specs.Sequences.{group_access}
use Rattle.pq_schema.specs.Sound.{IsTable, AreColumns, AreParts}
use Rattle.pq_schema.specs.declared.table.Foreign.{Foreign}
use Rattle.pq_schema.specs.declared.table.Index.{Index}
use Rattle.pq_schema.specs.declared.table.Limit.{Limit}
use Rattle.pq_schema.specs.declared.table.Table.{Table}

-- a table whose rows can be tested
pub record AsksTests (table : Table) : Type 0 where
  pub is_table : IsTable table
  pub columns : All (λ (f : Foreign). AreColumns f.cols) table.foreign
  pub access : All (λ (limit : Limit). IsSome (group_access table (set_of limit.cols))) table.limits

-- and the refusal of each of whose tests can be told
pub record HasTests (table : Table) : Type 0 where
  pub asks : AsksTests table
  pub few : length table.foreign ≤ 4
  pub some_rows : All (λ (limit : Limit). 1 ≤ limit.n) table.limits

-- indexes of a table in which its rows can have entries
pub record AreIndexes (table : Table) (indexes : List Index) : Type 0 where
  pub key : AreColumns table.key
  pub parts : All (λ (index : Index). AreParts index.cols) indexes
  pub few : length indexes ≤ 16

-- a row that can be coded
pub record IsCodable (row : List Value) : Type 0 where
  pub columns : length row ≤ 32
  pub texts : All IsShort row
