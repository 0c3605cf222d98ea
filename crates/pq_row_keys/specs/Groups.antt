-- The range of keys under which the rows of a group stand.
use Rattle.std.specs.Prelude.{ℕ, List, map, unwrap_or}
use Rattle.pq_base.specs.Columns.{set_of}
use Rattle.pq_base.specs.declared.value.Value.{Value}
use Rattle.pq_schema.specs.declared.table.Access.{Access}
use Rattle.pq_schema.specs.declared.table.Access.TheVariants.{Primary}
use Rattle.pq_schema.specs.declared.table.Table.{Table}
use Rattle.pq_schema.specs.Sequences.{sequence_of, group_access}
use Rattle.pq_content.specs.Tables.{cells, first_columns}
use Rattle.pq_calls.specs.Keys.{sequence_key}
use Rattle.pq_schema.specs.Keys.{given_value}
use Rattle.pq_row_keys.specs.declared.keys.Source.{Source}
use Rattle.pq_row_keys.specs.declared.keys.Source.TheVariants.{InOrder, InRow}

-- the first sequence that begins with the columns
abbrev pub access_of : Table → List ℕ → Access
access_of table cols = unwrap_or (group_access table (set_of cols)) Primary

-- the values that its first columns are given, where these columns have these values
abbrev pub first_values : Table → Access → List ℕ → List Value → List Value
first_values table access cols values = map (given_value cols values) (first_columns (sequence_of table access) cols)

-- the values of the columns, that are given in their order or in a row
abbrev pub values_from : Source → List ℕ → List Value → List Value
values_from InOrder cols values = values
values_from InRow cols row = cells cols row

-- the beginning of the keys of the rows with these values at these columns
unfoldable pub group_key : ℕ → Table → List ℕ → List Value → List ℕ
group_key t table cols values = sequence_key t table (access_of table cols)
    (first_values table (access_of table cols) cols values)
