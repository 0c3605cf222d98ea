-- The keys of a table's rows and of its indexes' entries.
use Rattle.std.specs.Prelude.{ℕ, List, map}
use Rattle.pq_base.specs.declared.value.ColType.{ColType}
use Rattle.pq_base.specs.declared.value.Value.{Value}
use Rattle.pq_key_code.specs.KeyCode.{row_key, entry_key}
use Rattle.pq_schema.specs.declared.table.Access.{Access}
use Rattle.pq_schema.specs.declared.table.Access.TheVariants.{Primary, Secondary}
use Rattle.pq_schema.specs.declared.table.Table.{Table}
use Rattle.pq_schema.specs.Keys.{dirs_of, given_value}
use Rattle.pq_schema.specs.Sequences.{columns_of, index_sequence, index_numbered, sequence_of}
use Rattle.pq_schema.specs.Tables.{types_at}

-- the key of these values in a sequence, or its beginning, where they are the first ones
abbrev pub sequence_key : ℕ → Table → Access → List Value → List ℕ
sequence_key t table Primary values = row_key t values
sequence_key t table (Secondary number) values =
    entry_key t number (dirs_of (index_sequence table (index_numbered table number))) values

-- the types of the values of a sequence
abbrev pub sequence_types : Table → Access → List ColType
sequence_types table access = types_at table.columns (columns_of (sequence_of table access))

-- the key of the row that the entry with these values names
abbrev pub named_key : Table → Access → List Value → List Value
named_key table access values = map (given_value (columns_of (sequence_of table access)) values) table.key
