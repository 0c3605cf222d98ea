-- What a CREATE TABLE, an ALTER TABLE and a CREATE COUNTER define, or the first refusal in the written order.
use Rattle.std.specs.Prelude.{◌≡◌, ℕ, ℤ, pos, negsuc, ◌+◌, Bool, true, false, not, ◌||◌, ◌&&◌, nat_lt, nat_le, List, [], ◌∷◌, length, map, codes, unwrap_or, is_some, find, option_map, Option, Some, None, Result, Ok, Err, if◌then◌else◌}
use Rattle.std.specs.Str.{bytes_eq}
use Rattle.std.specs.List.{list_all}
use Rattle.pq_base.specs.Answers.{or_else}
use Rattle.pq_base.specs.declared.count_word.TheConstants as count_word
use Rattle.pq_base.specs.declared.refusal.Refusal.{Refusal}
use Rattle.pq_base.specs.declared.refusal.Refusal.TheVariants as refusal
use Rattle.pq_base.specs.Values.{FitsType, fits_type, is_nullable}
use Rattle.pq_base.specs.declared.value.ColType.{ColType}
use Rattle.pq_base.specs.declared.value.ColType.TheVariants as type
use Rattle.pq_base.specs.declared.value.Value.{Value}
use Rattle.pq_schema.specs.declared.definition.AlterDef.{AlterDef}
use Rattle.pq_schema.specs.declared.counter.Counter.{Counter}
use Rattle.pq_schema.specs.declared.definition.ColumnDef.{ColumnDef}
use Rattle.pq_schema.specs.declared.definition.CounterDef.{CounterDef}
use Rattle.pq_schema.specs.declared.definition.LimitDef.{LimitDef}
use Rattle.pq_schema.specs.declared.definition.ForeignDef.{ForeignDef}
use Rattle.pq_schema.specs.declared.definition.TableDef.{TableDef}
use Rattle.pq_schema.specs.declared.query.Query.{Query}
use Rattle.pq_schema.specs.declared.table.Column.{Column}
use Rattle.pq_schema.specs.declared.table.Limit.{Limit}
use Rattle.pq_schema.specs.declared.table.Foreign.{Foreign}
use Rattle.pq_schema.specs.declared.table.NewIndex.{NewIndex}
use Rattle.pq_schema.specs.declared.table.Table.{Table}
use Rattle.pq_schema.specs.ColumnNames.{names_of, place_of, places_of, repeated_refusal, names_refusal}
use Rattle.pq_schema.specs.Sequences.{with_groups}
use Rattle.pq_schema.specs.Tables.{table_at, same_kinds, type_at, types_at}
use Rattle.pq_schema.specs.Schema.{Schema, counters_of, find_column, find_table, is_taken, with_table, with_query, with_column, with_counter}

-- n of TEXT(n), from 1 to 1,000
abbrev pub text_size : ℤ → Option ℕ
text_size (pos n) = if nat_le 1 n && nat_le n 1000 then Some n else None
text_size (negsuc n) = None

-- n of a limit, from 1 to 10,000
abbrev pub cardinality : ℤ → Option ℕ
cardinality (pos n) = if nat_le 1 n && nat_le n 10000 then Some n else None
cardinality (negsuc n) = None

-- the type, with NULL where the column is nullable
abbrev pub with_null : Bool → ColType → ColType
with_null false t = t
with_null true type.Int = type.NullInt
with_null true type.Bool = type.NullBool
with_null true (type.Text n) = type.NullText n
with_null true type.NullInt = type.NullInt
with_null true type.NullBool = type.NullBool
with_null true (type.NullText n) = type.NullText n

-- the type of a column but for NULL, unless its length is outside the limit
abbrev pub plain_column_type : ColumnDef → Option ColType
plain_column_type column =
    if bytes_eq column.kind (codes "INT") then Some type.Int
    else if bytes_eq column.kind (codes "BOOL") then Some type.Bool
    else option_map type.Text (text_size column.size)

abbrev pub column_type : ColumnDef → Option ColType
column_type column = option_map (with_null column.nullable) (plain_column_type column)

abbrev pub has_type : ColumnDef → Bool
has_type column = is_some (column_type column)

abbrev pub column_of : ColumnDef → Column
column_of column = record { name = column.name; ty = unwrap_or (column_type column) type.Int }

-- refused where the test holds
abbrev pub refused_if : Bool → Refusal → Option Refusal
refused_if true why = Some why
refused_if false why = None

-- the count is not from 1 to the limit
abbrev pub is_outside : ℕ → ℕ → Bool
is_outside count most = nat_lt count 1 || nat_lt most count

-- a definition more than there may be
abbrev pub room_refusal : Schema → Option Refusal
room_refusal schema =
    refused_if (nat_le 256 (length schema.definitions)) (refusal.Count count_word.DEFINITIONS)

-- definitions, and the name
abbrev pub definition_refusal : Schema → List ℕ → Option Refusal
definition_refusal schema name =
    or_else (room_refusal schema)
    (refused_if (is_taken schema name) (refusal.NameTaken name))

-- definitions, the name, tables
abbrev pub name_refusal : Schema → List ℕ → Option Refusal
name_refusal schema name =
    or_else (definition_refusal schema name)
    (refused_if (nat_le 64 (length schema.tables)) (refusal.Count count_word.TABLES))

-- columns, limits, foreign
abbrev pub counts_refusal : TableDef → Option Refusal
counts_refusal def =
    or_else (refused_if (is_outside (length def.columns) 32) (refusal.Count count_word.COLUMNS))
    (or_else (refused_if (nat_lt 4 (length def.limits)) (refusal.Count count_word.LIMITS))
    (refused_if (nat_lt 4 (length def.foreign)) (refusal.Count count_word.FOREIGN)))

-- text, column names
abbrev pub columns_refusal : List ColumnDef → Option Refusal
columns_refusal columns =
    or_else (refused_if (not (list_all has_type columns)) (refusal.Count count_word.TEXT))
    (repeated_refusal (names_of (map column_of columns)))

abbrev pub is_nullable_name : List Column → List ℕ → Bool
is_nullable_name columns name = is_nullable (type_at columns (place_of columns name))

abbrev pub nullable_key : List ℕ → Refusal
nullable_key name = refusal.NullableKey name

-- the first name of a nullable column
abbrev pub nullable_refusal : List Column → List (List ℕ) → Option Refusal
nullable_refusal columns names = option_map nullable_key (find (is_nullable_name columns) names)

-- the key's names, a nullable column among them, and their number
abbrev pub key_refusal : List Column → List (List ℕ) → Option Refusal
key_refusal columns key = or_else (names_refusal columns key)
    (or_else (nullable_refusal columns key)
    (refused_if (is_outside (length key) 4) (refusal.Count count_word.KEY)))

-- the names of a limit, their number, and its n
abbrev pub limit_refusal : List Column → LimitDef → Option Refusal
limit_refusal columns limit =
    or_else (names_refusal columns limit.cols)
    (or_else (refused_if (is_outside (length limit.cols) 4) (refusal.Count count_word.LIMIT_COLUMNS))
    (refused_if (not (is_some (cardinality limit.n))) (refusal.Count count_word.CARDINALITY)))

abbrev pub limits_refusal : List Column → List LimitDef → Option Refusal
limits_refusal columns [] = None
limits_refusal columns (limit ∷ limits) = or_else (limit_refusal columns limit) (limits_refusal columns limits)

-- the columns are of the number and kinds of the key of the table
abbrev pub has_shape : List Column → List (List ℕ) → Table → Bool
has_shape columns names table =
    same_kinds (types_at columns (places_of columns names)) (types_at table.columns table.key)

-- the table that a foreign key names is unknown, or its key is of another shape
abbrev pub reference_refusal : Schema → List Column → ℕ → ForeignDef → Option ℕ → Option Refusal
reference_refusal schema columns number foreign None = Some (refusal.NoTable foreign.table)
reference_refusal schema columns number foreign (Some table) =
    refused_if (not (has_shape columns foreign.cols (table_at schema.tables table))) (refusal.ForeignShape number)

-- the names of a foreign key, its table, and its shape
abbrev pub foreign_refusal : Schema → List Column → ℕ → ForeignDef → Option Refusal
foreign_refusal schema columns number foreign =
    or_else (names_refusal columns foreign.cols)
    (reference_refusal schema columns number foreign (find_table schema foreign.table))

-- the foreign keys from this number on
abbrev pub foreigns_refusal : Schema → List Column → ℕ → List ForeignDef → Option Refusal
foreigns_refusal schema columns number [] = None
foreigns_refusal schema columns number (foreign ∷ rest) =
    or_else (foreign_refusal schema columns number foreign) (foreigns_refusal schema columns (number + 1) rest)

-- the key, then the limits, then the foreign keys
abbrev pub groups_refusal : Schema → List Column → TableDef → Option Refusal
groups_refusal schema columns def =
    or_else (key_refusal columns def.key)
    (or_else (limits_refusal columns def.limits)
    (foreigns_refusal schema columns 1 def.foreign))

abbrev pub table_refusal : Schema → TableDef → Option Refusal
table_refusal schema def =
    or_else (name_refusal schema def.name)
    (or_else (counts_refusal def)
    (or_else (columns_refusal def.columns)
    (groups_refusal schema (map column_of def.columns) def)))

abbrev pub limit_of_def : List Column → LimitDef → Limit
limit_of_def columns limit = record { n = unwrap_or (cardinality limit.n) 0; cols = places_of columns limit.cols }

abbrev pub foreign_of_def : Schema → List Column → ForeignDef → Foreign
foreign_of_def schema columns foreign =
    record { cols = places_of columns foreign.cols; table = unwrap_or (find_table schema foreign.table) 0 }

-- no column was added
abbrev pub no_fillers : List Column → List (Option Value)
no_fillers columns = map (λ column. None) columns

-- the table of these columns without its indexes
abbrev pub table_with : Schema → List Column → TableDef → Table
table_with schema columns def = record {
  name = def.name;
  columns = columns;
  fillers = no_fillers columns;
  key = places_of columns def.key;
  limits = map (limit_of_def columns) def.limits;
  foreign = map (foreign_of_def schema columns) def.foreign;
  indexes = [];
}

-- the table without its indexes
abbrev pub bare_table : Schema → TableDef → Table
bare_table schema def = table_with schema (map column_of def.columns) def

-- the table that is defined where nothing refuses it
abbrev pub table_of_def : Schema → TableDef → Table
table_of_def schema def = with_groups (bare_table schema def)

abbrev pub or_ok : {A : Type 0} → Option Refusal → A → Result A Refusal
or_ok None answer = Ok answer
or_ok (Some why) answer = Err why

-- the table, or the first refusal
unfoldable pub new_table : Schema → TableDef → Result Table Refusal
new_table schema def = or_ok (table_refusal schema def) (table_of_def schema def)

-- the table of this number was added, as its definition has it
pub record AddsTable (before : Schema) (def : TableDef) (now : Schema) (number : ℕ) : Type 0 where
  pub table : Table
  pub made : new_table before def ≡ Ok table
  pub added : now ≡ with_table before table
  pub last : number ≡ length before.tables + 1

-- a query's definition refuses only its count and its name
abbrev pub new_query : Schema → Query → Option NewIndex → Result Schema Refusal
new_query schema query wanted = or_ok (definition_refusal schema query.name) (with_query schema query wanted)

-- the query was added last, with its index
pub record AddsQuery (before : Schema) (query : Query) (wanted : Option NewIndex) (now : Schema) (number : ℕ) :
    Type 0 where
  pub made : new_query before query wanted ≡ Ok now
  pub added : now ≡ with_query before query wanted
  pub last : number ≡ length before.definitions + 1

-- ---- an added column

-- a thirty-third column, its text, its name, and a default that does not fit
abbrev pub added_refusal : Table → AlterDef → Option Refusal
added_refusal table def =
    or_else (refused_if (nat_le 32 (length table.columns)) (refusal.Count count_word.COLUMNS))
    (or_else (refused_if (not (has_type def.column)) (refusal.Count count_word.TEXT))
    (or_else (refused_if (is_some (find_column table.columns def.column.name)) (refusal.Repeated def.column.name))
    (refused_if (not (fits_type (column_of def.column).ty def.filler))
    (refusal.ValueKind def.table def.column.name))))

-- the table that gets the column is unknown, or refuses it
abbrev pub altered_refusal : Schema → AlterDef → Option ℕ → Option Refusal
altered_refusal schema def None = Some (refusal.NoTable def.table)
altered_refusal schema def (Some table) = added_refusal (table_at schema.tables table) def

-- definitions, the table, and the column
abbrev pub column_refusal : Schema → AlterDef → Option Refusal
column_refusal schema def = or_else (room_refusal schema) (altered_refusal schema def (find_table schema def.table))

-- the number of the table that gets the column
abbrev pub altered_table : Schema → AlterDef → ℕ
altered_table schema def = unwrap_or (find_table schema def.table) 0

-- the schema with the column that is added where nothing refuses it
abbrev pub altered_schema : Schema → AlterDef → Schema
altered_schema schema def = with_column schema (altered_table schema def) (column_of def.column) def.filler

-- the schema with the column, or the first refusal
unfoldable pub new_column : Schema → AlterDef → Result Schema Refusal
new_column schema def = or_ok (column_refusal schema def) (altered_schema schema def)

-- the column was added to its table, and its definition comes last
pub record AddsColumn (before : Schema) (def : AlterDef) (now : Schema) (number : ℕ) : Type 0 where
  pub made : new_column before def ≡ Ok now
  pub added : now ≡ altered_schema before def
  pub fits : FitsType (column_of def.column).ty def.filler
  pub last : number ≡ length before.definitions + 1

-- ---- a counter

-- a counter too many, the names of its columns, and their number
abbrev pub counted_refusal : Schema → CounterDef → ℕ → Option Refusal
counted_refusal schema def table =
    or_else (refused_if (nat_le 4 (length (counters_of schema table))) (refusal.Count count_word.COUNTERS))
    (or_else (names_refusal (table_at schema.tables table).columns def.cols)
    (refused_if (is_outside (length def.cols) 4) (refusal.Count count_word.LIMIT_COLUMNS)))

-- the counter's table is unknown, or the counter is refused over it
abbrev pub counting_refusal : Schema → CounterDef → Option ℕ → Option Refusal
counting_refusal schema def None = Some (refusal.NoTable def.table)
counting_refusal schema def (Some table) = counted_refusal schema def table

-- definitions, the name, the table, and the counter
abbrev pub counter_refusal : Schema → CounterDef → Option Refusal
counter_refusal schema def =
    or_else (definition_refusal schema def.name) (counting_refusal schema def (find_table schema def.table))

-- the number of the table whose rows are counted
abbrev pub counted_table : Schema → CounterDef → ℕ
counted_table schema def = unwrap_or (find_table schema def.table) 0

-- the counter, with numbers and places for names
abbrev pub counter_of_def : Schema → CounterDef → Counter
counter_of_def schema def = record {
  name = def.name;
  table = counted_table schema def;
  cols = places_of (table_at schema.tables (counted_table schema def)).columns def.cols;
}

-- the schema with the counter that is defined where nothing refuses it
abbrev pub counted_schema : Schema → CounterDef → Schema
counted_schema schema def = with_counter schema (counter_of_def schema def)

-- the schema with the counter, or the first refusal
unfoldable pub new_counter : Schema → CounterDef → Result Schema Refusal
new_counter schema def = or_ok (counter_refusal schema def) (counted_schema schema def)

-- the counter was defined, and its definition comes last
pub record AddsCounter (before : Schema) (def : CounterDef) (now : Schema) (number : ℕ) : Type 0 where
  pub made : new_counter before def ≡ Ok now
  pub added : now ≡ counted_schema before def
  pub last : number ≡ length before.definitions + 1
