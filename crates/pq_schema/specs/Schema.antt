-- A schema: its tables, and its definitions in order.
use Rattle.std.specs.Prelude.{◌++◌, ◌∷◌, ℕ, ◌-◌, ◌+◌, ◌==◌, if◌then◌else◌, Bool, false, ◌||◌, ◌≤◌, length, List, [], slice_index_or, slice_set, position, is_some, Option, Some, None, option_map}
use Rattle.std.specs.Str.{bytes_eq}
use Rattle.pq_base.specs.declared.value.Value.{Value}
use Rattle.pq_schema.specs.declared.table.Column.{Column}
use Rattle.pq_schema.specs.declared.table.Index.{Index}
use Rattle.pq_schema.specs.declared.table.NewIndex.{NewIndex}
use Rattle.pq_schema.specs.declared.table.Table.{Table}
use Rattle.pq_schema.specs.declared.query.Query.{Query}
use Rattle.pq_schema.specs.declared.query.Stop.TheVariants.{All}
use Rattle.pq_schema.specs.declared.made.Definition.{Definition}
use Rattle.pq_schema.specs.declared.counter.Counter.{Counter}
use Rattle.pq_schema.specs.declared.made.Definition.TheVariants.{OfTable, OfQuery, OfColumn, OfCounter}
use Rattle.pq_schema.specs.declared.made.Made.{Made}
use Rattle.pq_schema.specs.declared.made.Def.{Def}
use Rattle.pq_schema.specs.declared.made.Def.TheVariants as def
use Rattle.pq_schema.specs.Tables.{table_at}

pub record Schema : Type 0 where
  pub tables : List Table
  pub definitions : List Definition

abbrev pub empty_schema : Schema
empty_schema = record { tables = []; definitions = [] }

-- a definition by its kind
abbrev pub def_of : Definition → Def
def_of (OfTable table columns made) = def.Table table made
def_of (OfQuery query made) = def.Query made
def_of (OfColumn table col) = def.Added table col
def_of (OfCounter counter) = def.Counter

-- what stands at a number that no query has
abbrev pub no_query : Query
no_query = record { name = []; relations = []; select = []; preds = []; order = []; stop = All; params = [] }

abbrev pub query_of : Definition → Query
query_of (OfTable table columns made) = no_query
query_of (OfQuery query made) = query
query_of (OfColumn table col) = no_query
query_of (OfCounter counter) = no_query

abbrev pub IsQueryDefinition : Definition → Type 0
IsQueryDefinition (OfTable table columns made) = ⊥
IsQueryDefinition (OfQuery query made) = Unit {0}
IsQueryDefinition (OfColumn table col) = ⊥
IsQueryDefinition (OfCounter counter) = ⊥

-- what stands at a number that no counter has
abbrev pub no_counter : Counter
no_counter = record { name = []; table = 0; cols = [] }

abbrev pub counter_of : Definition → Counter
counter_of (OfTable table columns made) = no_counter
counter_of (OfQuery query made) = no_counter
counter_of (OfColumn table col) = no_counter
counter_of (OfCounter counter) = counter

abbrev pub IsCounterDefinition : Definition → Type 0
IsCounterDefinition (OfTable table columns made) = ⊥
IsCounterDefinition (OfQuery query made) = ⊥
IsCounterDefinition (OfColumn table col) = ⊥
IsCounterDefinition (OfCounter counter) = Unit {0}

abbrev pub no_definition : Definition
no_definition = OfTable 0 0 0

-- the definition of this number, from 1
abbrev pub definition_at : Schema → ℕ → Definition
definition_at schema number = slice_index_or schema.definitions (number - 1) no_definition

abbrev pub query_at : Schema → ℕ → Query
query_at schema number = query_of (definition_at schema number)

abbrev pub counter_at : Schema → ℕ → Counter
counter_at schema number = counter_of (definition_at schema number)

-- a query of this name
abbrev pub is_query : List ℕ → Definition → Bool
is_query name (OfTable table columns made) = false
is_query name (OfQuery query made) = bytes_eq query.name name
is_query name (OfColumn table col) = false
is_query name (OfCounter counter) = false

-- a counter of this name
abbrev pub is_counter : List ℕ → Definition → Bool
is_counter name (OfTable table columns made) = false
is_counter name (OfQuery query made) = false
is_counter name (OfColumn table col) = false
is_counter name (OfCounter counter) = bytes_eq counter.name name

-- a counter of this table
abbrev pub is_counter_of : ℕ → Definition → Bool
is_counter_of table (OfTable of columns made) = false
is_counter_of table (OfQuery query made) = false
is_counter_of table (OfColumn of col) = false
is_counter_of table (OfCounter counter) = counter.table == table

abbrev pub is_table : List ℕ → Table → Bool
is_table name table = bytes_eq table.name name

abbrev pub has_name : List ℕ → Column → Bool
has_name name column = bytes_eq column.name name

-- the place of the column of this name, from 0
abbrev pub find_column : List Column → List ℕ → Option ℕ
find_column columns name = position (has_name name) columns

-- a place from 0 as a number from 1
abbrev pub number_of : ℕ → ℕ
number_of place = place + 1

-- the number of the table of this name, from 1
abbrev pub find_table : Schema → List ℕ → Option ℕ
find_table schema name = option_map number_of (position (is_table name) schema.tables)

-- the number of the query of this name among the definitions, from 1
abbrev pub find_query : Schema → List ℕ → Option ℕ
find_query schema name = option_map number_of (position (is_query name) schema.definitions)

-- the number of the counter of this name among the definitions, from 1
abbrev pub find_counter : Schema → List ℕ → Option ℕ
find_counter schema name = option_map number_of (position (is_counter name) schema.definitions)

-- the numbers of a table's counters among these definitions, which are numbered from a number on
abbrev pub counters_from : ℕ → ℕ → List Definition → List ℕ
counters_from table number [] = []
counters_from table number (definition ∷ definitions) =
    if is_counter_of table definition then number ∷ counters_from table (number + 1) definitions
    else counters_from table (number + 1) definitions

-- the numbers of a table's counters, in the order of their definitions
abbrev pub counters_of : Schema → ℕ → List ℕ
counters_of schema table = counters_from table 1 schema.definitions

-- a table, a query or a counter has the name
abbrev pub is_taken : Schema → List ℕ → Bool
is_taken schema name =
    is_some (find_table schema name) || (is_some (find_query schema name) || is_some (find_counter schema name))

-- at most 64 tables and 256 definitions
pub record IsSmall (schema : Schema) : Type 0 where
  pub tables : length schema.tables ≤ 64
  pub definitions : length schema.definitions ≤ 256

-- the table comes behind the others, and its definition last
abbrev pub with_table : Schema → Table → Schema
with_table schema table = record {
  tables = schema.tables ++ table ∷ [];
  definitions = schema.definitions ++ OfTable (length schema.tables + 1) (length table.columns)
      (length table.indexes) ∷ [];
}

-- one more index behind the others
abbrev pub with_new_index : Table → Index → Table
with_new_index table index = record table { indexes = table.indexes ++ index ∷ [] }

-- the table of the wanted index has it behind its others
abbrev pub with_wanted : List Table → Option NewIndex → List Table
with_wanted tables None = tables
with_wanted tables (Some new) = slice_set tables (new.table - 1) (with_new_index (table_at tables new.table) new.index)

-- what the PREPARE made
abbrev pub made_of : NewIndex → Made
made_of new = record { table = new.table; index = new.number }

-- the query's definition comes last, and its table has the index that it wants
abbrev pub with_query : Schema → Query → Option NewIndex → Schema
with_query schema query wanted = record {
  tables = with_wanted schema.tables wanted;
  definitions = schema.definitions ++ OfQuery query (option_map made_of wanted) ∷ [];
}

-- one more column behind the others, with its default
abbrev pub with_new_column : Table → Column → Value → Table
with_new_column table column filler =
    record table { columns = table.columns ++ column ∷ []; fillers = table.fillers ++ Some filler ∷ [] }

-- the table of this number has the column behind its others
abbrev pub with_added : List Table → ℕ → Column → Value → List Table
with_added tables number column filler =
    slice_set tables (number - 1) (with_new_column (table_at tables number) column filler)

-- and the column's definition comes last
abbrev pub with_column : Schema → ℕ → Column → Value → Schema
with_column schema number column filler = record {
  tables = with_added schema.tables number column filler;
  definitions = schema.definitions ++ OfColumn number (length (table_at schema.tables number).columns) ∷ [];
}

-- the counter's definition comes last
abbrev pub with_counter : Schema → Counter → Schema
with_counter schema counter = record {
  tables = schema.tables;
  definitions = schema.definitions ++ OfCounter counter ∷ [];
}
