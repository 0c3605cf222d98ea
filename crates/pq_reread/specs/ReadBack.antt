-- The text of a query is read as the query, and that of a table, an added column or a counter as its definition.
use Rattle.std.specs.Prelude.{◌≡◌, ℕ, ◌≤◌, ◌<◌, ◌+◌, true, List, length, take, Ok, Option}
use Rattle.std.specs.Str.{is_utf8}
use Rattle.pq_schema.specs.Names.{IsName}
use Rattle.pq_schema.specs.Resolved.{IsResolved}
use Rattle.pq_schema.specs.Schema.{Schema, with_query}
use Rattle.pq_schema.specs.Tables.{table_at}
use Rattle.pq_schema.specs.Valid.{IsDefined}
use Rattle.pq_schema.specs.declared.counter.Counter.{Counter}
use Rattle.pq_schema.specs.declared.definition.AlterDef.{AlterDef}
use Rattle.pq_schema.specs.declared.definition.CounterDef.{CounterDef}
use Rattle.pq_schema.specs.declared.definition.TableDef.{TableDef}
use Rattle.pq_schema.specs.declared.query.Query.{Query}
use Rattle.pq_schema.specs.declared.table.NewIndex.{NewIndex}
use Rattle.pq_schema.specs.declared.table.Table.{Table}
use Rattle.pq_text.specs.Tokens.{text_limit, tokens_of}
use Rattle.pq_def_read.specs.Reading.{statement_of}
use Rattle.pq_def_read.specs.declared.statement.Statement.TheVariants.{Create, Prepare, Alter}
use Rattle.pq_def_read.specs.declared.statement.Statement.TheVariants as statement
use Rattle.pq_print.specs.Canonical.{column_at, column_name, filler_at, query_text, table_text, added_text, counter_text, with_first_columns, definition_text}
use Rattle.pq_query_read.specs.Queries.{read_query_of}
use Rattle.pq_reread.specs.Orderly.{AreOrderly}

-- a query that reading may give over the schema, under a name
pub record IsNamedQuery (schema : Schema) (query : Query) : Type 0 where
  pub tables : AreOrderly schema.tables
  pub name : IsName query.name
  pub resolved : IsResolved schema.tables query

-- the text is a PREPARE of three tokens, with the query's name, and then what stands for the query over the schema
pub record IsReadBack (schema : Schema) (query : Query) (text : List ℕ) : Type 0 where
  pub utf8 : is_utf8 text ≡ true
  pub short : length text ≤ text_limit
  pub head : statement_of text (tokens_of text) ≡ Ok (Prepare query.name 3)
  pub rest : read_query_of schema query.name text (tokens_of text) 3 ≡ Ok query

-- the column of this place in the table of this number has its name still
abbrev pub KeepsColumn : List Table → List Table → ℕ → ℕ → Type 0
KeepsColumn tables later number col =
    col < length (table_at tables number).columns
    → column_name (table_at later number).columns col ≡ column_name (table_at tables number).columns col

-- the tables have their names and the names of their columns still, whatever was added
pub record KeepNames (tables later : List Table) : Type 0 where
  pub table : (number : ℕ) → 1 ≤ number → number ≤ length tables
      → (table_at later number).name ≡ (table_at tables number).name
  pub column : (number col : ℕ) → 1 ≤ number → number ≤ length tables → KeepsColumn tables later number col

-- so is the text as it is printed over later tables
abbrev pub IsReadBackLater : Schema → Query → Type 0
IsReadBackLater schema query =
    (later : List Table) → KeepNames schema.tables later → IsReadBack schema query (query_text later query)

-- so is the text of the query's definition, with the index that it wants or without one
abbrev pub IsReadBackDefined : Schema → Query → Type 0
IsReadBackDefined schema query =
    (wanted : Option NewIndex) → IsDefined schema query wanted
    → IsReadBack schema query (definition_text (with_query schema query wanted) (length schema.definitions + 1))

-- the text is the CREATE TABLE of this definition
abbrev pub ReadsAs : TableDef → List ℕ → Type 0
ReadsAs def text = statement_of text (tokens_of text) ≡ Ok (Create def)

-- the table is this one still, whatever columns and indexes were added behind its own
pub record KeepsTable (table now : Table) : Type 0 where
  pub name : now.name ≡ table.name
  pub columns : take (length table.columns) now.columns ≡ table.columns
  pub key : now.key ≡ table.key
  pub limits : now.limits ≡ table.limits
  pub foreign : now.foreign ≡ table.foreign

-- so is the text of a table with its first columns, as it is printed over later tables
abbrev pub IsReadLater : List Table → TableDef → Table → Type 0
IsReadLater tables def table = (later : List Table) (now : Table) → KeepNames tables later → KeepsTable table now
    → ReadsAs def (table_text later (with_first_columns (length table.columns) now))

-- the text is the ALTER TABLE of this definition
pub record IsAddedText (def : AlterDef) (text : List ℕ) : Type 0 where
  pub utf8 : is_utf8 text ≡ true
  pub short : length text ≤ text_limit
  pub reads : statement_of text (tokens_of text) ≡ Ok (Alter def)

-- the table has its name, and at this place its column and its default, still
pub record KeepsAdded (table now : Table) (col : ℕ) : Type 0 where
  pub name : now.name ≡ table.name
  pub column : column_at now.columns col ≡ column_at table.columns col
  pub filler : filler_at now.fillers col ≡ filler_at table.fillers col

-- so is the text of the column at this place as it is printed of a later table
abbrev pub IsAddedLater : AlterDef → Table → ℕ → Type 0
IsAddedLater def table col = (now : Table) → KeepsAdded table now col → IsAddedText def (added_text now col)

-- the text is the CREATE COUNTER of this definition
pub record IsCounterText (def : CounterDef) (text : List ℕ) : Type 0 where
  pub utf8 : is_utf8 text ≡ true
  pub short : length text ≤ text_limit
  pub reads : statement_of text (tokens_of text) ≡ Ok (statement.Counter def)

-- so is the counter's text as it is printed over later tables
abbrev pub IsCounterLater : List Table → CounterDef → Counter → Type 0
IsCounterLater tables def counter =
    (later : List Table) → KeepNames tables later → IsCounterText def (counter_text later counter)
