-- The lines of a report that tell of definitions and indexes.
use Rattle.std.specs.Prelude.{ℕ, ◌+◌, ◌-◌, ◌<◌, ◌≤◌, List, [], ◌∷◌, map, flat_map, take, drop, length, Option, Some, None}
use Rattle.std.specs.List.{range_with_len, AllByRecursion}
use Rattle.pq_base.specs.declared.number.Bound.{Bound}
use Rattle.pq_base.specs.declared.number.Choice.{Choice}
use Rattle.pq_schema.specs.declared.made.Def.{Def}
use Rattle.pq_schema.specs.declared.made.Def.TheVariants as def
use Rattle.pq_schema.specs.declared.table.Column.{Column}
use Rattle.pq_schema.specs.declared.table.Index.{Index}
use Rattle.pq_schema.specs.declared.table.KeyPart.{KeyPart}
use Rattle.pq_schema.specs.declared.table.NewIndex.{NewIndex}
use Rattle.pq_schema.specs.declared.table.Table.{Table}
use Rattle.pq_schema.specs.Schema.{Schema, definition_at, def_of}
use Rattle.pq_schema.specs.Tables.{table_at}
use Rattle.pq_planning.specs.Planning.{PlannedDefinition}
use Rattle.pq_content.specs.Tables.{IsTableNumber}
use Rattle.pq_print.specs.Canonical.{column_name, definition_text}
use Rattle.pq_print.specs.declared.report.IndexCol.{IndexCol}
use Rattle.pq_print.specs.declared.report.Line.{Line}
use Rattle.pq_print.specs.declared.report.Line.TheVariants as line

-- the parts name columns that are there
abbrev pub AreOf : List Column → List KeyPart → Type 0
AreOf columns parts = AllByRecursion (λ part. part.col < length columns) parts

abbrev pub AreInside : List Column → List Index → Type 0
AreInside columns indexes = AllByRecursion (λ index. AreOf columns index.cols) indexes

abbrev pub index_col : List Column → KeyPart → IndexCol
index_col columns part = record { name = column_name columns part.col; dir = part.dir }

-- an index of a table, by its number from 1
abbrev pub index_line : Table → ℕ → Index → Line
index_line table number index = line.Index table.name number (map (index_col table.columns) index.cols)

-- indexes of a table, which are numbered from a number on
abbrev pub index_lines : Table → ℕ → List Index → List Line
index_lines table number [] = []
index_lines table number (index ∷ indexes) = index_line table number index ∷ index_lines table (number + 1) indexes

-- tables with few indexes, whose columns are there
abbrev pub AreShown : List Table → Type 0
AreShown tables = AllByRecursion (λ table. (length table.indexes ≤ 16) × AreInside table.columns table.indexes) tables

-- what a definition made is of a table that is there
abbrev pub IsMadeOf : List Table → Def → Type 0
IsMadeOf tables (def.Table t made) = IsTableNumber tables t
IsMadeOf tables (def.Query None) = Unit {0}
IsMadeOf tables (def.Query (Some made)) = IsTableNumber tables made.table × (made.index ≤ 16)
IsMadeOf tables (def.Added t col) = Unit {0}
IsMadeOf tables def.Counter = Unit {0}

pub record IsShowable (schema : Schema) : Type 0 where
  pub tables : AreShown schema.tables
  pub definitions : AllByRecursion (λ definition. IsMadeOf schema.tables (def_of definition)) schema.definitions

-- the indexes that a CREATE TABLE makes
abbrev pub table_lines : Table → List Line
table_lines table = index_lines table 1 table.indexes

-- so many indexes of a table, from this number on
abbrev pub lines_at : Table → ℕ → ℕ → List Line
lines_at table first count = index_lines table first (take count (drop (first - 1) table.indexes))

-- the indexes that a definition made: the first ones of a table, one that a query made, or none
abbrev pub made_lines : List Table → Def → List Line
made_lines tables (def.Table t made) = lines_at (table_at tables t) 1 made
made_lines tables (def.Query None) = []
made_lines tables (def.Query (Some made)) = lines_at (table_at tables made.table) made.index 1
made_lines tables (def.Added t col) = []
made_lines tables def.Counter = []

-- a definition's text, and the indexes that it made
unfoldable pub definition_lines : Schema → ℕ → List Line
definition_lines schema number =
    line.Def number (definition_text schema number)
    ∷ made_lines schema.tables (def_of (definition_at schema number))

-- of each definition in order
unfoldable pub show_lines : Schema → List Line
show_lines schema = flat_map (definition_lines schema) (range_with_len 1 (length schema.definitions))

-- ---- planned queries

-- the index that a query wants
abbrev pub wanted_lines : List Table → Option NewIndex → List Line
wanted_lines tables None = []
wanted_lines tables (Some new) = index_line (table_at tables new.table) new.number new.index ∷ []

-- a query's candidate with its bound, and the index that it wants
abbrev pub planned_lines : List Table → List ℕ → Choice → Bound → Option NewIndex → List Line
planned_lines tables name choice most wanted = line.Query name choice most ∷ wanted_lines tables wanted

unfoldable pub query_lines : List Table → PlannedDefinition → List Line
query_lines tables plan = planned_lines tables plan.query.name plan.chosen.best.choice plan.chosen.best.bound
    plan.chosen.wanted

-- the table of a wanted index is there, and so are the columns that it names
abbrev pub IsLined : List Table → Option NewIndex → Type 0
IsLined tables None = Unit {0}
IsLined tables (Some new) = IsTableNumber tables new.table × AreOf (table_at tables new.table).columns new.index.cols
