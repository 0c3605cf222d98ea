-- The canonical texts of definitions: keywords in capitals, one space between words, `, ` between
-- items, no space inside parentheses, `;` at the end.
use Rattle.std.specs.Prelude.{ℕ, ◌-◌, List, [], ◌++◌, take, codes, decimal, slice_index_or, slice_get, Option, None, unwrap_or}
use Rattle.std.specs.Option.{option_map_or}
use Rattle.pq_base.specs.declared.value.ColType.{ColType}
use Rattle.pq_base.specs.declared.value.ColType.TheVariants as type
use Rattle.pq_base.specs.declared.value.Value.{Value}
use Rattle.pq_base.specs.declared.value.Value.TheVariants as value
use Rattle.pq_schema.specs.declared.table.Column.{Column}
use Rattle.pq_schema.specs.declared.table.Limit.{Limit}
use Rattle.pq_schema.specs.declared.table.Foreign.{Foreign}
use Rattle.pq_schema.specs.declared.table.Table.{Table}
use Rattle.pq_schema.specs.declared.counter.Counter.{Counter}
use Rattle.pq_schema.specs.declared.query.ColRef.{ColRef}
use Rattle.pq_base.specs.declared.op.Op.{Op}
use Rattle.pq_base.specs.declared.op.Op.TheVariants as op
use Rattle.pq_schema.specs.declared.query.Operand.{Operand}
use Rattle.pq_schema.specs.declared.query.Operand.TheVariants as operand
use Rattle.pq_schema.specs.declared.query.Pred.{Pred}
use Rattle.pq_schema.specs.declared.query.OrderItem.{OrderItem}
use Rattle.pq_schema.specs.declared.query.Stop.{Stop}
use Rattle.pq_schema.specs.declared.query.Stop.TheVariants as stop
use Rattle.pq_schema.specs.declared.query.Relation.{Relation}
use Rattle.pq_schema.specs.declared.query.Query.{Query}
use Rattle.pq_schema.specs.declared.made.Definition.{Definition}
use Rattle.pq_schema.specs.declared.made.Definition.TheVariants.{OfTable, OfQuery, OfColumn, OfCounter}
use Rattle.pq_schema.specs.Tables.{table_at}
use Rattle.pq_schema.specs.Relations.{relation_at, table_of}
use Rattle.pq_schema.specs.Schema.{Schema, definition_at}
use Rattle.pq_print.specs.Lists.{each_after, separate_texts, clause}
use Rattle.pq_print.specs.Values.{value_text}
use Rattle.pq_print.specs.Report.{dir_text}

-- what stands at a place that no column has
abbrev pub absent_column : Column
absent_column = record { name = []; ty = type.Int }

-- the column of this place, from 0
abbrev pub column_at : List Column → ℕ → Column
column_at columns col = slice_index_or columns col absent_column

-- its name
abbrev pub column_name : List Column → ℕ → List ℕ
column_name columns col = (column_at columns col).name

abbrev pub type_text : ColType → List ℕ
type_text type.Int = codes "INT"
type_text type.Bool = codes "BOOL"
type_text (type.Text most) = codes "TEXT(" ++ decimal most ++ codes ")"
type_text type.NullInt = codes "INT NULL"
type_text type.NullBool = codes "BOOL NULL"
type_text (type.NullText most) = codes "TEXT(" ++ decimal most ++ codes ") NULL"

unfoldable pub column_text : Column → List ℕ
column_text column = column.name ++ codes " " ++ type_text column.ty

-- some of the columns by their places
unfoldable pub columns_text : List Column → List ℕ → List ℕ
columns_text columns cols = codes "(" ++ separate_texts (codes ", ") (column_name columns) cols ++ codes ")"

unfoldable pub limit_text : List Column → Limit → List ℕ
limit_text columns limit = codes "CARDINALITY LIMIT " ++ decimal limit.n ++ codes " " ++ columns_text columns limit.cols

unfoldable pub foreign_text : List Table → List Column → Foreign → List ℕ
foreign_text tables columns foreign =
    codes "FOREIGN KEY " ++ columns_text columns foreign.cols ++ codes " REFERENCES "
    ++ (table_at tables foreign.table).name

-- the columns, the key, all limits, all foreign keys
unfoldable pub items_text : List Table → Table → List ℕ
items_text tables table =
    separate_texts (codes ", ") column_text table.columns ++ codes ", PRIMARY KEY "
    ++ columns_text table.columns table.key
    ++ each_after (codes ", ") (limit_text table.columns) table.limits
    ++ each_after (codes ", ") (foreign_text tables table.columns) table.foreign

unfoldable pub table_text : List Table → Table → List ℕ
table_text tables table = codes "CREATE TABLE " ++ table.name ++ codes " (" ++ items_text tables table ++ codes ");"

-- the default of the column of this place, from 0; NULL of one that was not added
abbrev pub filler_at : List (Option Value) → ℕ → Value
filler_at fillers col = unwrap_or (slice_index_or fillers col None) value.Null

-- a column that was added to the table, by its place from 0
unfoldable pub added_text : Table → ℕ → List ℕ
added_text table col =
    codes "ALTER TABLE " ++ table.name ++ codes " ADD COLUMN "
    ++ column_text (column_at table.columns col)
    ++ codes " DEFAULT " ++ value_text (filler_at table.fillers col) ++ codes ";"

-- a counter, over the tables
unfoldable pub counter_text : List Table → Counter → List ℕ
counter_text tables counter =
    codes "CREATE COUNTER " ++ counter.name ++ codes " OF " ++ (table_at tables counter.table).name ++ codes " "
    ++ columns_text (table_at tables counter.table).columns counter.cols ++ codes ";"

-- a column as alias.column
unfoldable pub ref_text : List Table → Query → ColRef → List ℕ
ref_text tables query ref =
    (relation_at query ref.rel).alias ++ codes "." ++ column_name (table_of tables query ref.rel).columns ref.col

unfoldable pub relation_text : List Table → Relation → List ℕ
relation_text tables relation = (table_at tables relation.table).name ++ codes " AS " ++ relation.alias

abbrev pub op_text : Op → List ℕ
op_text op.Eq = codes "="
op_text op.Ne = codes "<>"
op_text op.Lt = codes "<"
op_text op.Le = codes "<="
op_text op.Gt = codes ">"
op_text op.Ge = codes ">="
op_text op.IsNull = codes "IS"

abbrev pub operand_text : List Table → Query → Operand → List ℕ
operand_text tables query (operand.Const value) = value_text value
operand_text tables query (operand.Param number) = codes "[" ++ decimal number ++ codes "]"
operand_text tables query (operand.Col ref) = ref_text tables query ref

unfoldable pub pred_text : List Table → Query → Pred → List ℕ
pred_text tables query pred =
    ref_text tables query pred.left ++ codes " " ++ op_text pred.op ++ codes " " ++ operand_text tables query pred.right

abbrev pub order_text : List Table → Query → OrderItem → List ℕ
order_text tables query item = ref_text tables query item.col ++ dir_text item.dir

abbrev pub stop_text : Stop → List ℕ
stop_text stop.All = []
stop_text (stop.Limit k) = codes " LIMIT " ++ decimal k
stop_text (stop.Paginate k) = codes " PAGINATE " ++ decimal k

unfoldable pub select_text : List Table → Query → List ℕ
select_text tables query =
    codes "SELECT " ++ separate_texts (codes ", ") (ref_text tables query) query.select
    ++ codes " FROM " ++ separate_texts (codes ", ") (relation_text tables) query.relations
    ++ clause (codes " WHERE ") (codes " AND ") (pred_text tables query) query.preds
    ++ clause (codes " ORDER BY ") (codes ", ") (order_text tables query) query.order
    ++ stop_text query.stop

unfoldable pub query_text : List Table → Query → List ℕ
query_text tables query = codes "PREPARE " ++ query.name ++ codes " AS " ++ select_text tables query ++ codes ";"

-- the table with just its first columns, so many
abbrev pub with_first_columns : ℕ → Table → Table
with_first_columns count table = record table { columns = take count table.columns }

-- the text of the table of this number, from 1, as it was with so many columns; none where there is no such table
abbrev pub numbered_text : List Table → ℕ → ℕ → List ℕ
numbered_text tables number columns =
    option_map_or (λ table. table_text tables (with_first_columns columns table)) (slice_get tables (number - 1)) []

-- of a table the text of its CREATE TABLE, whatever columns came later
abbrev pub text_of : List Table → Definition → List ℕ
text_of tables (OfTable table columns made) = numbered_text tables table columns
text_of tables (OfQuery query made) = query_text tables query
text_of tables (OfColumn table col) = added_text (table_at tables table) col
text_of tables (OfCounter counter) = counter_text tables counter

-- the canonical text of the definition of this number, from 1
unfoldable pub definition_text : Schema → ℕ → List ℕ
definition_text schema number = text_of schema.tables (definition_at schema number)
