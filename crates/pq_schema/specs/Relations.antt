-- The relations of a query: what belongs to them, their fixed columns, and the position.
use Rattle.std.specs.Prelude.{ℕ, ◌-◌, max, Bool, true, false, not, nat_lt, ◌==◌, ◌&&◌, ◌||◌, if◌then◌else◌, List, [], ◌∷◌, ◌++◌, map, filter, flat_map, zip, length, slice_index_or, Option, Some, None}
use Rattle.std.specs.List.{list_all, list_any, range_with_len}
use Rattle.pq_base.specs.Columns.{has_col, set_of}
use Rattle.pq_base.specs.declared.value.Dir.TheVariants.{Asc}
use Rattle.pq_schema.specs.declared.table.KeyPart.{KeyPart}
use Rattle.pq_schema.specs.declared.table.Table.{Table}
use Rattle.pq_base.specs.declared.op.Op.{Op}
use Rattle.pq_base.specs.declared.op.Op.TheVariants as op
use Rattle.pq_schema.specs.declared.query.Operand.{Operand}
use Rattle.pq_schema.specs.declared.query.Operand.TheVariants as operand
use Rattle.pq_schema.specs.declared.query.Pred.{Pred}
use Rattle.pq_schema.specs.declared.query.OrderItem.{OrderItem}
use Rattle.pq_schema.specs.declared.query.Relation.{Relation}
use Rattle.pq_schema.specs.declared.query.Query.{Query}
use Rattle.pq_schema.specs.Tables.{table_at, is_lookup, have_no_null}

-- what stands at a number that no relation has
abbrev pub no_relation : Relation
no_relation = record { table = 0; alias = [] }

-- the relation of this number, from 1
abbrev pub relation_at : Query → ℕ → Relation
relation_at query rel = slice_index_or query.relations (rel - 1) no_relation

abbrev pub table_of : List Table → Query → ℕ → Table
table_of tables query rel = table_at tables (relation_at query rel).table

-- the later of this relation and the one that the operand mentions
abbrev pub later : ℕ → Operand → ℕ
later rel (operand.Col other) = max rel other.rel
later rel (operand.Const value) = rel
later rel (operand.Param number) = rel

-- the latest relation that a predicate mentions
abbrev pub belongs_to : Pred → ℕ
belongs_to pred = later pred.left.rel pred.right

abbrev pub is_equality : Op → Bool
is_equality op.Eq = true
is_equality op.Ne = false
is_equality op.Lt = false
is_equality op.Le = false
is_equality op.Gt = false
is_equality op.Ge = false
is_equality op.IsNull = false

abbrev pub is_range : Op → Bool
is_range op.Eq = false
is_range op.Ne = false
is_range op.Lt = true
is_range op.Le = true
is_range op.Gt = true
is_range op.Ge = true
is_range op.IsNull = false

-- a constant, a parameter or a column of an earlier relation
abbrev pub is_before : ℕ → Operand → Bool
is_before rel (operand.Col other) = nat_lt other.rel rel
is_before rel (operand.Const value) = true
is_before rel (operand.Param number) = true

-- an equality that belongs to the relation and ties a column of it
abbrev pub ties : ℕ → Pred → Bool
ties rel pred = is_equality pred.op && pred.left.rel == rel && is_before rel pred.right

-- the columns that equalities tie
abbrev pub tied_set : Query → ℕ → ℕ
tied_set query rel = set_of (map (λ pred. pred.left.col) (filter (ties rel) query.preds))

-- whether the operand is the column of the relation
abbrev pub is_column : Operand → ℕ → ℕ → Bool
is_column (operand.Col other) rel col = other.rel == rel && other.col == col
is_column (operand.Const value) rel col = false
is_column (operand.Param number) rel col = false

-- the equality of this key column and this column of the earlier relation
abbrev pub spells : ℕ → ℕ → Pred → ℕ × ℕ → Bool
spells rel earlier pred (child, parent) =
    is_equality pred.op && pred.left.rel == rel && pred.left.col == parent && is_column pred.right earlier child

-- some predicate is this equality
abbrev pub is_spelt : Query → ℕ → ℕ → ℕ × ℕ → Bool
is_spelt query rel earlier pair = list_any (λ pred. spells rel earlier pred pair) query.preds

-- the predicate is of another relation, or one of these equalities
abbrev pub spells_one : ℕ → ℕ → List (ℕ × ℕ) → Pred → Bool
spells_one rel earlier pairs pred = not (belongs_to pred == rel) || list_any (spells rel earlier pred) pairs

-- the equalities spell the foreign key whole, and nothing else belongs to the relation
abbrev pub is_whole : Query → ℕ → ℕ → List (ℕ × ℕ) → Bool
is_whole query rel earlier pairs =
    list_all (is_spelt query rel earlier) pairs && list_all (spells_one rel earlier pairs) query.preds

-- a foreign key declared from the table of the earlier relation, without nullable columns, ties the relation
abbrev pub is_tied : List Table → Query → ℕ → ℕ → Bool
is_tied tables query rel earlier =
    list_any (λ foreign. foreign.table == (relation_at query rel).table
    && have_no_null (table_of tables query earlier).columns foreign.cols
    && is_whole query rel earlier (zip foreign.cols (table_of tables query rel).key))
    (table_of tables query earlier).foreign

abbrev pub is_total : List Table → Query → ℕ → Bool
is_total tables query rel = list_any (is_tied tables query rel) (range_with_len 1 (rel - 1))

-- an ORDER BY column of the relation that is not in the set
abbrev pub is_rest : ℕ → ℕ → OrderItem → Bool
is_rest rel set item = item.col.rel == rel && not (has_col set item.col.col)

abbrev pub part_of : OrderItem → KeyPart
part_of item = record { col = item.col.col; dir = item.dir }

-- O': the ORDER BY columns of the relation that are not fixed
abbrev pub order_rest : Query → ℕ → List KeyPart
order_rest query rel = map part_of (filter (is_rest rel (tied_set query rel)) query.order)

-- the first column of the parts
abbrev pub first_column : List KeyPart → Option ℕ
first_column [] = None
first_column (part ∷ parts) = Some part.col

abbrev pub is_column_at : ℕ → Option ℕ → Bool
is_column_at col None = false
is_column_at col (Some first) = first == col

-- a predicate of another relation, on a column of the set, or a range on the first column
abbrev pub keeps_range : ℕ → ℕ → Option ℕ → Pred → Bool
keeps_range rel set first pred =
    not (belongs_to pred == rel) || has_col set pred.left.col || is_range pred.op && is_column_at pred.left.col first

-- a predicate on a column that is not fixed is a range on the first column of O'
abbrev pub range_on : Query → ℕ → Bool
range_on query rel = list_all (keeps_range rel (tied_set query rel) (first_column (order_rest query rel))) query.preds

-- ORDER BY names the column
abbrev pub is_ordered : Query → ℕ → ℕ → Bool
is_ordered query rel col = list_any (λ item. item.col.rel == rel && item.col.col == col) query.order

abbrev pub key_item : ℕ → ℕ → OrderItem
key_item rel col = record { col = record { rel = rel; col = col }; dir = Asc }

-- the key columns of a relation that ORDER BY does not name, ascending, unless it is a lookup
abbrev pub key_items : List Table → Query → ℕ → List OrderItem
key_items tables query rel =
    let table = table_of tables query rel in
    if is_lookup table (tied_set query rel) then []
    else map (key_item rel) (filter (λ col. not (is_ordered query rel col)) table.key)

abbrev pub position_columns : List Table → Query → List OrderItem
position_columns tables query = query.order ++ flat_map (key_items tables query)
    (range_with_len 1 (length query.relations))
