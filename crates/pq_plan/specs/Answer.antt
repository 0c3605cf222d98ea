-- The answer of a query over tables.
--
-- Tables are one list of rows, each with the number of its table. The combinations of a query are the
-- product of its relations' rows in FROM order, kept where all predicates hold. They come in the order of
-- their positions. With LIMIT k or PAGINATE k the answer has the first k strictly after the cursor.
use Rattle.std.specs.Prelude.{ℕ, zero, suc, ◌-◌, Bool, List, [], ◌∷◌, ◌++◌, map, filter, flat_map, take, length, slice_get, slice_index_or, Option, Some, None}
use Rattle.std.specs.List.{list_all}
use Rattle.std.specs.declared.cmp.Ordering.{Ordering}
use Rattle.std.specs.Ordering.{is_lt}
use Rattle.pq_base.specs.declared.value.Value.{Value}
use Rattle.pq_base.specs.Order.{position_cmp}
use Rattle.pq_schema.specs.declared.table.Table.{Table}
use Rattle.pq_schema.specs.declared.query.ColRef.{ColRef}
use Rattle.pq_schema.specs.declared.query.Operand.{Operand}
use Rattle.pq_schema.specs.declared.query.Operand.TheVariants as operand
use Rattle.pq_schema.specs.declared.query.Pred.{Pred}
use Rattle.pq_schema.specs.declared.query.Query.{Query}
use Rattle.pq_base.specs.Comparing.{compares}
use Rattle.pq_schema.specs.Relations.{relation_at, position_columns}
pub use Rattle.pq_schema.specs.Rows.{rows_of, no_value}
use Rattle.pq_schema.specs.Candidates.{stop_size}
use Rattle.pq_base.specs.Sorting.{sort_by}

-- ---- combinations: one row for each of the first relations

-- the row of a relation, numbered from 1
abbrev pub row_of : ℕ → List (List Value) → List Value
row_of rel combo = slice_index_or combo (rel - 1) []

-- the value at a column of a relation, where it is there
abbrev pub cell : List (List Value) → ColRef → Option Value
cell combo col = slice_get (row_of col.rel combo) col.col

-- a constant, a parameter, numbered from 1, or a column
abbrev pub side : List Value → List (List Value) → Operand → Option Value
side params combo (operand.Const value) = Some value
side params combo (operand.Param number) = slice_get params (number - 1)
side params combo (operand.Col col) = cell combo col

abbrev pub holds : List Value → List (List Value) → Pred → Bool
holds params combo pred = compares pred.op (cell combo pred.left) (side params combo pred.right)

-- the values at some columns
abbrev pub values_at : List (List Value) → List ColRef → List Value
values_at combo cols = map (λ col. slice_index_or (row_of col.rel combo) col.col no_value) cols

-- ---- a query over a schema's tables, with its parameters
pub record Question : Type 0 where
  pub tables : List Table
  pub query : Query
  pub rows : List (ℕ × List Value)
  pub params : List Value

abbrev pub question : List Table → Query → List (ℕ × List Value) → List Value → Question
question tables query rows params = record { tables = tables; query = query; rows = rows; params = params }

module _ (q : Question) where
  -- the rows of a relation's table
  abbrev pub rows_at : ℕ → List (List Value)
  rows_at rel = rows_of (relation_at q.query rel).table q.rows

  -- each combination of a row of each of the first relations, as many as are said, in FROM order
  abbrev pub product : ℕ → List (List (List Value))
  product zero = [] ∷ []
  product (suc i) = flat_map (λ combo. map (λ row. combo ++ row ∷ []) (rows_at (suc i))) (product i)

  -- those of all relations where all predicates hold
  abbrev pub combos : List (List (List Value))
  combos = filter (λ combo. list_all (holds q.params combo) q.query.preds) (product (length q.query.relations))

  -- the values at the position columns
  abbrev pub position : List (List Value) → List Value
  position combo = values_at combo (map (λ item. item.col) (position_columns q.tables q.query))

  -- each position column has its direction
  abbrev pub by_position : List Value → List Value → Ordering
  by_position = position_cmp (map (λ item. item.dir) (position_columns q.tables q.query))

  abbrev pub in_order : List (List (List Value)) → List (List (List Value))
  in_order combos = sort_by by_position position combos

  -- all combinations in the order of their positions
  abbrev pub whole : List (List (List Value))
  whole = in_order combos

  -- those strictly after the cursor's position
  abbrev pub past : Option (List Value) → List (List (List Value)) → List (List (List Value))
  past None combos = combos
  past (Some at) combos = filter (λ combo. is_lt (by_position at (position combo))) combos

  abbrev pub first_past : Option (List Value) → ℕ → List (List (List Value)) → List (List (List Value))
  first_past after k combos = take k (past after combos)

  -- without a stop the cursor plays no part
  abbrev pub stopped : Option ℕ → Option (List Value) → List (List (List Value)) → List (List (List Value))
  stopped None after combos = combos
  stopped (Some k) after combos = first_past after k combos

  -- the combinations of the answer
  abbrev pub answered : Option (List Value) → List (List (List Value))
  answered after = stopped (stop_size q.query.stop) after whole

-- the selected columns of a combination
abbrev pub selected_values : Query → List (List Value) → List Value
selected_values query combo = values_at combo query.select

-- the answer over these tables: the schema's tables, the query, the rows, the parameters and the cursor
abbrev pub answer : List Table → Query → List (ℕ × List Value) → List Value → Option (List Value) → List (List Value)
answer tables query rows params after =
    map (selected_values query) (answered (record {
      tables = tables;
      query = query;
      rows = rows;
      params = params;
    }) after)
