-- What the nodes of a plan mean: each makes combinations of its inputs.
use Rattle.std.specs.Prelude.{◌≡◌, ℕ, ◌-◌, Bool, ◌==◌, ◌&&◌, List, [], ◌∷◌, ◌++◌, map, filter, flat_map, fold, take, slice_get, slice_index_or, Option, option_and_then}
use Rattle.std.specs.List.{list_all, find}
use Rattle.pq_base.specs.declared.value.Value.{Value}
use Rattle.pq_base.specs.declared.op.Op.TheVariants as op
use Rattle.pq_schema.specs.Relations.{table_of, ties}
use Rattle.pq_schema.specs.Candidates.{no_limit}
use Rattle.pq_plan.specs.declared.physical.Physical.{Physical}
use Rattle.pq_schema.specs.declared.table.Table.{Table}
use Rattle.pq_schema.specs.declared.query.Query.{Query}
use Rattle.pq_base.specs.Comparing.{compares}
use Rattle.pq_plan.specs.Answer.{Question, side, rows_at, in_order, first_past, selected_values, answer}
use Rattle.pq_plan.specs.Kept.{KeepsSchema}
use Rattle.pq_plan.specs.Meaning.{keeps, read, key_of}
use Rattle.pq_plan.specs.Nodes.{Node, lookup, limit_range, stop_scan, keep, sort, cut, project, nodes}

module _ (q : Question) where
  -- what the first equality in the text that ties the column says that it is
  abbrev pub tied_value : ℕ → List (List Value) → ℕ → Option Value
  tied_value rel combo col = option_and_then
      (λ pred. side q.params combo pred.right) (find
      (λ pred. ties rel pred && (pred.left.col == col)) q.query.preds)

  -- the row has the tied values at these columns
  abbrev pub is_match : ℕ → List ℕ → List (List Value) → List Value → Bool
  is_match rel cols combo row = list_all (λ col. compares op.Eq (slice_get row col) (tied_value rel combo col)) cols

  abbrev pub matching : ℕ → List ℕ → List (List Value) → List (List Value)
  matching rel cols combo = filter (is_match rel cols combo) (rows_at q rel)

  -- each input, followed by the row whose key is tied, where there is one
  abbrev pub looked_up : ℕ → List (List (List Value)) → List (List (List Value))
  looked_up rel inputs = flat_map (λ combo. map
      (λ row. combo ++ row ∷ []) (take 1 (matching rel (key_of q rel) combo))) inputs

  -- each input, followed by each row that has the tied values at these columns
  abbrev pub ranged : ℕ → List ℕ → List (List (List Value)) → List (List (List Value))
  ranged rel cols inputs = flat_map (λ combo. map (λ row. combo ++ row ∷ []) (matching rel cols combo)) inputs

  -- the columns of a limit, by its number from 1
  abbrev pub limit_columns : ℕ → ℕ → List ℕ
  limit_columns rel limit = (slice_index_or (table_of q.tables q.query rel).limits (limit - 1) no_limit).cols

  abbrev pub apply : Option (List Value) → List (List (List Value)) → Node → List (List (List Value))
  apply after inputs (lookup rel) = looked_up rel inputs
  apply after inputs (limit_range rel limit n access) = ranged rel (limit_columns rel limit) inputs
  apply after inputs (stop_scan rel k access) = first_past q after k (in_order q (read q rel inputs))
  apply after inputs (keep rel) = filter (keeps q rel) inputs
  apply after inputs sort = in_order q inputs
  apply after inputs (cut k) = first_past q after k inputs
  apply after inputs project = inputs

  -- from the innermost node on
  abbrev pub run : Option (List Value) → List Node → List (List (List Value))
  run after list = fold (apply after) ([] ∷ []) list

  -- what a tree means
  abbrev pub plan_mean : Option (List Value) → Physical → List (List (List Value))
  plan_mean after tree = run after (nodes tree)

-- over all tables that keep the schema, with all parameters and at all cursors, the plan means the answer
unfoldable pub PlanMeansAnswer : List Table → Query → Physical → Type 0
PlanMeansAnswer tables query tree =
    (rows : List (ℕ × List Value)) → KeepsSchema tables rows → (params : List Value) (after : Option (List Value)) →
    map (selected_values query) (plan_mean (record { tables = tables; query = query; rows = rows; params = params })
    after tree) ≡ answer tables query rows params after
