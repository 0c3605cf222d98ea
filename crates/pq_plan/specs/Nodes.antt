-- A tree as the list of its nodes, from the innermost on, and the nodes of a plan for a query.
use Rattle.std.specs.Prelude.{ℕ, ◌+◌, ◌-◌, fold, flat_map, length, List, [], ◌∷◌, ◌++◌, if◌then◌else◌, slice_index_or, unwrap_or}
use Rattle.std.specs.Option.{option_map_or}
use Rattle.std.specs.List.{range_with_len}
use Rattle.pq_base.specs.Columns.{set_of}
use Rattle.pq_base.specs.declared.number.Choice.{Choice}
use Rattle.pq_base.specs.declared.number.Choice.TheVariants.{Whole, Stop}
use Rattle.pq_schema.specs.declared.table.Access.{Access}
use Rattle.pq_schema.specs.declared.table.Access.TheVariants.{Primary, Secondary}
use Rattle.pq_schema.specs.declared.table.Table.{Table}
use Rattle.pq_schema.specs.declared.query.Query.{Query}
use Rattle.pq_schema.specs.Costs.{ReachedCost, start, bound, limit_cost, read_each, read_stop}
use Rattle.pq_schema.specs.Sequences.{group_access, serving_access}
use Rattle.pq_schema.specs.Tables.{is_lookup, limit_place}
use Rattle.pq_schema.specs.Relations.{table_of, tied_set, order_rest}
use Rattle.pq_schema.specs.Candidates.{no_limit, stop_size}
use Rattle.pq_plan.specs.declared.physical.Physical.{Physical}
use Rattle.pq_plan.specs.declared.physical.Physical.TheVariants as tree
use Rattle.pq_plan.specs.Cost.{is_primary_access}

pub data Node : Type 0 where
  lookup : ℕ → Node
  limit_range : ℕ → ℕ → ℕ → Access → Node
  stop_scan : ℕ → ℕ → Access → Node
  keep : ℕ → Node
  sort : Node
  cut : ℕ → Node
  project : Node

-- the nodes of a tree, from the innermost on
abbrev pub nodes : Physical → List Node
nodes tree.Unit = []
nodes (tree.Lookup' p input rel) = nodes input ++ lookup rel ∷ []
nodes (tree.LimitRange' p input rel limit n access) = nodes input ++ limit_range rel limit n access ∷ []
nodes (tree.StopScan' p input rel k access) = nodes input ++ stop_scan rel k access ∷ []
nodes (tree.Filter' p input rel) = nodes input ++ keep rel ∷ []
nodes (tree.Sort' p input) = nodes input ++ sort ∷ []
nodes (tree.Cut' p input k) = nodes input ++ cut k ∷ []
nodes (tree.Project' p input) = nodes input ++ project ∷ []

-- what one node costs and gives
abbrev pub node_step : ReachedCost → Node → ReachedCost
node_step before (lookup rel) = read_each 1 (bound 1 1) before
node_step before (limit_range rel limit n access) = read_each n (limit_cost (is_primary_access access) n) before
node_step before (stop_scan rel k access) = read_stop k (is_primary_access access) before
node_step before (keep rel) = before
node_step before sort = before
node_step before (cut k) = before
node_step before project = before

abbrev pub run_of : List Node → ReachedCost
run_of list = fold node_step start list

-- the nodes that read a relation: a lookup, or the range of the limit taken, and then the filter
abbrev pub read_nodes : List Table → Query → ℕ → List Node
read_nodes tables query rel =
    let table = table_of tables query rel in
    let set = tied_set query rel in
    if is_lookup table set then lookup rel ∷ keep rel ∷ []
    else option_map_or
    (λ place. let limit = slice_index_or table.limits place no_limit in
    limit_range rel (place + 1) limit.n (unwrap_or (group_access table (set_of limit.cols)) Primary) ∷ keep rel ∷ [])
    (limit_place table set) []

-- the nodes that read some relations
abbrev pub range_nodes : List Table → Query → ℕ → ℕ → List Node
range_nodes tables query from count = flat_map (read_nodes tables query) (range_with_len from count)

-- the serving sequence, or the new index, whose number is one above the table's
abbrev pub stop_access : List Table → Query → ℕ → Access
stop_access tables query p =
    let table = table_of tables query p in
    unwrap_or (serving_access table (tied_set query p) (order_rest query p)) (Secondary (length table.indexes + 1))

abbrev pub choice_nodes : List Table → Query → Choice → List Node
choice_nodes tables query Whole = range_nodes tables query 1 (length query.relations)
choice_nodes tables query (Stop p) =
    range_nodes tables query 1 (p - 1)
    ++ stop_scan p (unwrap_or (stop_size query.stop) 0) (stop_access tables query p) ∷ []
    ++ range_nodes tables query (p + 1) (length query.relations - p)

-- the nodes of a plan for the query, built for this candidate
abbrev pub plan_nodes : List Table → Query → Choice → List Node
plan_nodes tables query choice =
    choice_nodes tables query choice ++ sort ∷ [] ++ option_map_or
    (λ k. cut k ∷ []) (stop_size query.stop) [] ++ project ∷ []
