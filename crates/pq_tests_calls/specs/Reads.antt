-- The trees under the nodes of a plan, and the node that reads a relation.
use Rattle.std.specs.Prelude.{ℕ, List, Option, Some, None}
use Rattle.pq_schema.specs.declared.query.Query.{Query}
use Rattle.pq_schema.specs.declared.table.Table.{Table}
use Rattle.pq_plan.specs.declared.physical.Physical.{Physical}
use Rattle.pq_plan.specs.declared.physical.Physical.TheVariants as tree
use Rattle.pq_plan.specs.Nodes.{lookup, limit_range, stop_scan}
use Rattle.pq_nodes.specs.Operators.{IsReadyNode}

-- the outermost node of the tree reads the relation, and can be run
abbrev pub IsReadyAt : List Table → Query → ℕ → Physical → Type 0
IsReadyAt tables query rel (tree.Lookup' p input at) = IsReadyNode tables query (lookup rel)
IsReadyAt tables query rel (tree.LimitRange' p input at limit n access) =
    IsReadyNode tables query (limit_range rel limit n access)
IsReadyAt tables query rel (tree.StopScan' p input at k access) = IsReadyNode tables query (stop_scan rel k access)
IsReadyAt tables query rel _ = ⊥

-- the tree under the outermost node
abbrev pub input_of : Physical → Option Physical
input_of tree.Unit = None
input_of (tree.Lookup' p input rel) = Some input
input_of (tree.LimitRange' p input rel limit n access) = Some input
input_of (tree.StopScan' p input rel k access) = Some input
input_of (tree.Filter' p input rel) = Some input
input_of (tree.Sort' p input) = Some input
input_of (tree.Cut' p input k) = Some input
input_of (tree.Project' p input) = Some input
