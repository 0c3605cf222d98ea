-- The nodes that run a logical tree, and the least of candidates with their trees.
use Rattle.std.specs.Prelude.{◌++◌, ◌∷◌, [], List, if◌then◌else◌, fold, Option, Some, None}
use Rattle.pq_schema.specs.declared.table.Table.{Table}
use Rattle.pq_schema.specs.declared.query.Query.{Query}
use Rattle.pq_schema.specs.Costs.{is_less}
use Rattle.pq_plan.specs.Meaning.{Tree, Unit, Read, DataStop, StopRead, Order, Cut, Project}
use Rattle.pq_plan.specs.Nodes.{Node, stop_scan, sort, cut, project, read_nodes, stop_access}
use Rattle.pq_stop_push.specs.Pushes.{PlannedPush}

-- a data stop needs no node, since it drops nothing
abbrev pub lowered_nodes : List Table → Query → Tree → List Node
lowered_nodes tables query Unit = []
lowered_nodes tables query (Read input rel) = lowered_nodes tables query input ++ read_nodes tables query rel
lowered_nodes tables query (DataStop input rel n) = lowered_nodes tables query input
lowered_nodes tables query (StopRead input rel k) =
    lowered_nodes tables query input ++ stop_scan rel k (stop_access tables query rel) ∷ []
lowered_nodes tables query (Order input) = lowered_nodes tables query input ++ sort ∷ []
lowered_nodes tables query (Cut input k) = lowered_nodes tables query input ++ cut k ∷ []
lowered_nodes tables query (Project input) = lowered_nodes tables query input ++ project ∷ []

abbrev pub lesser_planned : PlannedPush → PlannedPush → PlannedPush
lesser_planned best next = if is_less next.bound best.bound then next else best

-- the first of the least
abbrev pub least_planned : List PlannedPush → Option PlannedPush
least_planned [] = None
least_planned (c ∷ cs) = Some (fold lesser_planned c cs)
