-- The nodes of a plan, each with what it costs and gives (docs/FORMATS.md, "Plans").
use Rattle.std.specs.Prelude.{ℕ, ◌^◌, ◌<◌, ◌≤◌, ⊤, List, [], ◌∷◌}
use Rattle.pq_base.specs.declared.number.Bound.{Bound}
use Rattle.pq_schema.specs.Costs.{ReachedCost, bound, plus}
use Rattle.pq_plan.specs.Nodes.{Node, lookup, limit_range, stop_scan, keep, sort, cut, project, node_step}
use Rattle.pq_plan_lines.specs.declared.node_line.NodeLine.{NodeLine}
use Rattle.pq_plan_lines.specs.declared.node_line.PlanNode.{PlanNode}
use Rattle.pq_plan_lines.specs.declared.node_line.PlanNode.TheVariants as shown

-- a node as it is told
abbrev pub shown_node : Node → PlanNode
shown_node (lookup rel) = shown.Lookup rel
shown_node (limit_range rel limit n access) = shown.LimitRange rel limit n access
shown_node (stop_scan rel k access) = shown.StopScan rel k access
shown_node (keep rel) = shown.Filter rel
shown_node sort = shown.Sort
shown_node (cut k) = shown.Cut k
shown_node project = shown.Project

-- the node that is told of
abbrev pub meant : PlanNode → Node
meant (shown.Lookup rel) = lookup rel
meant (shown.LimitRange rel limit n access) = limit_range rel limit n access
meant (shown.StopScan rel k access) = stop_scan rel k access
meant (shown.Filter rel) = keep rel
meant shown.Sort = sort
meant (shown.Cut k) = cut k
meant shown.Project = project

-- so many inputs that cost nothing
abbrev pub inputs_alone : ℕ → ReachedCost
inputs_alone inputs = record { inputs = inputs; cost = bound 0 0 }

-- what a node costs, and how many combinations it gives, for so many inputs
abbrev pub node_cost : ℕ → Node → Bound
node_cost inputs node = (node_step (inputs_alone inputs) node).cost

abbrev pub node_size : ℕ → Node → ℕ
node_size inputs node = (node_step (inputs_alone inputs) node).inputs

abbrev pub line_of : ℕ → Node → NodeLine
line_of inputs node =
    record { node = shown_node node; cost = node_cost inputs node; size = node_size inputs node }

-- each node gets what the one before it gives
abbrev pub lines_behind : ℕ → List Node → List NodeLine
lines_behind inputs [] = []
lines_behind inputs (node ∷ rest) = line_of inputs node ∷ lines_behind (node_size inputs node) rest

-- from the innermost on, which gets the one combination of no relation
abbrev pub plan_lines : List Node → List NodeLine
plan_lines list = lines_behind 1 list

-- all operations and all entries
abbrev pub sum_of : List NodeLine → Bound
sum_of [] = bound 0 0
sum_of (line ∷ rest) = plus line.cost (sum_of rest)

-- a read of at most 10,000 rows for each input, or of at most 1,000 in all, whose inputs fit 90 bits
abbrev pub IsSmall : ℕ → Node → Type 0
IsSmall inputs (lookup rel) = inputs < 2 ^ 90
IsSmall inputs (limit_range rel limit n access) = (n ≤ 10000) × (inputs < 2 ^ 90)
IsSmall inputs (stop_scan rel k access) = (k ≤ 1000) × (inputs < 2 ^ 90)
IsSmall inputs (keep rel) = ⊤
IsSmall inputs sort = ⊤
IsSmall inputs (cut k) = ⊤
IsSmall inputs project = ⊤
