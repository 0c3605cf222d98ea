-- How often a plan asks the store. What a node asks for all its inputs is one round.
use Rattle.std.specs.Prelude.{ℕ, sum_by}
use Rattle.pq_schema.specs.declared.table.Access.{Access}
use Rattle.pq_schema.specs.declared.table.Access.TheVariants.{Primary, Secondary}
use Rattle.pq_plan.specs.declared.physical.Physical.{Physical}
use Rattle.pq_plan.specs.Nodes.{Node, nodes, lookup, limit_range, stop_scan, keep, sort, cut, project}

-- over an index the rows that its entries name are asked for behind the entries
abbrev pub access_rounds : Access → ℕ
access_rounds Primary = 1
access_rounds (Secondary number) = 2

abbrev pub node_rounds : Node → ℕ
node_rounds (lookup rel) = 1
node_rounds (limit_range rel limit n access) = access_rounds access
node_rounds (stop_scan rel k access) = access_rounds access
node_rounds (keep rel) = 0
node_rounds sort = 0
node_rounds (cut k) = 0
node_rounds project = 0

abbrev pub plan_rounds : Physical → ℕ
plan_rounds tree = sum_by node_rounds (nodes tree)
