-- Which trees are plans for a query.
use Rattle.std.specs.Prelude.{◌≡◌, List, map, Contains}
use Rattle.pq_base.specs.declared.number.Choice.{Choice}
use Rattle.pq_schema.specs.declared.table.Table.{Table}
use Rattle.pq_schema.specs.declared.query.Query.{Query}
use Rattle.pq_schema.specs.Candidates.{candidates}
use Rattle.pq_plan.specs.declared.physical.Physical.{Physical}
use Rattle.pq_plan.specs.Nodes.{Node, nodes, plan_nodes}

-- the query has this candidate
abbrev pub HasChoice : List Table → Query → Choice → Type 0
HasChoice tables query choice = Contains (map (λ candidate. candidate.choice) (candidates tables query)) choice

-- the tree is built for this candidate of the query
pub record IsPlanFor (tables : List Table) (query : Query) (choice : Choice) (tree : Physical) : Type 0 where
  pub candidate : HasChoice tables query choice
  pub built : nodes tree ≡ plan_nodes tables query choice

-- the tree is a plan for the query
abbrev pub IsPlan : List Table → Query → Physical → Type 0
IsPlan tables query tree = (choice : Choice) × IsPlanFor tables query choice tree

-- the node stands in a plan for the query
pub record IsPlanNode (tables : List Table) (query : Query) (node : Node) : Type 0 where
  pub choice : Choice
  pub candidate : HasChoice tables query choice
  pub there : Contains (plan_nodes tables query choice) node
