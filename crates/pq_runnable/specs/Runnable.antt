-- What running the nodes of a plan rests on, and what each node has of it.
use Rattle.std.specs.Prelude.{◌≡◌, ℕ, ◌<◌, ◌≤◌, ◌^◌, List, [], ◌∷◌, length}
use Rattle.std.specs.List.{AllByRecursion}
use Rattle.pq_base.specs.declared.number.Bound.{Bound}
use Rattle.pq_schema.specs.Costs.{plus}
use Rattle.pq_schema.specs.declared.query.Query.{Query}
use Rattle.pq_schema.specs.declared.table.Table.{Table}
use Rattle.pq_plan.specs.declared.physical.Physical.{Physical}
use Rattle.pq_plan.specs.Cost.{cost}
use Rattle.pq_plan.specs.Nodes.{Node, lookup, limit_range, stop_scan, keep, sort, cut, project, nodes, run_of}
use Rattle.pq_plan.specs.Plans.{IsPlan}
use Rattle.pq_nodes.specs.Inverse.{IsNodeOf, HasIndex}
use Rattle.pq_nodes.specs.Ordered.{after_node, after_nodes, StandsAt, StandInOrder}
use Rattle.pq_nodes.specs.Paid.{node_cost, IsAtMost}

-- where combinations are ordered, cut or given out, all relations were read
abbrev pub IsWholeAt : ℕ → ℕ → Node → Type 0
IsWholeAt all count (lookup rel) = Unit {0}
IsWholeAt all count (limit_range rel limit n access) = Unit {0}
IsWholeAt all count (stop_scan rel k access) = Unit {0}
IsWholeAt all count (keep rel) = Unit {0}
IsWholeAt all count sort = count ≡ all
IsWholeAt all count (cut k) = count ≡ all
IsWholeAt all count project = count ≡ all

abbrev pub AreWhole : ℕ → ℕ → List Node → Type 0
AreWhole all count [] = Unit {0}
AreWhole all count (node ∷ rest) = IsWholeAt all count node × AreWhole all (after_node count node) rest

-- the nodes are of the query, their sequences are there, they stand in order, and what is granted suffices for them
pub record IsRunnable (tables : List Table) (query : Query) (granted : Bound) (list : List Node) : Type 0 where
  pub each : AllByRecursion (IsNodeOf tables query) list
  pub indexed : AllByRecursion (HasIndex tables query) list
  pub order : StandInOrder 0 list
  pub whole : AreWhole (length query.relations) 0 list
  pub paid : IsAtMost (run_of list).cost granted

-- after so much was spent on so many inputs at most, what is granted suffices for the node
abbrev pub SufficesFor : Bound → List Node → Node → Type 0
SufficesFor granted front node =
    (inputs : ℕ) (spent : Bound) → inputs ≤ (run_of front).inputs → IsAtMost spent (run_of front).cost →
    IsAtMost (plus spent (node_cost inputs node)) granted

-- the same of one node behind others
pub record IsRunnableNode (tables : List Table) (query : Query) (granted : Bound) (front : List Node) (node : Node)
    : Type 0 where
  pub is : IsNodeOf tables query node
  pub indexed : HasIndex tables query node
  pub stands : StandsAt (after_nodes 0 front) node
  pub whole : IsWholeAt (length query.relations) (after_nodes 0 front) node
  pub affords : SufficesFor granted front node

-- a tree that is a plan for the query, whose nodes can be run within its own cost, and that cost can be granted
pub record IsRunnablePlan (tables : List Table) (query : Query) (tree : Physical) : Type 0 where
  pub plan : IsPlan tables query tree
  pub runnable : IsRunnable tables query (cost tree) (nodes tree)
  pub narrow_ops : (cost tree).ops < 2 ^ 32
  pub narrow_entries : (cost tree).entries < 2 ^ 32
