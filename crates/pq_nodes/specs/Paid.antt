-- What a node costs and gives for so many inputs.
use Rattle.std.specs.Prelude.{ℕ, ◌*◌, ◌≤◌, if◌then◌else◌}
use Rattle.pq_base.specs.declared.number.Bound.{Bound}
use Rattle.pq_schema.specs.Costs.{ReachedCost, bound, plus, times, limit_cost}
use Rattle.pq_plan.specs.Cost.{is_primary_access}
use Rattle.pq_plan.specs.Nodes.{Node, lookup, limit_range, stop_scan, keep, sort, cut, project}

abbrev pub node_cost : ℕ → Node → Bound
node_cost inputs (lookup rel) = times inputs (bound 1 1)
node_cost inputs (limit_range rel limit n access) = times inputs (limit_cost (is_primary_access access) n)
node_cost inputs (stop_scan rel k access) =
    plus (bound inputs (inputs * k)) (if is_primary_access access then bound 0 0 else bound k k)
node_cost inputs (keep rel) = bound 0 0
node_cost inputs sort = bound 0 0
node_cost inputs (cut k) = bound 0 0
node_cost inputs project = bound 0 0

abbrev pub node_size : ℕ → Node → ℕ
node_size inputs (lookup rel) = inputs
node_size inputs (limit_range rel limit n access) = inputs * n
node_size inputs (stop_scan rel k access) = k
node_size inputs (keep rel) = inputs
node_size inputs sort = inputs
node_size inputs (cut k) = inputs
node_size inputs project = inputs

-- neither number is greater
pub record IsAtMost (a b : Bound) : Type 0 where
  pub ops : a.ops ≤ b.ops
  pub entries : a.entries ≤ b.entries

pub record IsUpTo (a b : ReachedCost) : Type 0 where
  pub inputs : a.inputs ≤ b.inputs
  pub cost : IsAtMost a.cost b.cost
