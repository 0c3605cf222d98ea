-- The size and the cost of a tree, and the trees whose cost is asked.
use Rattle.std.specs.Prelude.{ℕ, ◌≤◌, ◌≢◌, Bool, true, false, All, List, [], ◌∷◌, ⊤}
use Rattle.pq_base.specs.declared.number.Bound.{Bound}
use Rattle.pq_schema.specs.declared.table.Access.{Access}
use Rattle.pq_schema.specs.declared.table.Access.TheVariants.{Primary, Secondary}
use Rattle.pq_schema.specs.Costs.{ReachedCost, start, bound, limit_cost, read_each, read_stop}
use Rattle.pq_plan.specs.declared.physical.Physical.{Physical}
use Rattle.pq_plan.specs.declared.physical.Physical.TheVariants as node

abbrev pub is_primary_access : Access → Bool
is_primary_access Primary = true
is_primary_access (Secondary number) = false

-- how many combinations it gives at most, and what it costs
abbrev pub reach : Physical → ReachedCost
reach node.Unit = start
reach (node.Lookup' p input rel) = read_each 1 (bound 1 1) (reach input)
reach (node.LimitRange' p input rel limit n access) =
    read_each n (limit_cost (is_primary_access access) n) (reach input)
reach (node.StopScan' p input rel k access) = read_stop k (is_primary_access access) (reach input)
reach (node.Filter' p input rel) = reach input
reach (node.Sort' p input) = reach input
reach (node.Cut' p input k) = reach input
reach (node.Project' p input) = reach input

abbrev pub cost : Physical → Bound
cost tree = (reach tree).cost

-- the relations that it reads, from the last
abbrev pub relations_read : Physical → List ℕ
relations_read node.Unit = []
relations_read (node.Lookup' p input rel) = rel ∷ relations_read input
relations_read (node.LimitRange' p input rel limit n access) = rel ∷ relations_read input
relations_read (node.StopScan' p input rel k access) = rel ∷ relations_read input
relations_read (node.Filter' p input rel) = relations_read input
relations_read (node.Sort' p input) = relations_read input
relations_read (node.Cut' p input k) = relations_read input
relations_read (node.Project' p input) = relations_read input

-- each differs from all that follow
abbrev pub AreDistinct : List ℕ → Type 0
AreDistinct [] = ⊤
AreDistinct (x ∷ xs) = All (λ y. y ≢ x) xs × AreDistinct xs

-- each n is at most 10,000 and each k at most 1,000
abbrev pub IsInLimits : Physical → Type 0
IsInLimits node.Unit = ⊤
IsInLimits (node.Lookup' p input rel) = IsInLimits input
IsInLimits (node.LimitRange' p input rel limit n access) = (n ≤ 10000) × IsInLimits input
IsInLimits (node.StopScan' p input rel k access) = (k ≤ 1000) × IsInLimits input
IsInLimits (node.Filter' p input rel) = IsInLimits input
IsInLimits (node.Sort' p input) = IsInLimits input
IsInLimits (node.Cut' p input k) = (k ≤ 1000) × IsInLimits input
IsInLimits (node.Project' p input) = IsInLimits input

-- each relation once at most, with a number of at most 6, and small numbers
pub record IsPlanTree (tree : Physical) : Type 0 where
  pub once : AreDistinct (relations_read tree)
  pub six : All (λ rel. rel ≤ 6) (relations_read tree)
  pub small : IsInLimits tree
