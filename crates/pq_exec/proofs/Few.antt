-- Running a plan gives no more combinations than the entries that it costs.
use Rattle.std.proofs.Common.{ℕ, ◌+◌, ◌-◌, ◌*◌, ◌<◌, ◌≤◌, List, [], ◌∷◌, fold, Bool, cond, true, false, sym, subst, arith}
use Rattle.std.specs.List.{AllByRecursion}
use Rattle.std.proofs.Math.Nat.{mul-le-mul_left, mul-le-mul_right}
use Rattle.pq_schema.specs.declared.query.Query.{Query}
use Rattle.pq_schema.specs.declared.table.Access.{Access}
use Rattle.pq_schema.specs.declared.table.Table.{Table}
use Rattle.pq_schema.specs.Candidates.{no_limit}
use Rattle.pq_schema.specs.Costs.{ReachedCost, start, bound, limit_cost}
use Rattle.pq_schema.specs.Relations.{relation_at, no_relation}
use Rattle.pq_schema.specs.Resolved.{IsResolved}
use Rattle.pq_schema.specs.Sound.{AreMade}
use Rattle.pq_plan.specs.Cost.{is_primary_access}
use Rattle.pq_plan.specs.Nodes.{Node, lookup, limit_range, stop_scan, keep, sort, cut, project, node_step, run_of}
use Rattle.pq_nodes.specs.Inverse.{IsNodeOf, IsLimited}
use Rattle.pq_nodes.specs.Ordered.{after_node, after_nodes}

-- what reads for one input may give some
abbrev GivesSome : Node → Type 0
GivesSome (lookup rel) = Unit {0}
GivesSome (limit_range rel limit n access) = 1 ≤ n
GivesSome (stop_scan rel k access) = 1 ≤ k
GivesSome (keep rel) = Unit {0}
GivesSome sort = Unit {0}
GivesSome (cut k) = Unit {0}
GivesSome project = Unit {0}

-- where some relations were read, there are no more inputs than entries
abbrev IsFew : ℕ → ReachedCost → Type 0
IsFew count r = (0 < count → r.inputs ≤ r.cost.entries) × (1 ≤ r.inputs)

some_product : (a b : ℕ) → 1 ≤ a → 1 ≤ b → 1 ≤ a * b
some_product a b low one = let more : a * 1 ≤ a * b = mul-le-mul_left a one in omega (arith, more)

range_few : (e z n : ℕ) (primary : Bool) → z * n ≤ e + z * (limit_cost primary n).entries
range_few e z n true = omega arith
range_few e z n false = omega arith

stop_few : (e z k : ℕ) (served : Bool) → 1 ≤ z → k ≤ e + z * k + (cond served (bound 0 0) (bound k k)).entries
stop_few e z k true low = let more : 1 * k ≤ z * k = mul-le-mul_right k low in omega (arith, more)
stop_few e z k false low = omega arith

step_few : (count : ℕ) (r : ReachedCost) (node : Node) → GivesSome node → IsFew count r → IsFew (after_node count node) (node_step r node)
step_few count r (lookup rel) some few = let low = few.1 in (λ _. omega arith, omega arith)
step_few count r (limit_range rel limit n access) some few = (λ _. range_few r.cost.entries r.inputs n (is_primary_access access), some_product r.inputs n few.1 some)
step_few count r (stop_scan rel k access) some few = (λ _. stop_few r.cost.entries r.inputs k (is_primary_access access) few.1, some)
step_few count r (keep rel) some few = few
step_few count r sort some few = few
step_few count r (cut k) some few = few
step_few count r project some few = few

list_few : (list : List Node) (count : ℕ) (r : ReachedCost) → AllByRecursion GivesSome list → IsFew count r → IsFew (after_nodes count list) (fold node_step r list)
list_few [] count r each few = few
list_few (node ∷ rest) count r each few = list_few rest (after_node count node) (node_step r node) each.1 (step_few count r node each.0 few)

-- a limit is of at least one row, and a stop of at least one
limit_some : (tables : List Table) (query : Query) (rel limit n : ℕ) (access : Access) → AreMade tables → IsResolved tables query → IsLimited tables query rel limit n access → 1 ≤ n
limit_some tables query rel limit n access made resolved is =
    let low = is.relation.from_one in
    let high = is.relation.there in
    let one = is.from_one in
    let inside = is.there in
    let relation = resolved.relations (rel - 1) no_relation (omega arith) in
    let table = made (relation_at query rel).table relation.from_one relation.there in
    let own = table.limits (limit - 1) no_limit (omega arith) in
    subst (λ k. 1 ≤ k) (sym is.size) own.from_one

gives_some : (tables : List Table) (query : Query) → AreMade tables → IsResolved tables query → (node : Node) → IsNodeOf tables query node → GivesSome node
gives_some tables query made resolved (lookup rel) is = tt
gives_some tables query made resolved (limit_range rel limit n access) is = limit_some tables query rel limit n access made resolved is
gives_some tables query made resolved (stop_scan rel k access) is = is.from_one
gives_some tables query made resolved (keep rel) is = tt
gives_some tables query made resolved sort is = tt
gives_some tables query made resolved (cut k) is = tt
gives_some tables query made resolved project is = tt

each_gives : (tables : List Table) (query : Query) → AreMade tables → IsResolved tables query → (list : List Node) → AllByRecursion (IsNodeOf tables query) list → AllByRecursion GivesSome list
each_gives tables query made resolved [] each = tt
each_gives tables query made resolved (node ∷ rest) each = (gives_some tables query made resolved node each.0, each_gives tables query made resolved rest each.1)

-- nodes that read some relation give no more than the entries that they cost
pub few_given : (tables : List Table) (query : Query) → AreMade tables → IsResolved tables query → (list : List Node) → AllByRecursion (IsNodeOf tables query) list → 0 < after_nodes 0 list → (run_of list).inputs ≤ (run_of list).cost.entries
few_given tables query made resolved list each some =
    (list_few list 0 start (each_gives tables query made resolved list each) (λ none. absurd (omega arith), omega arith)).0 some
