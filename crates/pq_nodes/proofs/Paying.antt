-- What the nodes up to one cost, and that the whole plan's cost suffices for each.
use Rattle.std.proofs.Common.{◌≡◌, ℕ, ◌+◌, ◌*◌, ◌≤◌, cond, List, [], ◌∷◌, ◌++◌, fold, refl, sym, ap, subst, arith, mul-le-mul_right}
use Rattle.std.proofs.lemmas.List.Sums.{fold-append}
use Rattle.pq_base.specs.declared.number.Bound.{Bound}
use Rattle.pq_schema.specs.Costs.{ReachedCost, start, bound, plus, times, limit_cost}
use Rattle.pq_plan.specs.Cost.{is_primary_access}
use Rattle.pq_plan.specs.Nodes.{Node, lookup, limit_range, stop_scan, keep, sort, cut, project, node_step, run_of}
use Rattle.pq_nodes.specs.Paid.{node_cost, node_size, IsAtMost, IsUpTo}

pub at_most_itself : (a : Bound) → IsAtMost a a
at_most_itself a = record { ops = omega arith; entries = omega arith }

pub at_most_then : (a b c : Bound) → IsAtMost a b → IsAtMost b c → IsAtMost a c
at_most_then a b c h k =
    let ops = h.ops in
    let more_ops = k.ops in
    let entries = h.entries in
    let more_entries = k.entries in
    record { ops = omega arith; entries = omega arith }

pub plus_more : (a b c d : Bound) → IsAtMost a b → IsAtMost c d → IsAtMost (plus a c) (plus b d)
plus_more a b c d h k =
    let ops = h.ops in
    let more_ops = k.ops in
    let entries = h.entries in
    let more_entries = k.entries in
    record { ops = omega arith; entries = omega arith }

times_more : (a b : ℕ) (each : Bound) → a ≤ b → IsAtMost (times a each) (times b each)
times_more a b each le = record { ops = mul-le-mul_right each.ops le; entries = mul-le-mul_right each.entries le }

-- ---- one node

pub size_more : (a b : ℕ) (node : Node) → a ≤ b → node_size a node ≤ node_size b node
size_more a b (lookup rel) le = le
size_more a b (limit_range rel limit n access) le = mul-le-mul_right n le
size_more a b (stop_scan rel k access) le = omega arith
size_more a b (keep rel) le = le
size_more a b sort le = le
size_more a b (cut k) le = le
size_more a b project le = le

pub cost_more : (a b : ℕ) (node : Node) → a ≤ b → IsAtMost (node_cost a node) (node_cost b node)
cost_more a b (lookup rel) le = times_more a b (bound 1 1) le
cost_more a b (limit_range rel limit n access) le = times_more a b (limit_cost (is_primary_access access) n) le
cost_more a b (stop_scan rel k access) le =
    let fetched = cond (is_primary_access access) (bound 0 0) (bound k k) in
    plus_more (bound a (a * k)) (bound b (b * k)) fetched fetched (record { ops = le; entries = mul-le-mul_right k le }) (at_most_itself fetched)
cost_more a b (keep rel) le = at_most_itself (bound 0 0)
cost_more a b sort le = at_most_itself (bound 0 0)
cost_more a b (cut k) le = at_most_itself (bound 0 0)
cost_more a b project le = at_most_itself (bound 0 0)

no_cost : (r : ReachedCost) → r.cost ≡ plus r.cost (bound 0 0)
no_cost r =
    let ops : r.cost.ops ≡ r.cost.ops + 0 = omega arith in
    let entries : r.cost.entries ≡ r.cost.entries + 0 = omega arith in
    λ i. record { ops = ops i; entries = entries i }

plus_both : (a b c : Bound) → plus (plus a b) c ≡ plus a (plus b c)
plus_both a b c =
    let ops : a.ops + b.ops + c.ops ≡ a.ops + (b.ops + c.ops) = omega arith in
    let entries : a.entries + b.entries + c.entries ≡ a.entries + (b.entries + c.entries) = omega arith in
    λ i. record { ops = ops i; entries = entries i }

-- a step adds the node's cost
pub step_cost : (r : ReachedCost) (node : Node) → (node_step r node).cost ≡ plus r.cost (node_cost r.inputs node)
step_cost r (lookup rel) = refl
step_cost r (limit_range rel limit n access) = refl
step_cost r (stop_scan rel k access) = plus_both r.cost (bound r.inputs (r.inputs * k)) (cond (is_primary_access access) (bound 0 0) (bound k k))
step_cost r (keep rel) = no_cost r
step_cost r sort = no_cost r
step_cost r (cut k) = no_cost r
step_cost r project = no_cost r

-- and gives as many as the node gives
pub step_size : (r : ReachedCost) (node : Node) → (node_step r node).inputs ≡ node_size r.inputs node
step_size r (lookup rel) = omega arith
step_size r (limit_range rel limit n access) = refl
step_size r (stop_scan rel k access) = refl
step_size r (keep rel) = refl
step_size r sort = refl
step_size r (cut k) = refl
step_size r project = refl

pub step_more : (a b : ReachedCost) (node : Node) → IsUpTo a b → IsUpTo (node_step a node) (node_step b node)
step_more a b node h =
    let left = step_size a node in
    let right = step_size b node in
    let sizes = size_more a.inputs b.inputs node h.inputs in
    let costs = plus_more a.cost b.cost (node_cost a.inputs node) (node_cost b.inputs node) h.cost (cost_more a.inputs b.inputs node h.inputs) in
    let first : IsAtMost (node_step a node).cost (plus b.cost (node_cost b.inputs node)) = subst (λ (d : Bound). IsAtMost d (plus b.cost (node_cost b.inputs node))) (sym (step_cost a node)) costs in
    record {
      inputs = omega (arith, left, right, sizes);
      cost = subst (IsAtMost (node_step a node).cost) (sym (step_cost b node)) first;
    }

-- ---- some nodes

grows : (r : ReachedCost) (node : Node) → IsAtMost r.cost (node_step r node).cost
grows r node =
    let more : IsAtMost r.cost (plus r.cost (node_cost r.inputs node)) = record { ops = omega arith; entries = omega arith } in
    subst (IsAtMost r.cost) (sym (step_cost r node)) more

-- later nodes cost no less than nothing
pub run_grows : (list : List Node) (r : ReachedCost) → IsAtMost r.cost (fold node_step r list).cost
run_grows [] r = at_most_itself r.cost
run_grows (node ∷ list) r = at_most_then r.cost (node_step r node).cost (fold node_step (node_step r node) list).cost (grows r node) (run_grows list (node_step r node))

-- the first nodes cost at most what all do
pub front_costs : (front back : List Node) → IsAtMost (run_of front).cost (run_of (front ++ back)).cost
front_costs front back = subst (λ (r : ReachedCost). IsAtMost (run_of front).cost r.cost) (sym (fold-append node_step start front back)) (run_grows back (run_of front))

-- where so much was spent and there are so many inputs as the nodes before allow, what is left of the whole suffices
pub node_affords : (front : List Node) (node : Node) (back : List Node) (inputs : ℕ) (spent : Bound) → inputs ≤ (run_of front).inputs → IsAtMost spent (run_of front).cost → IsAtMost (plus spent (node_cost inputs node)) (run_of (front ++ node ∷ back)).cost
node_affords front node back inputs spent few paid =
    let before = run_of front in
    let here : IsAtMost (plus spent (node_cost inputs node)) (node_step before node).cost =
    subst (IsAtMost (plus spent (node_cost inputs node))) (sym (step_cost before node))
    (plus_more spent before.cost (node_cost inputs node) (node_cost before.inputs node) paid (cost_more inputs before.inputs node few)) in
    let all : (run_of (front ++ node ∷ back)).cost ≡ (fold node_step (node_step before node) back).cost = ap (λ (r : ReachedCost). r.cost) (fold-append node_step start front (node ∷ back)) in
    subst (IsAtMost (plus spent (node_cost inputs node))) (sym all)
    (at_most_then (plus spent (node_cost inputs node)) (node_step before node).cost (fold node_step (node_step before node) back).cost here (run_grows back (node_step before node)))
