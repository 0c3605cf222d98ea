-- The lines of a plan's nodes: one node more, what they reach, and their sum.
use Rattle.std.proofs.Common.{◌≡◌, ℕ, ◌+◌, ◌*◌, ◌<◌, ◌≤◌, ◌^◌, List, [], ◌∷◌, ◌++◌, cond, Result, Ok, Err, fold, length, append_assoc, refl, sym, ap, ◌∙◌, subst, arith}
use Rattle.std.specs.Prelude.{OnOk}
use Rattle.pq_base.specs.declared.number.Bound.{Bound}
use Rattle.pq_schema.specs.Costs.{ReachedCost, start, bound, plus}
use Rattle.pq_plan.specs.declared.physical.Physical.{Physical}
use Rattle.pq_plan.specs.Cost.{IsInLimits, cost, is_primary_access, reach, relations_read}
use Rattle.pq_plan.specs.Nodes.{Node, lookup, limit_range, stop_scan, keep, sort, cut, project, node_step, nodes}
use Rattle.pq_plan.specs.declared.cost.Total.{Total}
use Rattle.pq_plan.proofs.PlanRows.{reach_nodes}
use Rattle.pq_plan.proofs.Small.{within}
use Rattle.pq_plan_lines.specs.Lines.{inputs_alone, line_of, lines_behind, meant, node_cost, node_size, plan_lines, shown_node, sum_of}
use Rattle.pq_plan_lines.specs.declared.node_line.NodeLine.{NodeLine}
use Rattle.pq_plan_lines.specs.declared.node_line.PlanNode.{PlanNode}
use Rattle.pq_plan_lines.specs.declared.node_line.PlanNode.TheVariants as shown

-- what follows of what holds where it is Ok
pub on_ok : {X E : Type 0} (r : Result X E) (A B : Type 0) → (A → B) → OnOk r A → OnOk r B
on_ok (Ok x) A B f holds = f holds
on_ok (Err e) A B f holds = tt

-- ---- one line

-- what is told is what was meant
pub told_back : (node : PlanNode) → shown_node (meant node) ≡ node
told_back (shown.Lookup rel) = refl
told_back (shown.LimitRange rel limit n access) = refl
told_back (shown.StopScan rel k access) = refl
told_back (shown.Filter rel) = refl
told_back shown.Sort = refl
told_back (shown.Cut k) = refl
told_back shown.Project = refl

none_before : (c : Bound) → plus (bound 0 0) c ≡ c
none_before c =
    let ops : 0 + c.ops ≡ c.ops = omega arith in
    let entries : 0 + c.entries ≡ c.entries = omega arith in
    λ i. record { ops = ops i; entries = entries i }

none_behind : (c : Bound) → plus c (bound 0 0) ≡ c
none_behind c =
    let ops : c.ops + 0 ≡ c.ops = omega arith in
    let entries : c.entries + 0 ≡ c.entries = omega arith in
    λ i. record { ops = ops i; entries = entries i }

plus_both : (a b c : Bound) → plus (plus a b) c ≡ plus a (plus b c)
plus_both a b c =
    let ops : a.ops + b.ops + c.ops ≡ a.ops + (b.ops + c.ops) = omega arith in
    let entries : a.entries + b.entries + c.entries ≡ a.entries + (b.entries + c.entries) = omega arith in
    λ i. record { ops = ops i; entries = entries i }

-- what is reached behind inputs that cost nothing is the node's own
pub line_is : (node : PlanNode) (inputs : ℕ) (reached : ReachedCost) → reached ≡ node_step (inputs_alone inputs) (meant node)
    → record { node = node; cost = reached.cost; size = reached.inputs } ≡ line_of inputs (meant node)
line_is node inputs reached is = λ i. record { node = sym (told_back node) i; cost = (is i).cost; size = (is i).inputs }

-- a step adds the node's own cost
step_cost : (r : ReachedCost) (node : Node) → (node_step r node).cost ≡ plus r.cost (node_cost r.inputs node)
step_cost r (lookup rel) = ap (plus r.cost) (sym (none_before _))
step_cost r (limit_range rel limit n access) = ap (plus r.cost) (sym (none_before _))
step_cost r (stop_scan rel k access) =
    plus_both r.cost (bound r.inputs (r.inputs * k)) (cond (is_primary_access access) (bound 0 0) (bound k k))
    ∙ ap (λ b. plus r.cost (plus b (cond (is_primary_access access) (bound 0 0) (bound k k)))) (sym (none_before (bound r.inputs (r.inputs * k))))
step_cost r (keep rel) = sym (none_behind r.cost)
step_cost r sort = sym (none_behind r.cost)
step_cost r (cut k) = sym (none_behind r.cost)
step_cost r project = sym (none_behind r.cost)

-- and gives what it gives, whatever its inputs cost
step_size : (r : ReachedCost) (node : Node) → (node_step r node).inputs ≡ node_size r.inputs node
step_size r (lookup rel) = refl
step_size r (limit_range rel limit n access) = refl
step_size r (stop_scan rel k access) = refl
step_size r (keep rel) = refl
step_size r sort = refl
step_size r (cut k) = refl
step_size r project = refl

-- ---- the lines of a tree

behind_push : (front : List Node) (inputs : ℕ) (node : Node) → lines_behind inputs (front ++ node ∷ []) ≡ lines_behind inputs front ++ line_of (fold node_size inputs front) node ∷ []
behind_push [] inputs node = refl
behind_push (x ∷ xs) inputs node = ap (λ l. line_of inputs x ∷ l) (behind_push xs (node_size inputs x) node)

reached_size : (list : List Node) (r : ReachedCost) → (fold node_step r list).inputs ≡ fold node_size r.inputs list
reached_size [] r = refl
reached_size (x ∷ xs) r = reached_size xs (node_step r x) ∙ ap (λ n. fold node_size n xs) (step_size r x)

pub pushed : (old mid new : List NodeLine) (input : Physical) (inputs : ℕ) (node : Node) → mid ≡ old ++ plan_lines (nodes input)
    → inputs ≡ (reach input).inputs → new ≡ mid ++ line_of inputs node ∷ [] → new ≡ old ++ plan_lines (nodes input ++ node ∷ [])
pushed old mid new input inputs node before size is =
    let given : inputs ≡ fold node_size 1 (nodes input) =
    size ∙ ap (λ (r : ReachedCost). r.inputs) (reach_nodes input) ∙ reached_size (nodes input) start in
    is ∙ ap (λ l. l ++ line_of inputs node ∷ []) before
    ∙ append_assoc old (plan_lines (nodes input)) (line_of inputs node ∷ [])
    ∙ ap (λ l. old ++ l) (ap (λ n. plan_lines (nodes input) ++ line_of n node ∷ []) given ∙ sym (behind_push (nodes input) 1 node))

pub sized : (input : Physical) (inputs size : ℕ) (node : Node) → inputs ≡ (reach input).inputs → size ≡ node_size inputs node
    → size ≡ (node_step (reach input) node).inputs
sized input inputs size node before is = is ∙ ap (λ n. node_size n node) before ∙ sym (step_size (reach input) node)

-- a tree of few relations gives few combinations
pub few_inputs : (input : Physical) (inputs : ℕ) → inputs ≡ (reach input).inputs → IsInLimits input → length (relations_read input) ≤ 6 → inputs < 2 ^ 90
few_inputs input inputs is small few =
    let total : Total = record { inputs = (reach input).inputs; cost = (reach input).cost } in
    subst (λ n. n < 2 ^ 90) (sym is) (within input total refl small few).inputs

-- ---- their sum

reached_sum : (list : List Node) (r : ReachedCost) → (fold node_step r list).cost ≡ plus r.cost (sum_of (lines_behind r.inputs list))
reached_sum [] r = sym (none_behind r.cost)
reached_sum (x ∷ xs) r =
    reached_sum xs (node_step r x)
    ∙ (λ i. plus (step_cost r x i) (sum_of (lines_behind (step_size r x i) xs)))
    ∙ plus_both r.cost (node_cost r.inputs x) (sum_of (lines_behind (node_size r.inputs x) xs))

pub sum_is : (t : Physical) → sum_of (plan_lines (nodes t)) ≡ cost t
sum_is t =
    sym (ap (λ (r : ReachedCost). r.cost) (reach_nodes t) ∙ reached_sum (nodes t) start ∙ none_before (sum_of (plan_lines (nodes t))))
