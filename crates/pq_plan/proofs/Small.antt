-- A tree of few relations costs little.
use Rattle.std.proofs.Common.{◌≡◌, pow-suc, mul_comm, lit≤, lit<, ℕ, zero, suc, ◌+◌, ◌*◌, ◌^◌, ◌<◌, ◌≤◌, Bool, true, false, length, sym, ◌∙◌, subst, arith}
use Rattle.pq_base.specs.declared.number.Bound.{Bound}
use Rattle.pq_schema.specs.declared.table.Access.{Access}
use Rattle.pq_schema.specs.declared.table.Access.TheVariants.{Primary, Secondary}
use Rattle.pq_schema.specs.Costs.{ReachedCost, bound, limit_cost, read_each, read_stop}
use Rattle.pq_plan.specs.declared.physical.Physical.{Physical}
use Rattle.pq_plan.specs.declared.physical.Physical.TheVariants as node
use Rattle.pq_plan.specs.declared.cost.Total.{Total}
use Rattle.pq_plan.specs.Cost.{is_primary_access, reach, relations_read, IsInLimits}
use Rattle.pq_plan.specs.Totals.{reached_total, IsLow, Below}

times_small : (a b m n : ℕ) → a ≤ b → m ≤ n → a * m ≤ n * b
times_small a b m n h k = grind arith

each_below : (size ops entries b : ℕ) (r : ReachedCost) → size ≤ 10000 → ops ≤ 10001 → entries ≤ 20000 → Below b r → Below (30000 * b) (read_each size (bound ops entries) r)
each_below size ops entries b r s o e below =
    let i = times_small r.inputs b size 10000 below.inputs s in
    let j = times_small r.inputs b ops 10001 below.inputs o in
    let k = times_small r.inputs b entries 20000 below.inputs e in
    record { inputs = omega (arith, i, below.inputs); ops = omega (arith, j, below.ops); entries = omega (arith, k, below.entries) }

stop_below : (k b : ℕ) (served : Bool) (r : ReachedCost) → k ≤ 1000 → 1 ≤ b → Below b r → Below (30000 * b) (read_stop k served r)
stop_below k b true r s one below =
    let i = times_small r.inputs b k 1000 below.inputs s in
    record { inputs = omega arith; ops = omega (arith, below.inputs, below.ops); entries = omega (arith, i, below.entries) }
stop_below k b false r s one below =
    let i = times_small r.inputs b k 1000 below.inputs s in
    record { inputs = omega arith; ops = omega (arith, below.inputs, below.ops); entries = omega (arith, i, below.entries) }

more : (k : ℕ) (r : ReachedCost) → Below (30000 * 30000 ^ k) r → Below (30000 ^ suc k) r
more k r below = subst (λ b. Below b r) (mul_comm 30000 (30000 ^ k) ∙ sym (pow-suc 30000 k)) below

some : (k : ℕ) → 1 ≤ 30000 ^ k
some zero = lit≤ tt
some (suc k) = let h = some k in rw (pow-suc 30000 k) (omega arith)

limit_each : (a : Access) (n b : ℕ) (r : ReachedCost) → n ≤ 10000 → Below b r → Below (30000 * b) (read_each n (limit_cost (is_primary_access a) n) r)
limit_each Primary n b r s below = each_below n 1 n b r s (lit≤ tt) (omega arith) below
limit_each (Secondary i) n b r s below = each_below n (1 + n) (2 * n) b r s (omega arith) (omega arith) below

reach_below : (t : Physical) → IsInLimits t → Below (30000 ^ length (relations_read t)) (reach t)
reach_below node.Unit s = record { inputs = lit≤ tt; ops = lit≤ tt; entries = lit≤ tt }
reach_below (node.Lookup' p input rel) s =
    more (length (relations_read input)) (reach (node.Lookup' p input rel)) (each_below 1 1 1 (30000 ^ length (relations_read input)) (reach input) (lit≤ tt) (lit≤ tt) (lit≤ tt) (reach_below input s))
reach_below (node.LimitRange' p input rel limit n access) s =
    more (length (relations_read input)) (reach (node.LimitRange' p input rel limit n access)) (limit_each access n (30000 ^ length (relations_read input)) (reach input) s.0 (reach_below input s.1))
reach_below (node.StopScan' p input rel k access) s =
    more (length (relations_read input)) (reach (node.StopScan' p input rel k access)) (stop_below k (30000 ^ length (relations_read input)) (is_primary_access access) (reach input) s.0 (some (length (relations_read input))) (reach_below input s.1))
reach_below (node.Filter' p input rel) s = reach_below input s
reach_below (node.Sort' p input) s = reach_below input s
reach_below (node.Cut' p input k) s = reach_below input s.1
reach_below (node.Project' p input) s = reach_below input s

six : (k : ℕ) → k ≤ 6 → 30000 ^ k < 2 ^ 90
six zero h = lit< tt
six (suc zero) h = lit< tt
six (suc (suc zero)) h = lit< tt
six (suc (suc (suc zero))) h = lit< tt
six (suc (suc (suc (suc zero)))) h = lit< tt
six (suc (suc (suc (suc (suc zero))))) h = lit< tt
six (suc (suc (suc (suc (suc (suc zero)))))) h = lit< tt
six (suc (suc (suc (suc (suc (suc (suc k))))))) h = absurd (omega arith)

pub within : (t : Physical) (total : Total) → reached_total total ≡ reach t → IsInLimits t → length (relations_read t) ≤ 6 → IsLow total
within t total is small few =
    let below : Below (30000 ^ length (relations_read t)) (reached_total total) = subst (Below (30000 ^ length (relations_read t))) (sym is) (reach_below t small) in
    let top = six (length (relations_read t)) few in
    record { inputs = omega (arith, below.inputs, top); ops = omega (arith, below.ops, top); entries = omega (arith, below.entries, top) }

-- one more read of so few rows keeps the total small
pub next_below : (size : ℕ) (c : Bound) (k : ℕ) (r : ReachedCost) → size ≤ 10000 → c.ops ≤ 10001 → c.entries ≤ 20000 → Below (30000 ^ k) r → Below (30000 ^ suc k) (read_each size c r)
next_below size c k r s o e below = more k (read_each size c r) (each_below size c.ops c.entries (30000 ^ k) r s o e below)

pub low : (k : ℕ) (total : Total) → Below (30000 ^ k) (reached_total total) → k ≤ 6 → IsLow total
low k total below few =
    let top = six k few in
    record { inputs = omega (arith, below.inputs, top); ops = omega (arith, below.ops, top); entries = omega (arith, below.entries, top) }
