-- The whole of a scan: its share, its candidates, and what is first.
use Rattle.std.proofs.Common.{◌≡◌, ℕ, ◌+◌, ◌*◌, ◌≤◌, List, length, take, sym, ap, subst, arith, length-take}
use Rattle.std.specs.List.{AllByRecursion}
use Rattle.pq_base.specs.Sorting.{sort_by}
use Rattle.pq_base.proofs.Sorts.{each-sort_by}
use Rattle.pq_schema.specs.declared.table.Access.{Access}
use Rattle.pq_schema.specs.declared.table.Access.TheVariants.{Primary, Secondary}
use Rattle.pq_store.specs.Content.{key_cmp}
use Rattle.pq_plan.specs.Nodes.{stop_scan}
use Rattle.pq_nodes.specs.Paid.{node_cost}
use Rattle.pq_nodes.specs.Rounds.{access_rounds}
use Rattle.pq_scan.specs.Candidates.{Candidate, fetches}
use Rattle.pq_scan.specs.Merging.{place_of}
use Rattle.pq_scan.proofs.Merged.{each_take}

pub first_kept : (P : Candidate → Type 0) (k : ℕ) (found first : List Candidate) → first ≡ take k (sort_by key_cmp place_of found) → AllByRecursion P found → AllByRecursion P first
first_kept P k found first is all = subst (AllByRecursion P) (sym is) (each_take P k (sort_by key_cmp place_of found) (each-sort_by key_cmp place_of P found all))

pub first_length : (k : ℕ) (found first : List Candidate) → first ≡ take k (sort_by key_cmp place_of found) → length first ≤ k
first_length k found first is =
    let l = length-take k (sort_by key_cmp place_of found) in
    let e : length first ≡ length (take k (sort_by key_cmp place_of found)) = ap length is in
    omega (arith, l, e)

pub fetch_within : (access : Access) (rel n k m : ℕ) → m ≤ k → (n + fetches access m ≤ (node_cost n (stop_scan rel k access)).ops) × (n * k + fetches access m ≤ (node_cost n (stop_scan rel k access)).entries)
fetch_within Primary rel n k m h = (omega arith, omega arith)
fetch_within (Secondary index) rel n k m h = (omega arith, omega arith)

pub fetch_rounds : (access : Access) → 1 + fetches access 1 ≤ access_rounds access
fetch_rounds Primary = omega arith
fetch_rounds (Secondary index) = omega arith
