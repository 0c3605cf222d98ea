-- What a build takes at most of a told content, by the rows that it has.
use Rattle.std.proofs.Common.{◌≡◌, ℕ, ◌+◌, ◌*◌, ◌≤◌, ◌<◌, true, false, cond, List, length, Option, Some, None, refl, subst, arith, ap, ◌∙◌}
use Rattle.std.specs.Prelude.{nat_le, IfSome}
use Rattle.std.proofs.lemmas.Bool.{leb-true, leb-false}
use Rattle.pq_store.specs.Content.{Content}
use Rattle.pq_store.specs.Counts.{Counts}
use Rattle.pq_content.specs.Pairs.{Pair, is_of_rows}
use Rattle.pq_intent.specs.Spending.{TakesAtMost}
use Rattle.pq_builds.specs.declared.target.NewQuery.{NewQuery}
use Rattle.pq_builds.specs.declared.target.Target.{Target}
use Rattle.pq_builds.specs.Bounds.{bound, build_bound}
use Rattle.pq_builds.specs.Filling.{row_pairs_in}
use Rattle.pq_builds.specs.Stages.{build_ops, marked_content, IsMarked}
use Rattle.pq_builds.specs.Standing.{Origin, HoldsOrigin, rows_in}
use Rattle.pq_builds.proofs.Staging.{rows_marked}
use Rattle.pq_builds.proofs.Standing.{counted_before}

-- ---- the bound

pub few_bound : (n : ℕ) → n ≤ 1000000 → build_bound n ≡ bound (build_ops n) (2 * n)
few_bound n few = elim (nat_le n 1000000) as (λ b. nat_le n 1000000 ≡ b → cond b (bound (build_ops n) (2 * n)) (bound 1 1000001) ≡ bound (build_ops n) (2 * n)) [
  | true ↦ λ _. refl
  | false ↦ λ is. let more : 1000000 < n = leb-false n 1000000 is in absurd (omega arith)
] refl

pub many_bound : (n : ℕ) → 1000000 < n → build_bound n ≡ bound 1 1000001
many_bound n many = elim (nat_le n 1000000) as (λ b. nat_le n 1000000 ≡ b → cond b (bound (build_ops n) (2 * n)) (bound 1 1000001) ≡ bound 1 1000001) [
  | true ↦ λ is. let few : n ≤ 1000000 = leb-true n 1000000 is in absurd (omega arith)
  | false ↦ λ _. refl
] refl

-- ---- behind the mark

-- the entries of the rows, of which the marked content has as many
pub told_marked : (target : Target) (query : NewQuery) → is_of_rows query.key ≡ false → (n : ℕ) (old mid : Option Content) (start at after : ℕ)
    → IfSome old (λ c. IsMarked query c mid) → at ≡ start → IfSome mid (λ c. length (row_pairs_in target.table c) ≡ n → after ≤ at + n)
    → IfSome old (λ c. length (row_pairs_in target.table c) ≡ n → after ≤ start + n)
told_marked target query key n None mid start at after m is few = tt
told_marked target query key n (Some c) mid start at after m is few = λ many.
    let few' : length (row_pairs_in target.table (marked_content query c)) ≡ n → after ≤ at + n = subst (λ (o : Option Content). IfSome o (λ c. length (row_pairs_in target.table c) ≡ n → after ≤ at + n)) m.is few in
    let most = few' (ap (λ (l : List Pair). length l) (rows_marked target.table query c key) ∙ many) in
    omega (arith, most, is)

-- ---- over a content of rows

pub within_origin : (target : Target) (query : NewQuery) (old : Option Content) (origin : Origin) (start after : Counts) → HoldsOrigin origin target query old
    → IfSome old (λ c. TakesAtMost (build_bound (length (row_pairs_in target.table c))) start after) → TakesAtMost (build_bound (rows_in origin target)) start after
within_origin target query old origin start after h within =
    let at = subst (λ (o : Option Content). IfSome o (λ c. TakesAtMost (build_bound (length (row_pairs_in target.table c))) start after)) h.holds.is within in
    subst (λ (n : ℕ). TakesAtMost (build_bound n) start after) (counted_before origin target query (record { keeps = h.holds.keeps; beside = h.holds.beside; key = h.key; absent = h.absent }) h.target_is) at
