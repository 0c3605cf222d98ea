-- A filter and a sort give no more than there was, and each as it was.
use Rattle.std.proofs.Common.{◌≡◌, ◌≤◌, ◌<◌, Bool, List, [], ◌∷◌, length, filter, cond, true, false, refl, sym, subst, arith}
use Rattle.std.specs.declared.cmp.Ordering.{Ordering}
use Rattle.std.specs.declared.cmp.Ordering.TheVariants.{Equal}
use Rattle.pq_base.specs.declared.value.Value.{Value}
use Rattle.pq_base.specs.Sorting.{sort_by}
use Rattle.pq_base.proofs.Sorts.{length-sort_by, each-sort_by}
use Rattle.pq_plan.proofs.Orders.{each_filter}
use Rattle.pq_nodes.specs.Combos.{FitsTables}
use Rattle.pq_local_ops.specs.Lists.{ArePart}

filter_few : {X : Type 0} (p : X → Bool) (xs : List X) → length (filter p xs) ≤ length xs
filter_few p [] = omega arith
filter_few p (x ∷ xs) = let rest = filter_few p xs in elim (p x) as (λ b. length (cond b (x ∷ filter p xs) (filter p xs)) ≤ length (x ∷ xs)) [ true ↦ omega arith | false ↦ omega arith ]

pub part_filter : (p : List (List Value) → Bool) (combos kept : List (List (List Value))) → kept ≡ filter p combos → ArePart combos kept
part_filter p combos kept is = subst (ArePart combos) (sym is) (record {
  few = filter_few p combos;
  fit = λ tables query count fits. each_filter (λ _ _. Equal) (λ (c : List (List Value)). c) (FitsTables tables query count) p combos fits;
})

pub part_sort : {K : Type 0} (R : K → K → Ordering) (key : List (List Value) → K) (combos ordered : List (List (List Value))) → ordered ≡ sort_by R key combos → ArePart combos ordered
part_sort R key combos ordered is = subst (ArePart combos) (sym is) (record {
  few = let same = length-sort_by R key combos in omega arith;
  fit = λ tables query count fits. each-sort_by R key (FitsTables tables query count) combos fits;
})

-- fewer than two are in order
pub sort_few : {K X : Type 0} (R : K → K → Ordering) (key : X → K) (xs : List X) → length xs < 2 → sort_by R key xs ≡ xs
sort_few R key [] few = refl
sort_few R key (x ∷ []) few = refl
sort_few R key (x ∷ y ∷ rest) few = absurd (omega (arith, few))

pub part_same : (combos : List (List (List Value))) → ArePart combos combos
part_same combos = record { few = omega arith; fit = λ tables query count fits. fits }
