-- A query has at most as many parameters as predicates.
use Rattle.std.proofs.Common.{◌≡◌, ℕ, zero, suc, ◌≤◌, ◌<◌, true, false, eqb, List, [], ◌∷◌, length, map, refl, sym, ap, arith, inl, inr, eq-eqb}
use Rattle.std.specs.List.{IsDistinct, AllByRecursion, list_any}
use Rattle.std.proofs.lemmas.Bool.{eqb-true, or_cases}
use Rattle.std.proofs.lemmas.List.{length-map}
use Rattle.std.proofs.lemmas.Map.Made.{length-le_from_is_member}
use Rattle.std.specs.Cmp.{nat_eq_equiv}
use Rattle.pq_base.proofs.Members.{any_at, any_from, map_in}
use Rattle.pq_schema.specs.Resolved.{IsResolved, is_param, is_used}
use Rattle.pq_schema.specs.declared.query.Operand.{Operand}
use Rattle.pq_schema.specs.declared.query.Operand.TheVariants as operand
use Rattle.pq_schema.specs.declared.query.Pred.{Pred}
use Rattle.pq_schema.specs.declared.query.Query.{Query}
use Rattle.pq_schema.specs.declared.table.Table.{Table}

-- n, and then each lower number down to 1
abbrev down_from : ℕ → List ℕ
down_from zero = []
down_from (suc n) = suc n ∷ down_from n

down_long : (n : ℕ) → length (down_from n) ≡ n
down_long zero = refl
down_long (suc n) = ap suc (down_long n)

down_within : (q n : ℕ) → list_any (eqb q) (down_from n) ≡ true → (1 ≤ q) × (q ≤ n)
down_within q zero is = absurd cc
down_within q (suc n) is = elim (or_cases (eqb q (suc n)) (list_any (eqb q) (down_from n)) is) [
  | inl first ↦ let same = eqb-true q (suc n) first in (omega (arith, same), omega (arith, same))
  | inr rest ↦ let h = down_within q n rest in (h.0, omega (arith, h.1))
]

above_down : (m n : ℕ) → n < m → AllByRecursion (λ y. eqb m y ≡ false) (down_from n)
above_down m zero lt = tt
above_down m (suc n) lt = ((let other : eqb m (suc n) ≡ false = grind arith in other), above_down m n (omega arith))

down_distinct : (n : ℕ) → IsDistinct eqb (down_from n)
unfolding IsDistinct
down_distinct zero = tt
down_distinct (suc n) = (above_down (suc n) n (omega arith), down_distinct n)

-- the number of the parameter, 0 where there is none
abbrev number_used : Operand → ℕ
number_used (operand.Const value) = 0
number_used (operand.Param number) = number
number_used (operand.Col ref) = 0

is_number : (number : ℕ) (right : Operand) → is_param number right ≡ true → eqb number (number_used right) ≡ true
is_number number (operand.Const value) is = absurd cc
is_number number (operand.Param other) is = eq-eqb number other (sym (eqb-true other number is))
is_number number (operand.Col ref) is = absurd cc

abbrev numbers_used : List Pred → List ℕ
numbers_used preds = map (λ (pred : Pred). number_used pred.right) preds

used_number : (preds : List Pred) (number : ℕ) → is_used preds number ≡ true → list_any (eqb number) (numbers_used preds) ≡ true
used_number preds number is =
    let at = any_at (λ (pred : Pred). is_param number pred.right) preds is in
    any_from (eqb number) (numbers_used preds) (number_used at.0.right) (map_in (λ (pred : Pred). number_used pred.right) at.0 preds at.1) (is_number number at.0.right at.2)

pub few_params : (tables : List Table) (query : Query) → IsResolved tables query → length query.params ≤ 16
few_params tables query is =
    let n = length query.params in
    let fewer : length (down_from n) ≤ length (numbers_used query.preds) =
    length-le_from_is_member nat_eq_equiv (down_from n) (numbers_used query.preds) (down_distinct n) (λ q m. let h = down_within q n m in used_number query.preds q (is.params q h.0 h.1)) in
    let long : length (numbers_used query.preds) ≡ length query.preds = length-map query.preds (λ (pred : Pred). number_used pred.right) in
    let most = is.few_preds in
    omega (arith, fewer, long, most, down_long n)
