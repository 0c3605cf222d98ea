-- A predicate of a query holds of a combination where the moved one holds of the combination in the new order.
use Rattle.std.proofs.Common.{◌≡◌, ℕ, suc, ◌<◌, Bool, true, false, cond, not, ◌&&◌, ◌||◌, ◌==◌, nat_lt, inl, inr, List, [], ◌∷◌, length, get_or, map, Option, Some, None, refl, sym, ap, ◌∙◌, arith}
use Rattle.std.specs.Prelude.{slice_get}
use Rattle.std.specs.List.{list_all}
use Rattle.std.specs.Cmp.{eq_by_cmp_equiv}
use Rattle.std.proofs.lemmas.Bool.{eqb-true, false≢true, eq-eqb, and_parts}
use Rattle.std.proofs.lemmas.List.{get_or-map}
use Rattle.pq_base.specs.declared.value.Value.{Value}
use Rattle.pq_base.specs.Members.{In}
use Rattle.pq_base.specs.Values.{is_null}
use Rattle.pq_schema.specs.declared.query.ColRef.{ColRef}
use Rattle.pq_base.specs.declared.op.Op.{Op}
use Rattle.pq_base.specs.declared.op.Op.TheVariants as op
use Rattle.pq_schema.specs.declared.query.Operand.{Operand}
use Rattle.pq_schema.specs.declared.query.Operand.TheVariants as operand
use Rattle.pq_schema.specs.declared.query.Pred.{Pred}
use Rattle.pq_schema.specs.Relations.{is_equality}
use Rattle.pq_base.specs.Comparing.{compares}
use Rattle.pq_plan.specs.Answer.{row_of, cell, side, holds}
use Rattle.pq_plan.proofs.ValueOrder.{value_cmp_total}
use Rattle.pq_arrange.specs.Moves.{order_place, move, move_operand, swap_sides, later_left_with, move_pred, permuted_combo}

pub equality : (o : Op) → is_equality o ≡ true → o ≡ op.Eq
equality op.Eq h = refl
equality op.Ne h = absurd (false≢true h)
equality op.Lt h = absurd (false≢true h)
equality op.Le h = absurd (false≢true h)
equality op.Gt h = absurd (false≢true h)
equality op.Ge h = absurd (false≢true h)
equality op.IsNull h = absurd (false≢true h)

either_side : (a b : Bool) → (a || b) ≡ (b || a)
either_side true true = refl
either_side true false = refl
either_side false true = refl
either_side false false = refl

-- an equality holds from either side
pub equal_sides : (a b : Option Value) → compares op.Eq a b ≡ compares op.Eq b a
equal_sides None None = refl
equal_sides None (Some y) = refl
equal_sides (Some x) None = refl
equal_sides (Some x) (Some y) = λ i. not (either_side (is_null x) (is_null y) i) && (eq_by_cmp_equiv value_cmp_total).symm x y i

pub place_is : (order : List ℕ) (rel : ℕ) → In rel order → (n : ℕ) × (order_place order rel ≡ suc n) × (n < length order) × (get_or order n 0 ≡ rel)
place_is [] rel i = absurd i
place_is (other ∷ others) rel i =
    elim (other == rel) as (λ b. (other == rel) ≡ b → (n : ℕ) × (cond b 1 (suc (order_place others rel)) ≡ suc n) × (n < length (other ∷ others)) × (get_or (other ∷ others) n 0 ≡ rel)) [
      | true ↦ λ e. (0, refl, omega arith, eqb-true other rel e)
      | false ↦ λ e.
          let h = place_is others rel (elim i [ inl s ↦ absurd (false≢true (sym e ∙ eq-eqb other rel s)) | inr r ↦ r ]) in
          (suc h.0, ap (λ (n : ℕ). suc n) h.1, omega (arith, h.2), h.3)
    ] refl

-- the row of a relation stands at its new number
pub row_moved : (order : List ℕ) (rel : ℕ) → In rel order → (combo : List (List Value)) → row_of (order_place order rel) (permuted_combo order combo) ≡ row_of rel combo
row_moved order rel here combo =
    let h = place_is order rel here in
    ap (λ (n : ℕ). row_of n (permuted_combo order combo)) h.1
    ∙ ap (λ (n : ℕ). get_or (permuted_combo order combo) n []) (omega arith)
    ∙ get_or-map (λ (r : ℕ). row_of r combo) order h.0 0 [] h.2
    ∙ ap (λ (r : ℕ). row_of r combo) h.3

-- the relations that a predicate mentions are in the order
abbrev pub Mentions : List ℕ → Operand → Type 0
Mentions order (operand.Const value) = Unit {0}
Mentions order (operand.Param number) = Unit {0}
Mentions order (operand.Col other) = In other.rel order

pub record IsAmong (order : List ℕ) (pred : Pred) : Type 0 where
  pub left : In pred.left.rel order
  pub right : Mentions order pred.right

module _ (params : List Value) where
  pub swapped : (combo : List (List Value)) (pred : Pred) (other : ColRef) → pred.right ≡ operand.Col other → pred.op ≡ op.Eq → holds params combo (swap_sides pred other) ≡ holds params combo pred
  swapped combo pred other is e =
      ap (λ (o : Op). compares o (cell combo other) (cell combo pred.left)) e
      ∙ equal_sides (cell combo other) (cell combo pred.left)
      ∙ (λ i. compares (sym e i) (cell combo pred.left) (side params combo (sym is i)))

  -- which side is left plays no part
  pub turned : (combo : List (List Value)) (pred : Pred) (right : Operand) → pred.right ≡ right → holds params combo (later_left_with pred right) ≡ holds params combo pred
  turned combo pred (operand.Const value) is = refl
  turned combo pred (operand.Param number) is = refl
  turned combo pred (operand.Col other) is =
      elim (is_equality pred.op && nat_lt pred.left.rel other.rel) as (λ b. (is_equality pred.op && nat_lt pred.left.rel other.rel) ≡ b → holds params combo (cond b (swap_sides pred other) pred) ≡ holds params combo pred) [
        | true ↦ λ e. swapped combo pred other is (equality pred.op (and_parts _ _ e).0)
        | false ↦ λ _. refl
      ] refl

  pub side_moved : (order : List ℕ) (combo : List (List Value)) (right : Operand) → Mentions order right → side params (permuted_combo order combo) (move_operand order right) ≡ side params combo right
  side_moved order combo (operand.Const value) m = refl
  side_moved order combo (operand.Param number) m = refl
  side_moved order combo (operand.Col other) m = ap (λ (row : List Value). slice_get row other.col) (row_moved order other.rel m combo)

  pub holds_moved : (order : List ℕ) (combo : List (List Value)) (pred : Pred) → IsAmong order pred → holds params (permuted_combo order combo) (move_pred order pred) ≡ holds params combo pred
  holds_moved order combo pred a =
      turned (permuted_combo order combo) (record { left = move order pred.left; op = pred.op; right = move_operand order pred.right }) (move_operand order pred.right) refl
      ∙ (λ i. compares pred.op (slice_get (row_moved order pred.left.rel a.left combo i) pred.left.col) (side_moved order combo pred.right a.right i))

  pub all_moved : (order : List ℕ) (combo : List (List Value)) (preds : List Pred) → ((pred : Pred) → In pred preds → IsAmong order pred) → list_all (holds params (permuted_combo order combo)) (map (move_pred order) preds) ≡ list_all (holds params combo) preds
  all_moved order combo [] h = refl
  all_moved order combo (pred ∷ preds) h = λ i. holds_moved order combo pred (h pred (inl refl)) i && all_moved order combo preds (λ p r. h p (inr r)) i
