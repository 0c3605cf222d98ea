-- Fixed columns are tied, and a data bound holds.
use Rattle.std.proofs.Common.{◌≡◌, Option, Some, None, ℕ, suc, ◌-◌, ◌<◌, ◌≤◌, Bool, true, false, not, ◌||◌, ◌&&◌, ◌==◌, inl, inr, List, [], ◌∷◌, ◌++◌, length, get_or, map, filter, slice_get, refl, sym, ap, ◌∙◌, arith}
use Rattle.std.specs.Prelude.{unwrap_or, option_and_then}
use Rattle.std.specs.Ordering.{is_eq}
use Rattle.std.proofs.lemmas.Bool.{and_parts, and_from, eqb-true, eq-eqb, ltb-true, false≢true}
use Rattle.std.proofs.lemmas.List.{get_or_append_left}
use Rattle.std.proofs.lemmas.Option.{get_or_from_slice_get}
use Rattle.pq_base.specs.declared.value.Value.{Value}
use Rattle.pq_base.specs.Order.{value_cmp}
use Rattle.pq_base.specs.Values.{is_null, has_null}
use Rattle.pq_base.specs.declared.op.Op.{Op}
use Rattle.pq_base.specs.declared.op.Op.TheVariants as op
use Rattle.pq_schema.specs.declared.query.Operand.{Operand}
use Rattle.pq_schema.specs.declared.query.Operand.TheVariants as operand
use Rattle.pq_schema.specs.declared.query.Pred.{Pred}
use Rattle.pq_schema.specs.Sound.{IsNamedSide, IsNamedPred}
use Rattle.pq_schema.specs.Relations.{later, belongs_to, is_equality, is_before, ties}
use Rattle.pq_base.specs.Members.{In}
use Rattle.pq_base.specs.Comparing.{may_hold, compares}
use Rattle.pq_plan.specs.Answer.{Question, row_of, cell, side, holds, no_value}
use Rattle.pq_plan.specs.Kept.{cells}
use Rattle.pq_plan.specs.Meaning.{keeps}
use Rattle.pq_plan.specs.Running.{tied_value, is_match}
use Rattle.pq_base.proofs.Members.{filter_in, in_filter, in_map, all_at, all_from, found}
use Rattle.pq_plan.proofs.ValueOrder.{value_cmp_total, value_cmp_only}
use Rattle.pq_plan.proofs.Apart.{equal, same_test}
use Rattle.pq_plan.proofs.Laws.{Tied}

neither_null : (a b : Bool) → not (a || b) ≡ true → a ≡ false
neither_null true b h = absurd (false≢true h)
neither_null false b h = refl

-- an equality of one value holds unless it is NULL
pub equal_holds : (x y : Value) → is_null y ≡ false → is_eq (value_cmp x y) ≡ true → x ≡ y → compares op.Eq (Some x) (Some y) ≡ true
equal_holds x y plain same e = rw (ap is_null e ∙ plain, plain, same) refl

-- where an equality holds both sides are there, and are one value, which isn't NULL
pub both_are : (a b : Option Value) → compares op.Eq a b ≡ true → (x : Value) × (a ≡ Some x) × (b ≡ Some x) × (is_null x ≡ false)
both_are None b h = absurd (false≢true h)
both_are (Some x) None h = absurd (false≢true h)
both_are (Some x) (Some y) h =
    let parts = and_parts (may_hold op.Eq x y) (is_eq (value_cmp x y)) h in
    (x, refl, ap (λ (v : Value). Some v) (sym (equal value_cmp value_cmp_total value_cmp_only x y parts.1)), neither_null (is_null x) (is_null y) parts.0)

pub equality : (o : Op) → is_equality o ≡ true → o ≡ op.Eq
equality op.Eq h = refl
equality op.Ne h = absurd (false≢true h)
equality op.Lt h = absurd (false≢true h)
equality op.Le h = absurd (false≢true h)
equality op.Gt h = absurd (false≢true h)
equality op.Ge h = absurd (false≢true h)
equality op.IsNull h = absurd (false≢true h)

pub last : (c : List (List Value)) (r : List Value) (i : ℕ) → suc (length c) ≡ i → row_of i (c ++ r ∷ []) ≡ r
last c r i l = ap (λ (k : ℕ). get_or (c ++ r ∷ []) k []) (omega arith) ∙ at c r
  where
    at : (c : List (List Value)) (r : List Value) → get_or (c ++ r ∷ []) (length c) [] ≡ r
    at [] r = refl
    at (x ∷ c) r = at c r

pub earlier_row : (c d : List (List Value)) (i : ℕ) → 1 ≤ i → i ≤ length c → row_of i (c ++ d) ≡ row_of i c
earlier_row c d i low high = get_or_append_left c d [] (i - 1) (omega arith)

-- an operand that mentions no relation after the first ones looks at their rows alone
pub same_side : (m : ℕ) (params : List Value) (c d : List (List Value)) (o : Operand) (i : ℕ) → IsNamedSide m o → later i o ≤ length c → side params (c ++ d) o ≡ side params c o
same_side m params c d (operand.Const v) i h l = refl
same_side m params c d (operand.Param n) i h l = refl
same_side m params c d (operand.Col col) i h l = let low = h.0 in ap (λ (row : List Value). slice_get row col.col) (earlier_row c d col.rel low (omega arith))

-- what ties a column of a relation belongs to it
pub ties_belong : (i : ℕ) (p : Pred) → ties i p ≡ true → belongs_to p ≡ i
ties_belong i p h =
    let both = and_parts _ _ h in
    let front = and_parts _ _ both.0 in
    ap (λ (n : ℕ). later n p.right) (eqb-true _ _ front.1) ∙ same p.right both.1
  where
    same : (o : Operand) → is_before i o ≡ true → later i o ≡ i
    same (operand.Const v) h = refl
    same (operand.Param n) h = refl
    same (operand.Col col) h = let lt : col.rel < i = ltb-true col.rel i h in omega arith

module _ (q : Question) (named : (p : Pred) → In p q.query.preds → IsNamedPred (length q.query.relations) p) where
  -- a predicate that belongs to a relation holds where the relation's predicates do
  pub one_holds : (i : ℕ) (c : List (List Value)) → keeps q i c ≡ true → (p : Pred) → In p q.query.preds → belongs_to p ≡ i → holds q.params c p ≡ true
  one_holds i c h p here is = all_at (holds q.params c) (filter (λ p. belongs_to p == i) q.query.preds) h p (filter_in (λ p. belongs_to p == i) p q.query.preds here (eq-eqb _ _ is))

  pub earlier_side : (i : ℕ) (c : List (List Value)) (r : List Value) (p : Pred) → In p q.query.preds → suc (length c) ≡ i → is_before i p.right ≡ true → side q.params (c ++ r ∷ []) p.right ≡ side q.params c p.right
  earlier_side i c r p here l h = each p.right h (named p here).1
    where
      each : (o : Operand) → is_before i o ≡ true → IsNamedSide (length q.query.relations) o → side q.params (c ++ r ∷ []) o ≡ side q.params c o
      each (operand.Const v) h n = refl
      each (operand.Param k) h n = refl
      each (operand.Col col) h n =
          let low = n.0 in
          let lt : col.rel < i = ltb-true col.rel i h in
          ap (λ (row : List Value). slice_get row col.col) (earlier_row c (r ∷ []) col.rel low (omega arith))

  -- the row of a fixed column has what the first equality in the text ties it to
  pub tied_one : (i k : ℕ) → In k (map (λ (p : Pred). p.left.col) (filter (ties i) q.query.preds)) → (c : List (List Value)) (r : List Value) → suc (length c) ≡ i → keeps q i (c ++ r ∷ []) ≡ true → (x : Value) × (slice_get r k ≡ Some x) × (tied_value q i c k ≡ Some x) × (is_null x ≡ false)
  tied_one i k here c r l keep =
      let m = in_map (λ (p : Pred). p.left.col) k (filter (ties i) q.query.preds) here in
      let at = in_filter (ties i) m.0 q.query.preds m.1 in
      let f = found (λ p. ties i p && (p.left.col == k)) q.query.preds m.0 at.0 (and_from _ _ at.1 (eq-eqb _ _ m.2)) in
      let p = f.0 in
      let both = and_parts _ _ f.3 in
      let column : p.left.col ≡ k = eqb-true _ _ both.1 in
      let outer = and_parts _ _ both.0 in
      let inner = and_parts _ _ outer.0 in
      let own : p.left.rel ≡ i = eqb-true _ _ inner.1 in
      let held : holds q.params (c ++ r ∷ []) p ≡ true = one_holds i (c ++ r ∷ []) keep p f.2 (ties_belong i p both.0) in
      let left : cell (c ++ r ∷ []) p.left ≡ slice_get r k = (λ x. slice_get (row_of (own x) (c ++ r ∷ [])) (column x)) ∙ ap (λ (row : List Value). slice_get row k) (last c r i l) in
      let right : side q.params (c ++ r ∷ []) p.right ≡ side q.params c p.right = earlier_side i c r p f.2 l outer.1 in
      let equal : compares op.Eq (slice_get r k) (side q.params c p.right) ≡ true = sym (λ x. compares (equality p.op inner.0 x) (left x) (right x)) ∙ held in
      let e = both_are (slice_get r k) (side q.params c p.right) equal in
      (e.0, e.1, ap (option_and_then (λ (p : Pred). side q.params c p.right)) f.1 ∙ e.2, e.3)

  -- the tied values at some columns
  abbrev pub tied_values : ℕ → List ℕ → List (List Value) → List Value
  tied_values i columns c = map (λ k. unwrap_or (tied_value q i c k) no_value) columns

  tied_are : (i : ℕ) (columns : List ℕ) → ((k : ℕ) → In k columns → In k (map (λ (p : Pred). p.left.col) (filter (ties i) q.query.preds))) → (c : List (List Value)) (r : List Value) → suc (length c) ≡ i → keeps q i (c ++ r ∷ []) ≡ true → cells columns r ≡ tied_values i columns c
  tied_are i [] h c r l keep = refl
  tied_are i (k ∷ ks) h c r l keep =
      let e = tied_one i k (h k (inl refl)) c r l keep in
      let one : get_or r k no_value ≡ unwrap_or (tied_value q i c k) no_value = get_or_from_slice_get r k e.0 no_value e.1 ∙ sym (ap (λ (o : Option Value). unwrap_or o no_value) e.2) in
      λ x. one x ∷ tied_are i ks (λ n there. h n (inr there)) c r l keep x

  tied_plain : (i : ℕ) (columns : List ℕ) → ((k : ℕ) → In k columns → In k (map (λ (p : Pred). p.left.col) (filter (ties i) q.query.preds))) → (c : List (List Value)) (r : List Value) → suc (length c) ≡ i → keeps q i (c ++ r ∷ []) ≡ true → has_null (tied_values i columns c) ≡ false
  tied_plain i [] h c r l keep = refl
  tied_plain i (k ∷ ks) h c r l keep =
      let e = tied_one i k (h k (inl refl)) c r l keep in
      let one : is_null (unwrap_or (tied_value q i c k) no_value) ≡ false = ap (λ (o : Option Value). is_null (unwrap_or o no_value)) e.2 ∙ e.3 in
      ap (λ b. b || has_null (tied_values i ks c)) one ∙ tied_plain i ks (λ n there. h n (inr there)) c r l keep

  pub tied : (i : ℕ) (columns : List ℕ) → ((k : ℕ) → In k columns → In k (map (λ (p : Pred). p.left.col) (filter (ties i) q.query.preds))) → Tied q i columns
  tied i columns h = record { values = tied_values i columns; are = tied_are i columns h; plain = tied_plain i columns h }

  -- a row that passes matches at fixed columns
  pub passes_match : (i : ℕ) (columns : List ℕ) → ((k : ℕ) → In k columns → In k (map (λ (p : Pred). p.left.col) (filter (ties i) q.query.preds))) → (c : List (List Value)) (r : List Value) → suc (length c) ≡ i → keeps q i (c ++ r ∷ []) ≡ true → is_match q i columns c r ≡ true
  passes_match i columns h c r l keep = all_from (λ k. compares op.Eq (slice_get r k) (tied_value q i c k)) columns (λ k here.
      let e = tied_one i k (h k here) c r l keep in
      (λ x. compares op.Eq (e.1 x) (e.2 x)) ∙ equal_holds e.0 e.0 e.3 (same_value e.0) refl)
    where
      same_value : (x : Value) → is_eq (value_cmp x x) ≡ true
      same_value x = same_test value_cmp value_cmp_total x x refl
