-- A query has the same combinations in any order of its relations.
use Rattle.std.proofs.Common.{◌≡◌, ℕ, zero, suc, ◌+◌, ◌-◌, ◌<◌, ◌≤◌, Bool, inl, inr, List, [], ◌∷◌, length, get_or, map, IsPermutation, refl, sym, ap, ◌∙◌, subst, arith}
use Rattle.std.specs.List.{range_with_len, list_all}
use Rattle.std.proofs.lemmas.List.{length-map, get_or-map}
use Rattle.std.proofs.lemmas.List.FromFn.{length-range_with_len, get_or-range_with_len}
use Rattle.std.proofs.lemmas.List.Sorted.{length_permutation, Contains-permutation, IsPermutation-sym}
use Rattle.pq_base.specs.declared.value.Value.{Value}
use Rattle.pq_base.specs.Members.{In}
use Rattle.pq_schema.specs.declared.query.Operand.{Operand}
use Rattle.pq_schema.specs.declared.query.Operand.TheVariants as operand
use Rattle.pq_schema.specs.declared.query.Pred.{Pred}
use Rattle.pq_schema.specs.declared.query.Relation.{Relation}
use Rattle.pq_schema.specs.declared.table.Table.{Table}
use Rattle.pq_schema.specs.declared.query.Query.{Query}
use Rattle.pq_schema.specs.Relations.{relation_at, no_relation}
use Rattle.pq_schema.specs.Resolved.{IsPredicate, IsOperand}
use Rattle.pq_plan.specs.Answer.{Question, row_of, rows_of, rows_at, product, combos, holds}
use Rattle.pq_base.proofs.Members.{each_by_in, filter_same, filter-map, in_range, range_in, member_at, at_in, all_member}
use Rattle.pq_arrange.specs.Moves.{permuted_combo}
use Rattle.pq_arrange.specs.Laws.{asked_in, SameInAnyOrder}
use Rattle.pq_base.proofs.Shuffles.{Shuffle, then, equal, mapped, filtered, permutation}
use Rattle.pq_arrange.proofs.Assigned.{assigned, any_order}
use Rattle.pq_arrange.proofs.Products.{down, down_long, in_down, down_in, differ, range_order, permuted_order, map_same, base, products}
use Rattle.pq_arrange.proofs.Moved.{IsAmong, Mentions, all_moved}

-- ---- members of permuted lists
contained : {X : Type 0} (v : X) (xs : List X) → In v xs → (k : ℕ) × (k < length xs) × (get_or xs k v ≡ v)
contained v [] i = absurd i
contained v (x ∷ xs) (inl e) = (0, omega arith, e)
contained v (x ∷ xs) (inr r) = let c = contained v xs r in (suc c.0, omega (arith, c.1), c.2)

from_contained : {X : Type 0} (xs : List X) (v : X) (k : ℕ) → k < length xs → get_or xs k v ≡ v → In v xs
from_contained [] v k h e = absurd (omega arith)
from_contained (x ∷ xs) v zero h e = inl e
from_contained (x ∷ xs) v (suc k) h e = inr (from_contained xs v k (omega arith) e)

pub in_permuted : {X : Type 0} (v : X) (xs ys : List X) → IsPermutation xs ys → In v xs → In v ys
in_permuted v xs ys p i = let c = Contains-permutation xs ys v p (contained v xs i) in from_contained ys v c.0 c.1 c.2

map_map : {A B C : Type 0} (f : B → C) (g : A → B) (xs : List A) → map f (map g xs) ≡ map (λ x. f (g x)) xs
map_map f g [] = refl
map_map f g (x ∷ xs) = ap (λ l. f (g x) ∷ l) (map_map f g xs)

-- ---- what a predicate of a resolved query mentions
operand_among : (tables : List Table) (query : Query) (order : List ℕ) (pred : Pred) → IsPermutation (range_with_len 1 (length query.relations)) order → (right : Operand) → IsOperand tables query pred right → Mentions order right
operand_among tables query order pred p (operand.Const value) h = tt
operand_among tables query order pred p (operand.Param number) h = tt
operand_among tables query order pred p (operand.Col other) h =
    let low = h.column.from_one in
    let high = h.column.there in
    in_permuted other.rel (range_with_len 1 (length query.relations)) order p (range_in other.rel 1 (length query.relations) low (omega arith))

pub among : (tables : List Table) (query : Query) (order : List ℕ) (pred : Pred) → IsPermutation (range_with_len 1 (length query.relations)) order → IsPredicate tables query pred → IsAmong order pred
among tables query order pred p h =
    let low = h.left.from_one in
    let high = h.left.there in
    record {
      left = in_permuted pred.left.rel (range_with_len 1 (length query.relations)) order p (range_in pred.left.rel 1 (length query.relations) low (omega arith));
      right = operand_among tables query order pred p pred.right h.right;
    }

module _ (q : Question) (order : List ℕ) (p : IsPermutation (range_with_len 1 (length q.query.relations)) order) (preds : (pred : Pred) → In pred q.query.preds → IsAmong order pred) where
  abbrev m : ℕ
  m = length q.query.relations

  abbrev all : List ℕ
  all = range_with_len 1 m

  abbrev q' : Question
  q' = asked_in order q

  long : length order ≡ m
  long = length_permutation all order p ∙ length-range_with_len 1 m

  pub old_rows : (i : ℕ) → i < length all → rows_at q (suc i) ≡ rows_at q (get_or all i 0)
  old_rows i h =
      let inside : i < m = subst (λ (n : ℕ). i < n) (length-range_with_len 1 m) h in
      ap (rows_at q) (let e : get_or all i 0 ≡ 1 + i = get_or-range_with_len 1 m i 0 inside in omega (arith, e))

  new_rows : (i : ℕ) → i < length order → rows_at q' (suc i) ≡ rows_at q (get_or order i 0)
  new_rows i h =
      ap (λ (relation : Relation). rows_of relation.table q.rows)
      (ap (λ (n : ℕ). get_or (map (relation_at q.query) order) n no_relation) (omega arith) ∙ get_or-map (relation_at q.query) order i 0 no_relation h)

  abbrev old : List (ℕ → List Value)
  old = assigned (rows_at q) base (down all (length all))

  abbrev new : List (ℕ → List Value)
  new = assigned (rows_at q) base (down order (length order))

  one_order : Shuffle old new
  one_order =
      any_order (rows_at q) base (down all (length all)) (down order (length order)) (differ all (range_order m) (length all) (omega arith))
      (λ x here.
      let a = in_down all x (length all) here in
      let b = in_permuted x all order p (subst (λ (n : ℕ). In n all) a.2 (at_in all a.0 0 a.1)) in
      let c = member_at x order 0 b in
      subst (λ (n : ℕ). In n (down order (length order))) c.2 (down_in order c.0 (length order) c.1))
      (down_long all (length all) ∙ sym (length_permutation all order p) ∙ sym (down_long order (length order)))

  pub row_is : (g : ℕ → List Value) (rel : ℕ) → In rel order → row_of rel (map g all) ≡ g rel
  row_is g rel here =
      let there = in_range rel 1 m (in_permuted rel order all (IsPermutation-sym all order p) here) in
      let low : 1 ≤ rel = there.0 in
      let high : rel < 1 + m = there.1 in
      let inside : rel - 1 < m = omega arith in
      let within : rel - 1 < length all = subst (λ (n : ℕ). rel - 1 < n) (sym (length-range_with_len 1 m)) inside in
      let e : get_or all (rel - 1) 0 ≡ 1 + (rel - 1) = get_or-range_with_len 1 m (rel - 1) 0 inside in
      get_or-map g all (rel - 1) 0 [] within ∙ ap g (omega (arith, e))

  -- the rows of the product in the new order
  whole_moved : map (permuted_combo order) (product q m) ≡ map (λ g. map g order) old
  whole_moved =
      ap (map (permuted_combo order)) (ap (product q) (sym (length-range_with_len 1 m)) ∙ products q all (rows_at q) (range_order m) old_rows)
      ∙ map_map (permuted_combo order) (λ (g : ℕ → List Value). map g all) old
      ∙ ap (λ (f : (ℕ → List Value) → List (List Value)). map f old) (λ i g. map_same (λ rel. row_of rel (map g all)) g order (row_is g) i)

  products_same : Shuffle (map (permuted_combo order) (product q m)) (product q' (length q'.query.relations))
  products_same =
      then (map (permuted_combo order) (product q m)) (map (λ g. map g order) old) (product q' (length q'.query.relations))
      (equal _ _ whole_moved)
      (then (map (λ g. map g order) old) (map (λ g. map g order) new) (product q' (length q'.query.relations))
      (mapped (λ g. map g order) old new one_order)
      (equal _ _ (sym (ap (product q') (length-map order (relation_at q.query)) ∙ products q' order (rows_at q) (permuted_order m order p) new_rows))))

  abbrev passes : List (List Value) → Bool
  passes combo = list_all (holds q.params combo) q.query.preds

  abbrev passes' : List (List Value) → Bool
  passes' combo = list_all (holds q.params combo) q'.query.preds

  pub combos_same : Shuffle (map (permuted_combo order) (combos q)) (combos q')
  combos_same =
      subst (λ (l : List (List (List Value))). Shuffle l (combos q'))
      (filter-map passes' (permuted_combo order) (product q m)
      ∙ ap (map (permuted_combo order)) (filter_same (λ combo. passes' (permuted_combo order combo)) passes (product q m) (each_by_in _ (product q m) (λ combo _. all_moved q.params order combo q.query.preds preds))))
      (filtered passes' (map (permuted_combo order) (product q m)) (product q' (length q'.query.relations)) products_same)

pub same_in_any_order : SameInAnyOrder
same_in_any_order q r order p =
    permutation _ _ (combos_same q order p (λ pred here. among q.tables q.query order pred p (all_member (IsPredicate q.tables q.query) q.query.preds r.preds pred here)))
