-- The classes of columns: what a chain of equalities joins, and which columns a list of members has.
use Rattle.std.proofs.Common.{◌≡◌, ℕ, zero, suc, ◌+◌, ◌<◌, ◌≤◌, Bool, true, false, cond, ◌==◌, ◌⊎◌, inl, inr, List, [], ◌∷◌, ◌++◌, length, map, filter, flat_map, Option, refl, sym, ap, ◌∙◌, subst, arith}
use Rattle.std.specs.List.{range_with_len}
use Rattle.std.proofs.lemmas.Bool.{eqb-true, false≢true, eq-eqb, and_parts, and_from}
use Rattle.pq_base.specs.declared.value.Value.{Value}
use Rattle.pq_base.specs.Members.{In}
use Rattle.pq_schema.specs.declared.table.Table.{Table}
use Rattle.pq_schema.specs.declared.query.ColRef.{ColRef}
use Rattle.pq_base.specs.declared.op.Op.TheVariants as op
use Rattle.pq_schema.specs.declared.query.Operand.{Operand}
use Rattle.pq_schema.specs.declared.query.Operand.TheVariants as operand
use Rattle.pq_schema.specs.declared.query.Pred.{Pred}
use Rattle.pq_schema.specs.declared.query.Query.{Query}
use Rattle.pq_schema.specs.Relations.{table_of, is_equality}
use Rattle.pq_schema.specs.Resolved.{IsColumnOf, same_ref}
use Rattle.pq_base.specs.Comparing.{compares}
use Rattle.pq_plan.specs.Answer.{cell, side, holds}
use Rattle.pq_base.proofs.Members.{in_filter, filter_in, in_map, map_in, in_flat_map, flat_map_in, in_either, in_range, range_in}
use Rattle.pq_plan.proofs.Fixed.{both_are}
use Rattle.pq_arrange.specs.Classes.{is_ref, is_join, merged_classes, joined_with, class_of, is_in, column_refs_at, members}
use Rattle.pq_arrange.proofs.Moved.{equality, equal_sides}

-- ---- equal values that are there
-- This relation is symmetric and transitive; a column with no value or NULL is not equal to itself. No more of it is used.
abbrev pub Equal : Option Value → Option Value → Type 0
Equal a b = compares op.Eq a b ≡ true

pub equal_back : (a b : Option Value) → Equal a b → Equal b a
equal_back a b h = equal_sides b a ∙ h

pub equal_on : (a b c : Option Value) → Equal a b → Equal b c → Equal a c
equal_on a b c h g = let both = both_are b c g in subst (Equal a) (both.1 ∙ sym both.2) h

-- ---- columns
pub ref_same : (a b : ColRef) → same_ref a b ≡ true → a ≡ b
ref_same a b h =
    let rels : a.rel ≡ b.rel = eqb-true a.rel b.rel (and_parts _ _ h).0 in
    let cols : a.col ≡ b.col = eqb-true a.col b.col (and_parts _ _ h).1 in
    λ i. record { rel = rels i; col = cols i }

pub same_itself : (a : ColRef) → same_ref a a ≡ true
same_itself a = and_from (a.rel == a.rel) (a.col == a.col) (eq-eqb a.rel a.rel refl) (eq-eqb a.col a.col refl)

pub same_when : (a b : ColRef) → a ≡ b → same_ref a b ≡ true
same_when a b e = subst (λ (c : ColRef). same_ref a c ≡ true) e (same_itself a)

-- ---- the two kinds of equality
pub join_parts : (pred : Pred) → is_join pred ≡ true → (other : ColRef) × (pred.right ≡ operand.Col other) × (pred.op ≡ op.Eq)
join_parts pred h = by_right pred.right refl (and_parts (is_equality pred.op) (is_ref pred.right) h).1
  where
    by_right : (right : Operand) → pred.right ≡ right → is_ref right ≡ true → (other : ColRef) × (pred.right ≡ operand.Col other) × (pred.op ≡ op.Eq)
    by_right (operand.Const value) e t = absurd (false≢true t)
    by_right (operand.Param number) e t = absurd (false≢true t)
    by_right (operand.Col other) e t = (other, e, equality pred.op (and_parts (is_equality pred.op) (is_ref pred.right) h).0)

-- what holds of both sides of each column equality, and is an equivalence, holds within a class
pub record IsEquivalent (R : ColRef → ColRef → Type 0) : Type 0 where
  pub itself : (a : ColRef) → R a a
  pub back : (a b : ColRef) → R a b → R b a
  pub on : (a b c : ColRef) → R a b → R b c → R a c

abbrev pub Joins : (ColRef → ColRef → Type 0) → List Pred → Type 0
Joins R preds = (pred : Pred) → In pred preds → (other : ColRef) → pred.right ≡ operand.Col other → pred.op ≡ op.Eq → R pred.left other

pub class_by : (R : ColRef → ColRef → Type 0) → IsEquivalent R → (preds : List Pred) → Joins R preds → (ref : ColRef) → R ref (class_of preds ref)
class_by R l [] h ref = l.itself ref
class_by R l (pred ∷ preds) h ref = by_right (class_by R l preds (λ p i. h p (inr i))) pred.right refl
  where
    by_right : ((ref : ColRef) → R ref (class_of preds ref)) → (right : Operand) → pred.right ≡ right → R ref (joined_with pred right (class_of preds) ref)
    by_right rest (operand.Const value) e = rest ref
    by_right rest (operand.Param number) e = rest ref
    by_right rest (operand.Col other) e =
        elim (is_equality pred.op) as (λ b. is_equality pred.op ≡ b → R ref ((cond b (merged_classes pred.left other (class_of preds)) (class_of preds)) ref)) [
          | true ↦ λ t.
              elim (same_ref (class_of preds ref) (class_of preds other)) as (λ c. same_ref (class_of preds ref) (class_of preds other) ≡ c → R ref (cond c (class_of preds pred.left) (class_of preds ref))) [
                | true ↦ λ s.
                    l.on ref (class_of preds other) (class_of preds pred.left)
                    (subst (λ (x : ColRef). R ref x) (ref_same _ _ s) (rest ref))
                    (l.on (class_of preds other) other (class_of preds pred.left) (l.back other (class_of preds other) (rest other))
                    (l.on other pred.left (class_of preds pred.left) (l.back pred.left other (h pred (inl refl) other e (equality pred.op t))) (rest pred.left)))
                | false ↦ λ _. rest ref
              ] refl
          | false ↦ λ _. rest ref
        ] refl

pub within_class : (R : ColRef → ColRef → Type 0) → IsEquivalent R → (preds : List Pred) → Joins R preds → (a b : ColRef) → class_of preds a ≡ class_of preds b → R a b
within_class R l preds h a b e = l.on a (class_of preds b) b (subst (λ (x : ColRef). R a x) e (class_by R l preds h a)) (l.back b (class_of preds b) (class_by R l preds h b))

module _ (params : List Value) (combo : List (List Value)) where
  abbrev pub Near : ColRef → ColRef → Type 0
  Near a b = (a ≡ b) ⊎ Equal (cell combo a) (cell combo b)

  pub near_back : (a b : ColRef) → Near a b → Near b a
  near_back a b (inl e) = inl (sym e)
  near_back a b (inr h) = inr (equal_back (cell combo a) (cell combo b) h)

  pub near_on : (a b c : ColRef) → Near a b → Near b c → Near a c
  near_on a b c (inl e) h = subst (λ (x : ColRef). Near x c) (sym e) h
  near_on a b c (inr g) (inl e) = subst (λ (x : ColRef). Near a x) e (inr g)
  near_on a b c (inr g) (inr h) = inr (equal_on (cell combo a) (cell combo b) (cell combo c) g h)

  -- a column equality that holds
  pub join_holds : (pred : Pred) (other : ColRef) → pred.right ≡ operand.Col other → pred.op ≡ op.Eq → holds params combo pred ≡ true → Equal (cell combo pred.left) (cell combo other)
  join_holds pred other is e h = (λ i. compares (sym e i) (cell combo pred.left) (side params combo (sym is i))) ∙ h

  near_equivalent : IsEquivalent Near
  near_equivalent = record { itself = λ a. inl refl; back = near_back; on = near_on }

  -- columns of one class
  pub class_equal : (preds : List Pred) → ((pred : Pred) → In pred preds → holds params combo pred ≡ true) → (a b : ColRef) → class_of preds a ≡ class_of preds b → Near a b
  class_equal preds h = within_class Near near_equivalent preds (λ pred i other is e. inr (join_holds pred other is e (h pred i)))

-- both sides of a column equality are of one class
pub one_class : (preds : List Pred) (pred : Pred) (other : ColRef) → In pred preds → pred.right ≡ operand.Col other → pred.op ≡ op.Eq → class_of preds pred.left ≡ class_of preds other
one_class [] pred other i is e = absurd i
one_class (p ∷ preds) pred other (inl s) is e =
    subst (λ (p : Pred). joined_with p p.right (class_of preds) pred.left ≡ joined_with p p.right (class_of preds) other) (sym s)
    (subst (λ (right : Operand). joined_with pred right (class_of preds) pred.left ≡ joined_with pred right (class_of preds) other) (sym is)
    (subst (λ (b : Bool). (cond b (merged_classes pred.left other (class_of preds)) (class_of preds)) pred.left ≡ (cond b (merged_classes pred.left other (class_of preds)) (class_of preds)) other) (sym (ap is_equality e))
    (elim (same_ref (class_of preds pred.left) (class_of preds other)) as (λ b. cond b (class_of preds pred.left) (class_of preds pred.left) ≡ class_of preds pred.left) [ true ↦ refl | false ↦ refl ]
    ∙ sym (ap (λ b. cond b (class_of preds pred.left) (class_of preds other)) (same_itself (class_of preds other))))))
one_class (p ∷ preds) pred other (inr i) is e = by_right (one_class preds pred other i is e) p.right
  where
    by_right : class_of preds pred.left ≡ class_of preds other → (right : Operand) → joined_with p right (class_of preds) pred.left ≡ joined_with p right (class_of preds) other
    by_right rest (operand.Const value) = rest
    by_right rest (operand.Param number) = rest
    by_right rest (operand.Col third) = elim (is_equality p.op) as (λ b. (cond b (merged_classes p.left third (class_of preds)) (class_of preds)) pred.left ≡ (cond b (merged_classes p.left third (class_of preds)) (class_of preds)) other) [
      | true ↦ λ i. cond (same_ref (rest i) (class_of preds third)) (class_of preds p.left) (rest i)
      | false ↦ rest
    ]

-- ---- members
module _ (tables : List Table) (query : Query) where
  pub member_in : (class ref : ColRef) → IsColumnOf tables query ref → class_of query.preds ref ≡ class → In ref (members tables query class)
  member_in class ref c e =
      let low = c.from_one in
      let high = c.there in
      filter_in (is_in query.preds class) ref (flat_map (column_refs_at tables query) (range_with_len 1 (length query.relations)))
      (flat_map_in (column_refs_at tables query) ref ref.rel (range_with_len 1 (length query.relations)) (range_in ref.rel 1 (length query.relations) low (omega arith))
      (map_in (λ col. record { rel = ref.rel; col = col }) ref.col (range_with_len 0 (length (table_of tables query ref.rel).columns)) (range_in ref.col 0 (length (table_of tables query ref.rel).columns) (omega arith) (let inside : ref.col < length (table_of tables query ref.rel).columns = c.inside in omega (arith, inside)))))
      (same_when (class_of query.preds ref) class e)

  pub in_members : (class ref : ColRef) → In ref (members tables query class) → class_of query.preds ref ≡ class
  in_members class ref i = ref_same _ _ (in_filter (is_in query.preds class) ref (flat_map (column_refs_at tables query) (range_with_len 1 (length query.relations))) i).1

  abbrev pub Rises : List ColRef → Type 0
  Rises [] = Unit {0}
  Rises (x ∷ xs) = ((y : ColRef) → In y xs → x.rel ≤ y.rel) × Rises xs

  rises_filter : (p : ColRef → Bool) (xs : List ColRef) → Rises xs → Rises (filter p xs)
  rises_filter p [] h = tt
  rises_filter p (x ∷ xs) h = elim (p x) as (λ b. Rises (cond b (x ∷ filter p xs) (filter p xs))) [
    | true ↦ ((λ y i. h.0 y (in_filter p y xs i).0), rises_filter p xs h.1)
    | false ↦ rises_filter p xs h.1
  ]

  rises_append : (xs ys : List ColRef) → Rises xs → Rises ys → ((x y : ColRef) → In x xs → In y ys → x.rel ≤ y.rel) → Rises (xs ++ ys)
  rises_append [] ys g h both = h
  rises_append (x ∷ xs) ys g h both = (
    (λ y i. elim (in_either y xs ys i) [ inl a ↦ g.0 y a | inr b ↦ both x y (inl refl) b ]),
    rises_append xs ys g.1 h (λ z y i j. both z y (inr i) j),
  )

  pub of_relation : (rel : ℕ) (cols : List ℕ) (y : ColRef) → In y (map (λ col. record { rel = rel; col = col }) cols) → y.rel ≡ rel
  of_relation rel cols y i = let h = in_map (λ (col : ℕ). let r : ColRef = record { rel = rel; col = col } in r) y cols i in ap (λ (r : ColRef). r.rel) (sym h.2)

  rises_columns : (rel : ℕ) (cols : List ℕ) → Rises (map (λ col. record { rel = rel; col = col }) cols)
  rises_columns rel [] = tt
  rises_columns rel (col ∷ cols) = ((λ y i. let e : y.rel ≡ rel = of_relation rel cols y i in omega (arith, e)), rises_columns rel cols)

  rises_all : (a n : ℕ) → Rises (flat_map (column_refs_at tables query) (range_with_len a n))
  rises_all a zero = tt
  rises_all a (suc n) = rises_append (column_refs_at tables query a) (flat_map (column_refs_at tables query) (range_with_len (a + 1) n)) (rises_columns a (range_with_len 0 (length (table_of tables query a).columns))) (rises_all (a + 1) n)
      (λ x y i j.
      let e : x.rel ≡ a = of_relation a (range_with_len 0 (length (table_of tables query a).columns)) x i in
      let f = in_flat_map (column_refs_at tables query) y (range_with_len (a + 1) n) j in
      let g : y.rel ≡ f.0 = of_relation f.0 (range_with_len 0 (length (table_of tables query f.0).columns)) y f.2 in
      let low : a + 1 ≤ f.0 = (in_range f.0 (a + 1) n f.1).0 in
      omega (arith, e, g, low))

  pub members_rise : (class : ColRef) → Rises (members tables query class)
  members_rise class = rises_filter (is_in query.preds class) (flat_map (column_refs_at tables query) (range_with_len 1 (length query.relations))) (rises_all 1 (length query.relations))
