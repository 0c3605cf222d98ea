-- A query with its equalities closed has no more predicates.
use Rattle.std.proofs.Common.{◌≡◌, ℕ, zero, suc, ◌+◌, ◌≤◌, Bool, true, false, cond, ◌&&◌, ◌||◌, inl, inr, List, [], ◌∷◌, ◌++◌, length, map, filter, flat_map, length-append, refl, sym, ap, ◌∙◌, subst, arith}
use Rattle.std.specs.List.{range_with_len}
use Rattle.std.proofs.lemmas.Bool.{false≢true, and_from}
use Rattle.pq_base.specs.Members.{In}
use Rattle.pq_schema.specs.declared.table.Table.{Table}
use Rattle.pq_schema.specs.declared.query.ColRef.{ColRef}
use Rattle.pq_schema.specs.declared.query.Operand.{Operand}
use Rattle.pq_schema.specs.declared.query.Operand.TheVariants as operand
use Rattle.pq_schema.specs.declared.query.Pred.{Pred}
use Rattle.pq_schema.specs.declared.query.Query.{Query}
use Rattle.pq_schema.specs.Relations.{table_of, is_equality}
use Rattle.pq_schema.specs.Resolved.{same_ref}
use Rattle.pq_base.proofs.Members.{in_filter, in_map, in_flat_map, in_either, in_range}
use Rattle.pq_arrange.specs.Classes.{is_ref, is_join, merged_classes, joined_with, class_of, is_in, column_refs_at}
use Rattle.pq_arrange.proofs.Chains.{ref_same, same_when, of_relation}

-- ---- sums
abbrev pub bit : Bool → ℕ
bit b = cond b 1 0

bit_both : (a b : Bool) → cond (a || b) 1 0 ≤ cond a 1 0 + cond b 1 0
bit_both true b = elim b as (λ b. 1 ≤ 1 + cond b 1 0) [ true ↦ omega arith | false ↦ omega arith ]
bit_both false b = elim b as (λ b. cond b 1 0 ≤ 0 + cond b 1 0) [ true ↦ omega arith | false ↦ omega arith ]

bit_apart : (a b : Bool) → (a && b) ≡ false → cond a 1 0 + cond b 1 0 ≤ cond (a || b) 1 0
bit_apart true true h = absurd (false≢true (sym h))
bit_apart true false h = omega arith
bit_apart false b h = elim b as (λ b. 0 + cond b 1 0 ≤ cond b 1 0) [ true ↦ omega arith | false ↦ omega arith ]

module _ {X : Type 0} where
  abbrev pub total : (X → ℕ) → List X → ℕ
  total f [] = 0
  total f (x ∷ xs) = f x + total f xs

  abbrev pub count : (X → Bool) → List X → ℕ
  count p xs = total (λ x. cond (p x) 1 0) xs

  pub total_add : (f g : X → ℕ) (xs : List X) → total (λ x. f x + g x) xs ≡ total f xs + total g xs
  total_add f g [] = refl
  total_add f g (x ∷ xs) = let h : total (λ x. f x + g x) xs ≡ total f xs + total g xs = total_add f g xs in omega (arith, h)

  pub total_le : (f g : X → ℕ) (xs : List X) → ((x : X) → In x xs → f x ≤ g x) → total f xs ≤ total g xs
  total_le f g [] h = omega arith
  total_le f g (x ∷ xs) h =
      let a : f x ≤ g x = h x (inl refl) in
      let b : total f xs ≤ total g xs = total_le f g xs (λ y i. h y (inr i)) in
      omega (arith, a, b)

  pub length_filter : (p : X → Bool) (xs : List X) → length (filter p xs) ≡ count p xs
  length_filter p [] = refl
  length_filter p (x ∷ xs) =
      let h : length (filter p xs) ≡ count p xs = length_filter p xs in
      elim (p x) as (λ b. length (cond b (x ∷ filter p xs) (filter p xs)) ≡ cond b 1 0 + count p xs) [
        | true ↦ omega (arith, h)
        | false ↦ omega (arith, h)
      ]

  abbrev pub Distinct : List X → Type 0
  Distinct [] = Unit {0}
  Distinct (x ∷ xs) = (In x xs → ⊥) × Distinct xs

  pub none_hit : (t : X → Bool) (xs : List X) → ((x : X) → In x xs → t x ≡ false) → count t xs ≡ 0
  none_hit t [] h = refl
  none_hit t (x ∷ xs) h =
      let a : cond (t x) 1 0 ≡ 0 = ap bit (h x (inl refl)) in
      let b : count t xs ≡ 0 = none_hit t xs (λ y i. h y (inr i)) in
      omega (arith, a, b)

  -- a test that one element passes
  pub one_hit : (t : X → Bool) → ((x y : X) → t x ≡ true → t y ≡ true → x ≡ y) → (xs : List X) → Distinct xs → count t xs ≤ 1
  one_hit t only [] d = omega arith
  one_hit t only (x ∷ xs) d =
      let rest : count t xs ≤ 1 = one_hit t only xs d.1 in
      elim (t x) as (λ b. t x ≡ b → cond b 1 0 + count t xs ≤ 1) [
        | true ↦ λ e.
            let z : count t xs ≡ 0 = none_hit t xs (λ y i. elim (t y) as (λ b. t y ≡ b → b ≡ false) [ true ↦ λ f. absurd (d.0 (subst (λ (w : X). In w xs) (only y x f e) i)) | false ↦ λ _. refl ] refl) in
            omega (arith, z)
        | false ↦ λ _. omega (arith, rest)
      ] refl

  pub distinct_filter : (p : X → Bool) (xs : List X) → Distinct xs → Distinct (filter p xs)
  distinct_filter p [] d = tt
  distinct_filter p (x ∷ xs) d = elim (p x) as (λ b. Distinct (cond b (x ∷ filter p xs) (filter p xs))) [
    | true ↦ ((λ i. d.0 (in_filter p x xs i).0), distinct_filter p xs d.1)
    | false ↦ distinct_filter p xs d.1
  ]

  distinct_append : (xs ys : List X) → Distinct xs → Distinct ys → ((x : X) → In x xs → In x ys → ⊥) → Distinct (xs ++ ys)
  distinct_append [] ys d e h = e
  distinct_append (x ∷ xs) ys d e h = (
    (λ i. elim (in_either x xs ys i) [ inl a ↦ d.0 a | inr b ↦ h x (inl refl) b ]),
    distinct_append xs ys d.1 e (λ z i j. h z (inr i) j),
  )

pub length_flat : {X Y : Type 0} (f : X → List Y) (xs : List X) → length (flat_map f xs) ≡ total (λ x. length (f x)) xs
length_flat f [] = refl
length_flat f (x ∷ xs) =
    let h : length (flat_map f xs) ≡ total (λ x. length (f x)) xs = length_flat f xs in
    let g : length (f x ++ flat_map f xs) ≡ length (f x) + length (flat_map f xs) = length-append (f x) (flat_map f xs) in
    omega (arith, h, g)

-- ---- all columns differ
columns_distinct : (rel a n : ℕ) → Distinct (map (λ col. let r : ColRef = record { rel = rel; col = col } in r) (range_with_len a n))
columns_distinct rel a zero = tt
columns_distinct rel a (suc n) = (
  (λ i.
      let h = in_map (λ (col : ℕ). let r : ColRef = record { rel = rel; col = col } in r) (record { rel = rel; col = a }) (range_with_len (a + 1) n) i in
      let low : a + 1 ≤ h.0 = (in_range h.0 (a + 1) n h.1).0 in
      let e : h.0 ≡ a = ap (λ (r : ColRef). r.col) h.2 in
      absurd (omega (arith, low, e))),
  columns_distinct rel (a + 1) n,
)

pub all_distinct : (tables : List Table) (query : Query) (a n : ℕ) → Distinct (flat_map (column_refs_at tables query) (range_with_len a n))
all_distinct tables query a zero = tt
all_distinct tables query a (suc n) =
    distinct_append (column_refs_at tables query a) (flat_map (column_refs_at tables query) (range_with_len (a + 1) n)) (columns_distinct a 0 (length (table_of tables query a).columns)) (all_distinct tables query (a + 1) n)
    (λ x i j.
    let e : x.rel ≡ a = of_relation tables query a (range_with_len 0 (length (table_of tables query a).columns)) x i in
    let f = in_flat_map (column_refs_at tables query) x (range_with_len (a + 1) n) j in
    let g : x.rel ≡ f.0 = of_relation tables query f.0 (range_with_len 0 (length (table_of tables query f.0).columns)) x f.2 in
    let low : a + 1 ≤ f.0 = (in_range f.0 (a + 1) n f.1).0 in
    absurd (omega (arith, e, g, low)))

-- ---- a class has at most one member more than column equalities
-- whether a column whose class was stood for by x is of class c once the classes of a and b are one
abbrev after : ColRef → ColRef → ColRef → ColRef → Bool
after a b c x = same_ref (cond (same_ref x b) a x) c

after_same : (a b c x : ColRef) → same_ref a c ≡ same_ref b c → after a b c x ≡ same_ref x c
after_same a b c x e = elim (same_ref x b) as (λ t. same_ref x b ≡ t → same_ref (cond t a x) c ≡ same_ref x c) [
  | true ↦ λ s. e ∙ ap (λ (y : ColRef). same_ref y c) (sym (ref_same x b s))
  | false ↦ λ _. refl
] refl

after_both : (a b c x : ColRef) → same_ref a c ≡ true → after a b c x ≡ (same_ref x c || same_ref x b)
after_both a b c x e = elim (same_ref x b) as (λ t. same_ref (cond t a x) c ≡ (same_ref x c || t)) [
  | true ↦ e ∙ sym (either (same_ref x c))
  | false ↦ sym (neither (same_ref x c))
]
  where
    either : (t : Bool) → (t || true) ≡ true
    either true = refl
    either false = refl

    neither : (t : Bool) → (t || false) ≡ t
    neither true = refl
    neither false = refl

after_none : (a b c x : ColRef) → same_ref a c ≡ false → same_ref b c ≡ true → after a b c x ≡ false
after_none a b c x e f = elim (same_ref x b) as (λ t. same_ref x b ≡ t → same_ref (cond t a x) c ≡ false) [
  | true ↦ λ _. e
  | false ↦ λ s. ap (same_ref x) (sym (ref_same b c f)) ∙ s
] refl

apart_tests : (b c x : ColRef) → same_ref b c ≡ false → (same_ref x c && same_ref x b) ≡ false
apart_tests b c x h = elim (same_ref x c) as (λ t. same_ref x c ≡ t → (t && same_ref x b) ≡ false) [
  | true ↦ λ s. elim (same_ref x b) as (λ t. same_ref x b ≡ t → t ≡ false) [
    | true ↦ λ t. absurd (false≢true (sym h ∙ same_when b c (sym (ref_same x b t) ∙ ref_same x c s)))
    | false ↦ λ _. refl
  ] refl
  | false ↦ λ _. refl
] refl

-- the column equalities of a class
abbrev pub joins_of : List Pred → ColRef → List Pred → ℕ
joins_of all class preds = count (λ p. is_join p && is_in all class p.left) preds

module _ (refs : List ColRef) (distinct : Distinct refs) where
  same_count : {X : Type 0} (p r : X → Bool) (xs : List X) → ((x : X) → p x ≡ r x) → count p xs ≡ count r xs
  same_count p r [] h = refl
  same_count p r (x ∷ xs) h = λ i. cond (h x i) 1 0 + same_count p r xs h i

  -- one more predicate that is no column equality
  plain_step : (p : Pred) (preds : List Pred) (class : ColRef) → ((ref : ColRef) → class_of (p ∷ preds) ref ≡ class_of preds ref) → count (is_in preds class) refs ≤ 1 + joins_of preds class preds → count (is_in (p ∷ preds) class) refs ≤ 1 + joins_of (p ∷ preds) class (p ∷ preds)
  plain_step p preds class same h =
      let a : count (is_in (p ∷ preds) class) refs ≡ count (is_in preds class) refs = same_count (is_in (p ∷ preds) class) (is_in preds class) refs (λ r. ap (λ (x : ColRef). same_ref x class) (same r)) in
      let b : joins_of (p ∷ preds) class preds ≡ joins_of preds class preds = same_count (λ p'. is_join p' && is_in (p ∷ preds) class p'.left) (λ p'. is_join p' && is_in preds class p'.left) preds (λ p'. ap (λ (x : ColRef). is_join p' && same_ref x class) (same p'.left)) in
      omega (arith, a, b, h)

  abbrev Goal : ColRef → ColRef → ColRef → (ColRef → ColRef) → Bool → List Pred → Type 0
  Goal a b class cls mine preds = count (λ r. after (cls a) (cls b) class (cls r)) refs ≤ 1 + (cond mine 1 0 + count (λ p. is_join p && after (cls a) (cls b) class (cls p.left)) preds)

  join_step : (a b class : ColRef) (cls : ColRef → ColRef) (mine : Bool) (preds : List Pred) →
      ((c : ColRef) → count (λ r. same_ref (cls r) c) refs ≤ 1 + count (λ p. is_join p && same_ref (cls p.left) c) preds) →
      (same_ref (cls a) class ≡ true → mine ≡ true) →
      count (λ r. after (cls a) (cls b) class (cls r)) refs ≤ 1 + (cond mine 1 0 + count (λ p. is_join p && after (cls a) (cls b) class (cls p.left)) preds)
  join_step a b class cls mine preds h own =
      elim (same_ref (cls a) class) as (λ s. same_ref (cls a) class ≡ s → Goal a b class cls mine preds) [
        | true ↦ λ e. elim (same_ref (cls b) class) as (λ s. same_ref (cls b) class ≡ s → Goal a b class cls mine preds) [
          | true ↦ λ f. unchanged (e ∙ sym f)
          | false ↦ λ f.
              let one : cond mine 1 0 ≡ 1 = ap bit (own e) in
              let left : count (λ r. after (cls a) (cls b) class (cls r)) refs ≡ count (λ r. same_ref (cls r) class || same_ref (cls r) (cls b)) refs = same_count (λ r. after (cls a) (cls b) class (cls r)) (λ r. same_ref (cls r) class || same_ref (cls r) (cls b)) refs (λ r. after_both (cls a) (cls b) class (cls r) e) in
              let most : count (λ r. same_ref (cls r) class || same_ref (cls r) (cls b)) refs ≤ total (λ r. cond (same_ref (cls r) class) 1 0 + cond (same_ref (cls r) (cls b)) 1 0) refs = total_le _ (λ r. cond (same_ref (cls r) class) 1 0 + cond (same_ref (cls r) (cls b)) 1 0) refs (λ r _. bit_both (same_ref (cls r) class) (same_ref (cls r) (cls b))) in
              let sum : total (λ r. cond (same_ref (cls r) class) 1 0 + cond (same_ref (cls r) (cls b)) 1 0) refs ≡ count (λ r. same_ref (cls r) class) refs + count (λ r. same_ref (cls r) (cls b)) refs = total_add (λ r. cond (same_ref (cls r) class) 1 0) (λ r. cond (same_ref (cls r) (cls b)) 1 0) refs in
              let right : total (λ (p : Pred). cond (is_join p && same_ref (cls p.left) class) 1 0 + cond (is_join p && same_ref (cls p.left) (cls b)) 1 0) preds ≤ count (λ p. is_join p && after (cls a) (cls b) class (cls p.left)) preds = total_le (λ (p : Pred). cond (is_join p && same_ref (cls p.left) class) 1 0 + cond (is_join p && same_ref (cls p.left) (cls b)) 1 0) _ preds (λ p _. apart_bits p (cls p.left) e f) in
              let sum' : total (λ (p : Pred). cond (is_join p && same_ref (cls p.left) class) 1 0 + cond (is_join p && same_ref (cls p.left) (cls b)) 1 0) preds ≡ count (λ p. is_join p && same_ref (cls p.left) class) preds + count (λ p. is_join p && same_ref (cls p.left) (cls b)) preds = total_add (λ (p : Pred). cond (is_join p && same_ref (cls p.left) class) 1 0) (λ p. cond (is_join p && same_ref (cls p.left) (cls b)) 1 0) preds in
              let x = h class in
              let y = h (cls b) in
              omega (arith, one, left, most, sum, right, sum', x, y)
        ] refl
        | false ↦ λ e. elim (same_ref (cls b) class) as (λ s. same_ref (cls b) class ≡ s → Goal a b class cls mine preds) [
          | true ↦ λ f.
              let none : count (λ r. after (cls a) (cls b) class (cls r)) refs ≡ 0 = none_hit (λ r. after (cls a) (cls b) class (cls r)) refs (λ r _. after_none (cls a) (cls b) class (cls r) e f) in
              omega (arith, none)
          | false ↦ λ f. unchanged (e ∙ sym f)
        ] refl
      ] refl
    where
      unchanged : same_ref (cls a) class ≡ same_ref (cls b) class → Goal a b class cls mine preds
      unchanged e =
          let left : count (λ r. after (cls a) (cls b) class (cls r)) refs ≡ count (λ r. same_ref (cls r) class) refs = same_count (λ r. after (cls a) (cls b) class (cls r)) (λ r. same_ref (cls r) class) refs (λ r. after_same (cls a) (cls b) class (cls r) e) in
          let right : count (λ p. is_join p && after (cls a) (cls b) class (cls p.left)) preds ≡ count (λ p. is_join p && same_ref (cls p.left) class) preds = same_count (λ p. is_join p && after (cls a) (cls b) class (cls p.left)) (λ p. is_join p && same_ref (cls p.left) class) preds (λ p. ap (λ t. is_join p && t) (after_same (cls a) (cls b) class (cls p.left) e)) in
          let x = h class in
          omega (arith, left, right, x)

      apart_bits : (p : Pred) (x : ColRef) → same_ref (cls a) class ≡ true → same_ref (cls b) class ≡ false → cond (is_join p && same_ref x class) 1 0 + cond (is_join p && same_ref x (cls b)) 1 0 ≤ cond (is_join p && after (cls a) (cls b) class x) 1 0
      apart_bits p x e f = elim (is_join p) as (λ j. cond (j && same_ref x class) 1 0 + cond (j && same_ref x (cls b)) 1 0 ≤ cond (j && after (cls a) (cls b) class x) 1 0) [
        | true ↦ subst (λ t. cond (same_ref x class) 1 0 + cond (same_ref x (cls b)) 1 0 ≤ cond t 1 0) (sym (after_both (cls a) (cls b) class x e)) (bit_apart (same_ref x class) (same_ref x (cls b)) (apart_tests (cls b) class x f))
        | false ↦ omega arith
      ]

  pub few_members : (preds : List Pred) (class : ColRef) → count (is_in preds class) refs ≤ 1 + joins_of preds class preds
  few_members [] class = let h : count (λ r. same_ref r class) refs ≤ 1 = one_hit (λ r. same_ref r class) (λ x y e f. ref_same x class e ∙ sym (ref_same y class f)) refs distinct in omega (arith, h)
  few_members (p ∷ preds) class = by_right p.right refl (few_members preds)
    where
      either : (t : Bool) (x : ColRef) → cond t x x ≡ x
      either true x = refl
      either false x = refl

      by_right : (right : Operand) → p.right ≡ right → ((c : ColRef) → count (is_in preds c) refs ≤ 1 + joins_of preds c preds) → count (is_in (p ∷ preds) class) refs ≤ 1 + joins_of (p ∷ preds) class (p ∷ preds)
      by_right (operand.Const value) e h = plain_step p preds class (λ ref. ap (λ (o : Operand). joined_with p o (class_of preds) ref) e) (h class)
      by_right (operand.Param number) e h = plain_step p preds class (λ ref. ap (λ (o : Operand). joined_with p o (class_of preds) ref) e) (h class)
      by_right (operand.Col other) e h =
          elim (is_equality p.op) as (λ t. is_equality p.op ≡ t → count (is_in (p ∷ preds) class) refs ≤ 1 + joins_of (p ∷ preds) class (p ∷ preds)) [
            | true ↦ λ t.
                let cls : ColRef → ColRef = class_of preds in
                let join : is_join p ≡ true = and_from (is_equality p.op) (is_ref p.right) t (ap is_ref e) in
                let by : (ref : ColRef) → class_of (p ∷ preds) ref ≡ cond (same_ref (cls ref) (cls other)) (cls p.left) (cls ref) = λ ref. ap (λ (o : Operand). joined_with p o (class_of preds) ref) e ∙ ap (λ b. (cond b (merged_classes p.left other (class_of preds)) (class_of preds)) ref) t in
                let left : count (is_in (p ∷ preds) class) refs ≡ count (λ r. after (cls p.left) (cls other) class (cls r)) refs = same_count (is_in (p ∷ preds) class) (λ r. after (cls p.left) (cls other) class (cls r)) refs (λ r. ap (λ (x : ColRef). same_ref x class) (by r)) in
                let right : joins_of (p ∷ preds) class preds ≡ count (λ p'. is_join p' && after (cls p.left) (cls other) class (cls p'.left)) preds = same_count (λ p'. is_join p' && is_in (p ∷ preds) class p'.left) (λ p'. is_join p' && after (cls p.left) (cls other) class (cls p'.left)) preds (λ p'. ap (λ (x : ColRef). is_join p' && same_ref x class) (by p'.left)) in
                let own : same_ref (cls p.left) class ≡ true → (is_join p && is_in (p ∷ preds) class p.left) ≡ true = λ s. and_from (is_join p) (is_in (p ∷ preds) class p.left) join (ap (λ (x : ColRef). same_ref x class) (by p.left ∙ either (same_ref (cls p.left) (cls other)) (cls p.left)) ∙ s) in
                let main = join_step p.left other class cls (is_join p && is_in (p ∷ preds) class p.left) preds h own in
                omega (arith, left, right, main)
            | false ↦ λ t. plain_step p preds class (λ ref. ap (λ (o : Operand). joined_with p o (class_of preds) ref) e ∙ ap (λ b. (cond b (merged_classes p.left other (class_of preds)) (class_of preds)) ref) t) (h class)
          ] refl
