-- With its equalities closed a query keeps the same combinations.
use Rattle.std.proofs.Common.{◌≡◌, ◌<◌, ◌≤◌, Bool, true, false, cond, not, ◌&&◌, ◌||◌, ◌⊎◌, inl, inr, List, [], ◌∷◌, ◌++◌, length, map, filter, flat_map, Option, Some, None, refl, sym, ap, ◌∙◌, subst, arith}
use Rattle.std.specs.List.{list_all, find}
use Rattle.std.specs.Option.{option_map_or}
use Rattle.std.proofs.lemmas.Bool.{false≢true, and_parts, and_from, or_cases, lt-ltb, le-ltb}
use Rattle.pq_base.specs.declared.value.Value.{Value}
use Rattle.pq_base.specs.Members.{In}
use Rattle.pq_schema.specs.declared.table.Table.{Table}
use Rattle.pq_schema.specs.declared.query.ColRef.{ColRef}
use Rattle.pq_base.specs.declared.op.Op.{Op}
use Rattle.pq_base.specs.declared.op.Op.TheVariants as op
use Rattle.pq_schema.specs.declared.query.Operand.{Operand}
use Rattle.pq_schema.specs.declared.query.Operand.TheVariants as operand
use Rattle.pq_schema.specs.declared.query.Pred.{Pred}
use Rattle.pq_schema.specs.declared.query.Query.{Query}
use Rattle.pq_schema.specs.Relations.{is_equality}
use Rattle.pq_schema.specs.Resolved.{IsColumnOf, IsPredicate, IsOperand, same_ref}
use Rattle.pq_base.specs.Comparing.{compares}
use Rattle.pq_plan.specs.Answer.{cell, side, holds, product}
use Rattle.pq_base.proofs.Members.{in_filter, filter_in, in_map, map_in, in_flat_map, flat_map_in, in_either, in_left, in_right, all_at, all_from, any_from, all_member, filter_same, each_by_in}
use Rattle.pq_arrange.specs.Classes.{is_ref, is_join, is_given, class_of, is_in, is_joined, has, is_new, classes_after, classes, members, gives, equality_of, is_later, beside, class_joins, class_preds, others_after, others, closed_query}
use Rattle.pq_arrange.specs.Laws.{Chain, ends, rightward, leftward, SameWhenClosed, ClassesAreChains}
use Rattle.pq_arrange.proofs.Moved.{equality}
use Rattle.pq_arrange.proofs.Chains.{Equal, equal_back, equal_on, ref_same, same_itself, same_when, join_parts, Near, within_class, class_equal, one_class, member_in, in_members, Rises, members_rise}

both_ways : (a b : Bool) → (a ≡ true → b ≡ true) → (b ≡ true → a ≡ true) → a ≡ b
both_ways true b f g = sym (f refl)
both_ways false true f g = g refl
both_ways false false f g = refl

pub not_true : (b : Bool) → not b ≡ true → b ≡ false
not_true true h = absurd (false≢true h)
not_true false h = refl

no_some : {X : Type 0} {x : X} → None ≡ Some x → ⊥
no_some e = cc

one_some : {X : Type 0} {x y : X} → Some x ≡ Some y → x ≡ y
one_some e = cc

pub find_parts : {X : Type 0} (p : X → Bool) (xs : List X) (x : X) → find p xs ≡ Some x → In x xs × (p x ≡ true)
find_parts p [] x e = absurd (no_some e)
find_parts p (y ∷ ys) x e =
    elim (p y) as (λ b. p y ≡ b → cond b (Some y) (find p ys) ≡ Some x → In x (y ∷ ys) × (p x ≡ true)) [
      | true ↦ λ t e. let s : y ≡ x = one_some e in (inl s, ap p (sym s) ∙ t)
      | false ↦ λ _ e. let r = find_parts p ys x e in (inr r.0, r.1)
    ] refl e

-- ---- what the other predicates are
pub others_in : (all : List Pred) (seen : List ColRef) (preds : List Pred) (pred : Pred) → In pred (others_after all seen preds) → In pred preds
others_in all seen [] pred i = absurd i
others_in all seen (p ∷ preds) pred i =
    let class : ColRef = class_of all p.left in
    elim (is_join p) as (λ b. In pred (cond b (others_after all seen preds) (cond (is_given p && is_new all seen p) (others_after all (class ∷ seen) preds) (p ∷ others_after all seen preds))) → In pred (p ∷ preds)) [
      | true ↦ λ i. inr (others_in all seen preds pred i)
      | false ↦ λ i. elim (is_given p && is_new all seen p) as (λ b. In pred (cond b (others_after all (class ∷ seen) preds) (p ∷ others_after all seen preds)) → In pred (p ∷ preds)) [
        | true ↦ λ i. inr (others_in all (class ∷ seen) preds pred i)
        | false ↦ λ i. elim i [ inl e ↦ inl e | inr r ↦ inr (others_in all seen preds pred r) ]
      ] i
    ] i

-- a given equality is no column equality
pub not_given : (pred : Pred) → is_join pred ≡ true → is_given pred ≡ false
not_given pred h = ap (λ b. is_equality pred.op && not b) (and_parts (is_equality pred.op) (is_ref pred.right) h).1 ∙ neither (is_equality pred.op)
  where
    neither : (b : Bool) → (b && false) ≡ false
    neither true = refl
    neither false = refl

-- before what is left of the text no class that was not seen has an operand
abbrev Unseen : List Pred → List ColRef → List Pred → Type 0
Unseen all seen preds = (class : ColRef) → is_joined all class ≡ true → has seen class ≡ false → find (gives all class) all ≡ find (gives all class) preds

pub or_parts : (a b : Bool) → (a || b) ≡ false → (a ≡ false) × (b ≡ false)
or_parts true b h = absurd (false≢true (sym h))
or_parts false b h = (refl, h)

-- one predicate on, where it gives the class nothing
unseen_on : (all : List Pred) (seen seen' : List ColRef) (p : Pred) (preds : List Pred) → Unseen all seen (p ∷ preds) → ((class : ColRef) → is_joined all class ≡ true → has seen' class ≡ false → (has seen class ≡ false) × (gives all class p ≡ false)) → Unseen all seen' preds
unseen_on all seen seen' p preds h step class j s =
    let t = step class j s in
    h class j t.0 ∙ ap (λ b. cond b (Some p) (find (gives all class) preds)) t.1

pub flipped : (a b : ColRef) → same_ref a b ≡ false → same_ref b a ≡ false
flipped a b h = elim (same_ref b a) as (λ t. same_ref b a ≡ t → t ≡ false) [
  | true ↦ λ e. absurd (false≢true (sym h ∙ same_when a b (sym (ref_same b a e))))
  | false ↦ λ _. refl
] refl

-- a class that is joined and not seen is not the class of a predicate that stays
pub gives_none : (all : List Pred) (seen : List ColRef) (p : Pred) (c : ColRef) → is_joined all c ≡ true → has seen c ≡ false → (is_given p && is_new all seen p) ≡ false → gives all c p ≡ false
gives_none all seen p c j s t =
    elim (gives all c p) as (λ b. gives all c p ≡ b → b ≡ false) [
      | true ↦ λ g.
          let parts = and_parts (is_given p) (is_in all c p.left) g in
          let e : class_of all p.left ≡ c = ref_same (class_of all p.left) c parts.1 in
          absurd (false≢true (sym t ∙ and_from (is_given p) (is_new all seen p) parts.0
          (and_from (is_joined all (class_of all p.left)) (not (has seen (class_of all p.left))) (ap (is_joined all) e ∙ j) (ap (λ (x : ColRef). not (has seen x)) e ∙ ap not s))))
      | false ↦ λ _. refl
    ] refl

-- a predicate that is no column equality stays, or it is the first that gives its class an operand
abbrev StaysOrGives : List Pred → List ColRef → List Pred → Pred → Type 0
StaysOrGives all seen preds pred =
    In pred (others_after all seen preds)
    ⊎ ((is_given pred ≡ true) × (is_joined all (class_of all pred.left) ≡ true) × (find (gives all (class_of all pred.left)) all ≡ Some pred))

pub stays_or_gives : (all : List Pred) (seen : List ColRef) (preds : List Pred) → Unseen all seen preds → (pred : Pred) → In pred preds → is_join pred ≡ false → StaysOrGives all seen preds pred
stays_or_gives all seen [] u pred i n = absurd i
stays_or_gives all seen (p ∷ preds) u pred i n =
    let class : ColRef = class_of all p.left in
    let Goal = λ (l : List Pred). In pred l ⊎ ((is_given pred ≡ true) × (is_joined all (class_of all pred.left) ≡ true) × (find (gives all (class_of all pred.left)) all ≡ Some pred)) in
    elim (is_join p) as (λ b. is_join p ≡ b → Goal (cond b (others_after all seen preds) (cond (is_given p && is_new all seen p) (others_after all (class ∷ seen) preds) (p ∷ others_after all seen preds)))) [
      | true ↦ λ join.
          let u' : Unseen all seen preds = unseen_on all seen seen p preds u (λ c j s. (s, ap (λ b. b && is_in all c p.left) (not_given p join))) in
          elim i [
            | inl e ↦ absurd (false≢true (sym n ∙ ap is_join (sym e) ∙ join))
            | inr r ↦ stays_or_gives all seen preds u' pred r n
          ]
      | false ↦ λ _. elim (is_given p && is_new all seen p) as (λ b. (is_given p && is_new all seen p) ≡ b → Goal (cond b (others_after all (class ∷ seen) preds) (p ∷ others_after all seen preds))) [
        | true ↦ λ t.
            let given : is_given p ≡ true = (and_parts (is_given p) (is_new all seen p) t).0 in
            let new = and_parts (is_joined all class) (not (has seen class)) (and_parts (is_given p) (is_new all seen p) t).1 in
            let u' : Unseen all (class ∷ seen) preds = unseen_on all seen (class ∷ seen) p preds u (λ c j s.
            let parts = or_parts (same_ref c class) (has seen c) s in
            (parts.1, (λ k. given k && is_in all c p.left) ∙ flipped c class parts.0)) in
            elim i [
              | inl e ↦ inr (
                ap is_given (sym e) ∙ given,
                ap (λ (q : Pred). is_joined all (class_of all q.left)) (sym e) ∙ new.0,
                ap (λ (q : Pred). find (gives all (class_of all q.left)) all) (sym e)
                    ∙ u class new.0 (not_true (has seen class) new.1)
                    ∙ ap (λ b. cond b (Some p) (find (gives all class) preds)) (and_from (is_given p) (is_in all class p.left) given (same_itself class))
                    ∙ ap (λ (q : Pred). Some q) e,
              )
              | inr r ↦ stays_or_gives all (class ∷ seen) preds u' pred r n
            ]
        | false ↦ λ t.
            let u' : Unseen all seen preds = unseen_on all seen seen p preds u (λ c j s. (s, gives_none all seen p c j s t)) in
            elim i [
              | inl e ↦ inl (inl e)
              | inr r ↦ elim (stays_or_gives all seen preds u' pred r n) [ inl a ↦ inl (inr a) | inr b ↦ inr b ]
            ]
      ] refl
    ] refl

-- ---- each joined class is listed
listed : (all : List Pred) (seen : List ColRef) (preds : List Pred) (pred : Pred) → In pred preds → is_equality pred.op ≡ true → is_joined all (class_of all pred.left) ≡ true → (has seen (class_of all pred.left) ≡ true) ⊎ In (class_of all pred.left) (classes_after all seen preds)
listed all seen [] pred i q j = absurd i
listed all seen (p ∷ preds) pred i q j =
    let class : ColRef = class_of all p.left in
    let mine : ColRef = class_of all pred.left in
    elim (is_equality p.op && is_new all seen p) as (λ b. (is_equality p.op && is_new all seen p) ≡ b → (has seen mine ≡ true) ⊎ In mine (cond b (class ∷ classes_after all (class ∷ seen) preds) (classes_after all seen preds))) [
      | true ↦ λ _. elim i [
        | inl e ↦ inr (inl (ap (λ (x : Pred). class_of all x.left) e))
        | inr r ↦ elim (listed all (class ∷ seen) preds pred r q j) [
          | inl s ↦ elim (or_cases (same_ref mine class) (has seen mine) s) [ inl e ↦ inr (inl (sym (ref_same mine class e))) | inr h ↦ inl h ]
          | inr here ↦ inr (inr here)
        ]
      ]
      | false ↦ λ t. elim i [
        | inl e ↦ inl (was_seen e t)
        | inr r ↦ listed all seen preds pred r q j
      ]
    ] refl
  where
    was_seen : p ≡ pred → (is_equality p.op && is_new all seen p) ≡ false → has seen (class_of all pred.left) ≡ true
    was_seen e t =
        elim (has seen (class_of all pred.left)) as (λ b. has seen (class_of all pred.left) ≡ b → b ≡ true) [
          | true ↦ λ _. refl
          | false ↦ λ s. absurd (false≢true (sym t ∙ ap (λ (x : Pred). is_equality x.op && is_new all seen x) e
              ∙ and_from (is_equality pred.op) (is_new all seen pred) q (and_from (is_joined all (class_of all pred.left)) (not (has seen (class_of all pred.left))) j (ap not s))))
        ] refl

pub joined_has : (preds : List Pred) (pred : Pred) → In pred preds → is_join pred ≡ true → is_joined preds (class_of preds pred.left) ≡ true
joined_has preds pred i h = any_from (λ p. is_join p && is_in preds (class_of preds pred.left) p.left) preds pred i (and_from (is_join pred) (is_in preds (class_of preds pred.left) pred.left) h (same_itself (class_of preds pred.left)))

pub class_there : (preds : List Pred) (pred : Pred) → In pred preds → is_equality pred.op ≡ true → is_joined preds (class_of preds pred.left) ≡ true → In (class_of preds pred.left) (classes preds)
class_there preds pred i q j = elim (listed preds [] preds pred i q j) [ inl s ↦ absurd (false≢true s) | inr here ↦ here ]

module _ (params : List Value) (combo : List (List Value)) where
  -- ---- a class with no operand
  not_itself : (f : ColRef) → is_later f f ≡ false
  not_itself f = le-ltb f.rel f.rel (omega arith)

  apart_refs : (f a b : ColRef) → is_later f a ≡ true → is_later f b ≡ false → a ≡ b → ⊥
  apart_refs f a b h g e = false≢true (sym g ∙ sym (ap (is_later f) e) ∙ h)

  near_equal : (a b : ColRef) → (a ≡ b → ⊥) → Near params combo a b → Equal (cell combo a) (cell combo b)
  near_equal a b apart (inl e) = absurd (apart e)
  near_equal a b apart (inr h) = h

  -- what one predicate of a class says
  equals_holds : (right : Operand) (left : ColRef) (pred : Pred) → equality_of right left ≡ pred → Equal (cell combo left) (side params combo right) → holds params combo pred ≡ true
  equals_holds right left pred e h = ap (holds params combo) (sym e) ∙ h

  in_beside : (later : List ColRef) (q : ColRef) (pred : Pred) → In pred (beside later q) → (s : ColRef) × In s later × (equality_of (operand.Col q) s ≡ pred)
  in_beside [] q pred i = absurd i
  in_beside (s ∷ more) q pred (inl e) = (s, inl refl, e)
  in_beside (s ∷ more) q pred (inr i) = absurd i

  -- where all members are equal
  joins_hold : (refs : List ColRef) → ((a b : ColRef) → In a refs → In b refs → Near params combo a b) → (pred : Pred) → In pred (class_joins refs) → holds params combo pred ≡ true
  joins_hold [] near pred i = absurd i
  joins_hold (f ∷ rest) near pred i =
      let later : List ColRef = filter (is_later f) rest in
      let others : List ColRef = filter (λ ref. not (is_later f ref)) rest in
      elim (in_either pred (map (equality_of (operand.Col f)) later) (flat_map (beside later) others) i) [
        | inl a ↦
            let x = in_map (equality_of (operand.Col f)) pred later a in
            let y = in_filter (is_later f) x.0 rest x.1 in
            equals_holds (operand.Col f) x.0 pred x.2 (near_equal x.0 f (apart_refs f x.0 f y.1 (not_itself f)) (near x.0 f (inr y.0) (inl refl)))
        | inr b ↦
            let x = in_flat_map (beside later) pred others b in
            let q = in_filter (λ ref. not (is_later f ref)) x.0 rest x.1 in
            let s = in_beside later x.0 pred x.2 in
            let t = in_filter (is_later f) s.0 rest s.1 in
            equals_holds (operand.Col x.0) s.0 pred s.2 (near_equal s.0 x.0 (apart_refs f s.0 x.0 t.1 (not_true (is_later f x.0) q.1)) (near s.0 x.0 (inr t.0) (inr q.0)))
      ]

  -- and the other way: members of two relations are equal
  joins_give : (refs : List ColRef) → ((f : ColRef) (rest : List ColRef) → refs ≡ f ∷ rest → (y : ColRef) → In y rest → f.rel ≤ y.rel) → ((pred : Pred) → In pred (class_joins refs) → holds params combo pred ≡ true) → (a b : ColRef) → In a refs → In b refs → b.rel < a.rel → Equal (cell combo a) (cell combo b)
  joins_give [] low hold a b i j apart = absurd i
  joins_give (f ∷ rest) low hold a b i j apart =
      let later : List ColRef = filter (is_later f) rest in
      let others : List ColRef = filter (λ ref. not (is_later f ref)) rest in
      let floor : f.rel ≤ b.rel = elim j [ inl e ↦ (let r : f.rel ≡ b.rel = ap (λ (x : ColRef). x.rel) e in omega (arith, r)) | inr r ↦ low f rest refl b r ] in
      let above : f.rel < a.rel = omega (arith, floor, apart) in
      let there : In a later = filter_in (is_later f) a rest (elim i [ inl e ↦ absurd (let r : f.rel ≡ a.rel = ap (λ (x : ColRef). x.rel) e in omega (arith, r, above)) | inr r ↦ r ]) (lt-ltb f.rel a.rel above) in
      by_first later others there
      (λ x h. elim h [
        | inl e ↦ inl e
        | inr r ↦ elim (is_later f x) as (λ t. is_later f x ≡ t → (f ≡ x) ⊎ (In x later ⊎ In x others)) [
          | true ↦ λ t. inr (inl (filter_in (is_later f) x rest r t))
          | false ↦ λ t. inr (inr (filter_in (λ ref. not (is_later f ref)) x rest r (ap not t)))
        ] refl
      ])
      (λ x h. hold (equality_of (operand.Col f) x) (in_left (equality_of (operand.Col f) x) (map (equality_of (operand.Col f)) later) (flat_map (beside later) others) (map_in (equality_of (operand.Col f)) x later h)))
      (λ x h pred g. hold pred (in_right pred (map (equality_of (operand.Col f)) later) (flat_map (beside later) others) (flat_map_in (beside later) pred x others h g)))
    where
      by_first : (later others : List ColRef) → In a later → ((x : ColRef) → In x (f ∷ rest) → (f ≡ x) ⊎ (In x later ⊎ In x others)) → ((x : ColRef) → In x later → Equal (cell combo x) (cell combo f)) → ((x : ColRef) → In x others → (pred : Pred) → In pred (beside later x) → holds params combo pred ≡ true) → Equal (cell combo a) (cell combo b)
      by_first [] others there split ones more = absurd there
      by_first (s ∷ later) others there split ones more =
          let each : (x : ColRef) → In x (f ∷ rest) → Equal (cell combo x) (cell combo s) = λ x h. elim (split x h) [
            | inl e ↦ subst (λ (y : ColRef). Equal (cell combo y) (cell combo s)) e (equal_back (cell combo s) (cell combo f) (ones s (inl refl)))
            | inr (inl g) ↦ equal_on (cell combo x) (cell combo f) (cell combo s) (ones x g) (equal_back (cell combo s) (cell combo f) (ones s (inl refl)))
            | inr (inr g) ↦ equal_back (cell combo s) (cell combo x) (more x g (equality_of (operand.Col x) s) (inl refl))
          ] in
          equal_on (cell combo a) (cell combo s) (cell combo b) (each a i) (equal_back (cell combo b) (cell combo s) (each b j))

  module _ (tables : List Table) (query : Query) (resolved : (pred : Pred) → In pred query.preds → IsPredicate tables query pred) where
    abbrev old : List Pred
    old = query.preds

    abbrev new : List Pred
    new = flat_map (class_preds tables query) (classes old) ++ others old

    abbrev with_operand : ColRef → Option Pred → List Pred
    with_operand class given = option_map_or (λ pred. map (equality_of pred.right) (members tables query class)) given (class_joins (members tables query class))

    given_is : (pred : Pred) → is_given pred ≡ true → pred.op ≡ op.Eq
    given_is pred h = equality pred.op (and_parts (is_equality pred.op) (not (is_ref pred.right)) h).0

    -- an equality with what it is compared with
    given_holds : (pred : Pred) → pred.op ≡ op.Eq → holds params combo pred ≡ compares op.Eq (cell combo pred.left) (side params combo pred.right)
    given_holds pred e = ap (λ (o : Op). compares o (cell combo pred.left) (side params combo pred.right)) e

    -- ---- where the old predicates hold the new ones do
    new_holds : ((pred : Pred) → In pred old → holds params combo pred ≡ true) → (pred : Pred) → In pred new → holds params combo pred ≡ true
    new_holds h pred i = elim (in_either pred (flat_map (class_preds tables query) (classes old)) (others old) i) [
      | inr b ↦ h pred (others_in old [] old pred b)
      | inl a ↦ let c = in_flat_map (class_preds tables query) pred (classes old) a in of_class c.0 (find (gives old c.0) old) refl c.2
    ]
      where
        near : (a b : ColRef) → class_of old a ≡ class_of old b → Near params combo a b
        near a b e = class_equal params combo old h a b e

        of_class : (class : ColRef) (given : Option Pred) → find (gives old class) old ≡ given → In pred (with_operand class given) → holds params combo pred ≡ true
        of_class class None e i = joins_hold (members tables query class) (λ a b j k. near a b (in_members tables query class a j ∙ sym (in_members tables query class b k))) pred i
        of_class class (Some p) e i =
            let f = find_parts (gives old class) old p e in
            let parts = and_parts (is_given p) (is_in old class p.left) f.1 in
            let x = in_map (equality_of p.right) pred (members tables query class) i in
            let holds_p : Equal (cell combo p.left) (side params combo p.right) = sym (given_holds p (given_is p parts.0)) ∙ h p f.0 in
            let both : Near params combo x.0 p.left = near x.0 p.left (in_members tables query class x.0 x.1 ∙ sym (ref_same (class_of old p.left) class parts.1)) in
            equals_holds p.right x.0 pred x.2 (elim both [
              | inl same ↦ subst (λ (y : ColRef). Equal (cell combo y) (side params combo p.right)) (sym same) holds_p
              | inr equal ↦ equal_on (cell combo x.0) (cell combo p.left) (side params combo p.right) equal holds_p
            ])

    -- ---- where the new predicates hold the old ones do
    old_holds : ((pred : Pred) → In pred new → holds params combo pred ≡ true) → (pred : Pred) → In pred old → holds params combo pred ≡ true
    old_holds h pred i =
        elim (is_join pred) as (λ b. is_join pred ≡ b → holds params combo pred ≡ true) [
          | true ↦ λ join.
              let j = join_parts pred join in
              let c : ColRef = class_of old pred.left in
              let here : In c (classes old) = class_there old pred i (ap is_equality j.2) (joined_has old pred i join) in
              let equal : Equal (cell combo pred.left) (cell combo j.0) = joined j.0 j.1 j.2 (other_column j.0 j.1) (find (gives old c) old) refl (λ p g. of_classes c here p g) in
              (λ k. compares (j.2 k) (cell combo pred.left) (side params combo (j.1 k))) ∙ equal
          | false ↦ λ n. elim (stays_or_gives old [] old (λ c _ _. refl) pred i n) [
            | inl stays ↦ h pred (in_right pred (flat_map (class_preds tables query) (classes old)) (others old) stays)
            | inr given ↦
                let c : ColRef = class_of old pred.left in
                let e : pred.op ≡ op.Eq = given_is pred given.0 in
                let here : In c (classes old) = class_there old pred i (ap is_equality e) given.1 in
                given_holds pred e
                ∙ of_classes c here (equality_of pred.right pred.left)
                (subst (λ (o : Option Pred). In (equality_of pred.right pred.left) (with_operand c o)) (sym given.2)
                (map_in (equality_of pred.right) pred.left (members tables query c) (member_in tables query c pred.left (resolved pred i).left refl)))
          ]
        ] refl
      where
        of_classes : (c : ColRef) → In c (classes old) → (p : Pred) → In p (class_preds tables query c) → holds params combo p ≡ true
        of_classes c here p g = h p (in_left p (flat_map (class_preds tables query) (classes old)) (others old) (flat_map_in (class_preds tables query) p c (classes old) here g))

        joined_operand : (right : Operand) (other : ColRef) → right ≡ operand.Col other → IsOperand tables query pred right → IsColumnOf tables query other × (other.rel < pred.left.rel)
        joined_operand right other e o = let j = subst (IsOperand tables query pred) e o in (j.column, j.earlier)

        other_column : (other : ColRef) → pred.right ≡ operand.Col other → IsColumnOf tables query other × (other.rel < pred.left.rel)
        other_column other e = joined_operand pred.right other e (resolved pred i).right

        joined : (other : ColRef) → pred.right ≡ operand.Col other → pred.op ≡ op.Eq → IsColumnOf tables query other × (other.rel < pred.left.rel) → (given : Option Pred) → find (gives old (class_of old pred.left)) old ≡ given → ((p : Pred) → In p (class_preds tables query (class_of old pred.left)) → holds params combo p ≡ true) → Equal (cell combo pred.left) (cell combo other)
        joined other is e column given f hold =
            let c : ColRef = class_of old pred.left in
            let left : In pred.left (members tables query c) = member_in tables query c pred.left (resolved pred i).left refl in
            let right : In other (members tables query c) = member_in tables query c other column.0 (sym (one_class old pred other i is e)) in
            by_given c left right given (λ p g. hold p (subst (λ (o : Option Pred). In p (with_operand c o)) (sym f) g))
          where
            by_given : (c : ColRef) → In pred.left (members tables query c) → In other (members tables query c) → (given : Option Pred) → ((p : Pred) → In p (with_operand c given) → holds params combo p ≡ true) → Equal (cell combo pred.left) (cell combo other)
            by_given c left right None hold = joins_give (members tables query c) (λ f rest e y here. (subst (Rises tables query) e (members_rise tables query c)).0 y here) hold pred.left other left right column.1
            by_given c left right (Some p) hold =
                equal_on (cell combo pred.left) (side params combo p.right) (cell combo other)
                (hold (equality_of p.right pred.left) (map_in (equality_of p.right) pred.left (members tables query c) left))
                (equal_back (cell combo other) (side params combo p.right) (hold (equality_of p.right other) (map_in (equality_of p.right) other (members tables query c) right)))

    pub closed_same : list_all (holds params combo) (closed_query tables query).preds ≡ list_all (holds params combo) query.preds
    closed_same =
        both_ways (list_all (holds params combo) new) (list_all (holds params combo) old)
        (λ h. all_from (holds params combo) old (old_holds (all_at (holds params combo) new h)))
        (λ h. all_from (holds params combo) new (new_holds (all_at (holds params combo) old h)))

-- the combinations are the same, in the same order
pub same_when_closed : SameWhenClosed
same_when_closed q r =
    filter_same (λ combo. list_all (holds q.params combo) (closed_query q.tables q.query).preds) (λ combo. list_all (holds q.params combo) q.query.preds) (product q (length q.query.relations))
    (each_by_in _ (product q (length q.query.relations)) (λ combo _. closed_same q.params combo q.tables q.query (λ pred i. all_member (IsPredicate q.tables q.query) q.query.preds r.preds pred i)))

-- ---- chains
chain_on : (preds : List Pred) (a b c : ColRef) → Chain preds a b → Chain preds b c → Chain preds a c
chain_on preds _ _ c (ends a) g = g
chain_on preds _ _ c (rightward pred other end i is e h) g = rightward pred other c i is e (chain_on preds other end c h g)
chain_on preds _ _ c (leftward pred other end i is e h) g = leftward pred other c i is e (chain_on preds pred.left end c h g)

chain_back : (preds : List Pred) (a b : ColRef) → Chain preds a b → Chain preds b a
chain_back preds _ _ (ends a) = ends a
chain_back preds _ _ (rightward pred other end i is e h) = chain_on preds end other pred.left (chain_back preds other end h) (leftward pred other pred.left i is e (ends pred.left))
chain_back preds _ _ (leftward pred other end i is e h) = chain_on preds end pred.left other (chain_back preds pred.left end h) (rightward pred other other i is e (ends other))

chain_class : (preds : List Pred) (a b : ColRef) → Chain preds a b → class_of preds a ≡ class_of preds b
chain_class preds _ _ (ends a) = refl
chain_class preds _ _ (rightward pred other end i is e h) = one_class preds pred other i is e ∙ chain_class preds other end h
chain_class preds _ _ (leftward pred other end i is e h) = sym (one_class preds pred other i is e) ∙ chain_class preds pred.left end h

pub classes_are_chains : ClassesAreChains
classes_are_chains preds a b = (
  within_class (Chain preds) (record { itself = λ a. ends a; back = chain_back preds; on = chain_on preds }) preds (λ pred i other is e. rightward pred other other i is e (ends other)) a b,
  chain_class preds a b,
)
