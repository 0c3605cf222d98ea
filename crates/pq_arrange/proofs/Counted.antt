-- A query with its equalities closed has no more predicates: class by class.
use Rattle.std.proofs.Common.{◌≡◌, ℕ, suc, ◌+◌, ◌≤◌, Bool, true, false, cond, not, ◌&&◌, ◌||◌, inl, inr, List, [], ◌∷◌, ◌++◌, length, map, filter, flat_map, Option, Some, None, length-append, refl, sym, ap, ◌∙◌, arith}
use Rattle.std.specs.List.{range_with_len, find}
use Rattle.std.specs.Option.{option_map_or}
use Rattle.std.proofs.lemmas.Bool.{false≢true, and_parts}
use Rattle.std.proofs.lemmas.List.{length-map}
use Rattle.pq_base.specs.Members.{In}
use Rattle.pq_schema.specs.declared.table.Table.{Table}
use Rattle.pq_schema.specs.declared.query.ColRef.{ColRef}
use Rattle.pq_schema.specs.declared.query.Operand.TheVariants as operand
use Rattle.pq_schema.specs.declared.query.Pred.{Pred}
use Rattle.pq_schema.specs.declared.query.Query.{Query}
use Rattle.pq_schema.specs.Relations.{is_equality}
use Rattle.pq_schema.specs.Resolved.{same_ref}
use Rattle.pq_arrange.specs.Classes.{is_join, is_given, class_of, is_in, is_joined, has, is_new, classes_after, classes, column_refs_at, members, gives, equality_of, is_later, beside, class_joins, class_preds, others_after, others, closed_query}
use Rattle.pq_arrange.proofs.Chains.{ref_same, same_itself}
use Rattle.pq_arrange.proofs.Closes.{not_true, not_given, or_parts, gives_none, flipped}
use Rattle.pq_arrange.proofs.Fewer.{bit, total, count, total_add, total_le, length_filter, one_hit, Distinct, length_flat, all_distinct, joins_of, few_members}

-- ---- the classes differ, and each is joined
classes_are : (all : List Pred) (seen : List ColRef) (preds : List Pred) (c : ColRef) → In c (classes_after all seen preds) → (is_joined all c ≡ true) × (has seen c ≡ false)
classes_are all seen [] c i = absurd i
classes_are all seen (p ∷ preds) c i =
    let class : ColRef = class_of all p.left in
    elim (is_equality p.op && is_new all seen p) as (λ b. (is_equality p.op && is_new all seen p) ≡ b → In c (cond b (class ∷ classes_after all (class ∷ seen) preds) (classes_after all seen preds)) → (is_joined all c ≡ true) × (has seen c ≡ false)) [
      | true ↦ λ t i.
          let new = and_parts (is_joined all class) (not (has seen class)) (and_parts (is_equality p.op) (is_new all seen p) t).1 in
          elim i [
            | inl e ↦ (ap (is_joined all) (sym e) ∙ new.0, ap (has seen) (sym e) ∙ not_true (has seen class) new.1)
            | inr r ↦ let h = classes_are all (class ∷ seen) preds c r in (h.0, (or_parts (same_ref c class) (has seen c) h.1).1)
          ]
      | false ↦ λ _ i. classes_are all seen preds c i
    ] refl i

classes_distinct : (all : List Pred) (seen : List ColRef) (preds : List Pred) → Distinct (classes_after all seen preds)
classes_distinct all seen [] = tt
classes_distinct all seen (p ∷ preds) =
    let class : ColRef = class_of all p.left in
    elim (is_equality p.op && is_new all seen p) as (λ b. Distinct (cond b (class ∷ classes_after all (class ∷ seen) preds) (classes_after all seen preds))) [
      | true ↦ (
        (λ i. let h = classes_are all (class ∷ seen) preds class i in absurd (false≢true (sym (or_parts (same_ref class class) (has seen class) h.1).0 ∙ same_itself class))),
        classes_distinct all (class ∷ seen) preds,
      )
      | false ↦ classes_distinct all seen preds
    ]

only_class : (x a b : ColRef) → same_ref x a ≡ true → same_ref x b ≡ true → a ≡ b
only_class x a b e f = sym (ref_same x a e) ∙ ref_same x b f

zero_total : {X : Type 0} (xs : List X) → total (λ x. 0) xs ≡ 0
zero_total [] = refl
zero_total (x ∷ xs) = let h : total (λ x. 0) xs ≡ 0 = zero_total xs in omega (arith, h)

-- ---- each column equality is of one class
joins_once : (all : List Pred) (cs : List ColRef) → Distinct cs → (preds : List Pred) → total (λ c. joins_of all c preds) cs ≤ count is_join preds
joins_once all cs d [] = let h : total (λ (c : ColRef). 0) cs ≡ 0 = zero_total cs in omega (arith, h)
joins_once all cs d (p ∷ preds) =
    let rest : total (λ c. joins_of all c preds) cs ≤ count is_join preds = joins_once all cs d preds in
    let sum : total (λ c. joins_of all c (p ∷ preds)) cs ≡ total (λ c. cond (is_join p && is_in all c p.left) 1 0) cs + total (λ c. joins_of all c preds) cs = total_add (λ (c : ColRef). cond (is_join p && is_in all c p.left) 1 0) (λ c. joins_of all c preds) cs in
    let here : total (λ c. cond (is_join p && is_in all c p.left) 1 0) cs ≤ cond (is_join p) 1 0 = one (is_join p) in
    omega (arith, rest, sum, here)
  where
    one : (j : Bool) → total (λ c. cond (j && is_in all c p.left) 1 0) cs ≤ cond j 1 0
    one true = one_hit (λ c. is_in all c p.left) (λ a b. only_class (class_of all p.left) a b) cs d
    one false = let h : total (λ (c : ColRef). 0) cs ≡ 0 = zero_total cs in omega (arith, h)

-- ---- each class takes at most one of the others away
some : Option Pred → ℕ
some None = 0
some (Some p) = 1

unfoldable weight : List Pred → List ColRef → List Pred → ColRef → ℕ
weight all seen preds c = cond (has seen c) 0 (some (find (gives all c) preds))

-- a predicate that gives the class nothing
weight_on : (all : List Pred) (seen : List ColRef) (p : Pred) (preds : List Pred) (c : ColRef) → (has seen c ≡ false → gives all c p ≡ false) → weight all seen (p ∷ preds) c ≡ weight all seen preds c
unfolding weight
weight_on all seen p preds c h = elim (has seen c) as (λ b. has seen c ≡ b → cond b 0 (some (cond (gives all c p) (Some p) (find (gives all c) preds))) ≡ cond b 0 (some (find (gives all c) preds))) [
  | true ↦ λ _. refl
  | false ↦ λ e. ap (λ b. some (cond b (Some p) (find (gives all c) preds))) (h e)
] refl

weight_first : (all : List Pred) (seen : List ColRef) (p : Pred) (preds : List Pred) (c : ColRef) → weight all seen (p ∷ preds) c ≤ bit (same_ref (class_of all p.left) c) + weight all (class_of all p.left ∷ seen) preds c
unfolding weight some
weight_first all seen p preds c =
    let class : ColRef = class_of all p.left in
    elim (same_ref class c) as (λ s. same_ref class c ≡ s → weight all seen (p ∷ preds) c ≤ bit s + weight all (class ∷ seen) preds c) [
      | true ↦ λ e. let h : weight all seen (p ∷ preds) c ≤ 1 = most (has seen c) (find (gives all c) (p ∷ preds)) in omega (arith, h)
      | false ↦ λ e.
          let same : weight all seen (p ∷ preds) c ≡ weight all seen preds c = weight_on all seen p preds c (λ _. ap (λ b. is_given p && b) e ∙ neither (is_given p)) in
          let more : weight all (class ∷ seen) preds c ≡ weight all seen preds c = ap (λ b. cond (b || has seen c) 0 (some (find (gives all c) preds))) (flipped class c e) in
          omega (arith, same, more)
    ] refl
  where
    most : (b : Bool) (o : Option Pred) → cond b 0 (some o) ≤ 1
    most true o = omega arith
    most false None = omega arith
    most false (Some p) = omega arith

    neither : (b : Bool) → (b && false) ≡ false
    neither true = refl
    neither false = refl

weightless : (all : List Pred) (seen : List ColRef) (cs : List ColRef) → total (weight all seen []) cs ≡ 0
unfolding weight some
weightless all seen [] = refl
weightless all seen (c ∷ cs) = let h : total (weight all seen []) cs ≡ 0 = weightless all seen cs in let z : ◌≡◌ {A = ℕ} (cond (has seen c) 0 0) 0 = both (has seen c) in omega (arith, h, z)
  where
    both : (b : Bool) → ◌≡◌ {A = ℕ} (cond b 0 0) 0
    both true = refl
    both false = refl

others_few : (all : List Pred) (cs : List ColRef) → Distinct cs → ((c : ColRef) → In c cs → is_joined all c ≡ true) → (seen : List ColRef) (preds : List Pred) → length (others_after all seen preds) + total (weight all seen preds) cs ≤ count (λ p. not (is_join p)) preds
others_few all cs d j seen [] = let h : total (weight all seen []) cs ≡ 0 = weightless all seen cs in omega (arith, h)
others_few all cs d j seen (p ∷ preds) =
    let class : ColRef = class_of all p.left in
    elim (is_join p) as (λ b. is_join p ≡ b → length (cond b (others_after all seen preds) (cond (is_given p && is_new all seen p) (others_after all (class ∷ seen) preds) (p ∷ others_after all seen preds))) + total (weight all seen (p ∷ preds)) cs ≤ cond (not b) 1 0 + count (λ p. not (is_join p)) preds) [
      | true ↦ λ join.
          let rest : length (others_after all seen preds) + total (weight all seen preds) cs ≤ count (λ p. not (is_join p)) preds = others_few all cs d j seen preds in
          let less : total (weight all seen (p ∷ preds)) cs ≤ total (weight all seen preds) cs = total_le (weight all seen (p ∷ preds)) (weight all seen preds) cs (λ c _. let e : weight all seen (p ∷ preds) c ≡ weight all seen preds c = weight_on all seen p preds c (λ _. ap (λ b. b && is_in all c p.left) (not_given p join)) in omega (arith, e)) in
          omega (arith, rest, less)
      | false ↦ λ _. elim (is_given p && is_new all seen p) as (λ b. (is_given p && is_new all seen p) ≡ b → length (cond b (others_after all (class ∷ seen) preds) (p ∷ others_after all seen preds)) + total (weight all seen (p ∷ preds)) cs ≤ 1 + count (λ p. not (is_join p)) preds) [
        | true ↦ λ t.
            let rest : length (others_after all (class ∷ seen) preds) + total (weight all (class ∷ seen) preds) cs ≤ count (λ p. not (is_join p)) preds = others_few all cs d j (class ∷ seen) preds in
            let less : total (weight all seen (p ∷ preds)) cs ≤ total (λ c. bit (same_ref class c) + weight all (class ∷ seen) preds c) cs = total_le (weight all seen (p ∷ preds)) (λ c. bit (same_ref class c) + weight all (class ∷ seen) preds c) cs (λ c _. weight_first all seen p preds c) in
            let sum : total (λ c. bit (same_ref class c) + weight all (class ∷ seen) preds c) cs ≡ total (λ c. bit (same_ref class c)) cs + total (weight all (class ∷ seen) preds) cs = total_add (λ c. bit (same_ref class c)) (weight all (class ∷ seen) preds) cs in
            let one : total (λ c. bit (same_ref class c)) cs ≤ 1 = one_hit (same_ref class) (λ a b. only_class class a b) cs d in
            omega (arith, rest, less, sum, one)
        | false ↦ λ t.
            let rest : length (others_after all seen preds) + total (weight all seen preds) cs ≤ count (λ p. not (is_join p)) preds = others_few all cs d j seen preds in
            let less : total (weight all seen (p ∷ preds)) cs ≤ total (weight all seen preds) cs = total_le (weight all seen (p ∷ preds)) (weight all seen preds) cs (λ c i. let e : weight all seen (p ∷ preds) c ≡ weight all seen preds c = weight_on all seen p preds c (λ s. gives_none all seen p c (j c i) s t) in omega (arith, e)) in
            omega (arith, rest, less)
      ] refl
    ] refl

-- ---- the predicates of one class
beside_one : (later : List ColRef) (q : ColRef) → length (beside later q) ≤ 1
beside_one [] q = omega arith
beside_one (s ∷ more) q = omega arith

split_count : (t : ColRef → Bool) (xs : List ColRef) → length (filter t xs) + length (filter (λ x. not (t x)) xs) ≡ length xs
split_count t [] = refl
split_count t (x ∷ xs) =
    let h : length (filter t xs) + length (filter (λ x. not (t x)) xs) ≡ length xs = split_count t xs in
    elim (t x) as (λ b. length (cond b (x ∷ filter t xs) (filter t xs)) + length (cond (not b) (x ∷ filter (λ x. not (t x)) xs) (filter (λ x. not (t x)) xs)) ≡ suc (length xs)) [
      | true ↦ omega (arith, h)
      | false ↦ omega (arith, h)
    ]

most_one : (f : ColRef → List Pred) (xs : List ColRef) → ((x : ColRef) → length (f x) ≤ 1) → length (flat_map f xs) ≤ length xs
most_one f [] h = omega arith
most_one f (x ∷ xs) h =
    let a : length (f x) ≤ 1 = h x in
    let b : length (flat_map f xs) ≤ length xs = most_one f xs h in
    let c : length (f x ++ flat_map f xs) ≡ length (f x) + length (flat_map f xs) = length-append (f x) (flat_map f xs) in
    omega (arith, a, b, c)

joins_few : (refs : List ColRef) (n : ℕ) → length refs ≤ 1 + n → length (class_joins refs) ≤ n
joins_few [] n h = omega arith
joins_few (f ∷ rest) n h =
    let later : List ColRef = filter (is_later f) rest in
    let beyond : List ColRef = filter (λ ref. not (is_later f ref)) rest in
    let a : length (map (equality_of (operand.Col f)) later) ≡ length later = length-map later (equality_of (operand.Col f)) in
    let b : length (flat_map (beside later) beyond) ≤ length beyond = most_one (beside later) beyond (beside_one later) in
    let c : length later + length beyond ≡ length rest = split_count (is_later f) rest in
    let e : length (map (equality_of (operand.Col f)) later ++ flat_map (beside later) beyond) ≡ length (map (equality_of (operand.Col f)) later) + length (flat_map (beside later) beyond) = length-append (map (equality_of (operand.Col f)) later) (flat_map (beside later) beyond) in
    omega (arith, a, b, c, e, h)

module _ (tables : List Table) (query : Query) where
  abbrev all : List Pred
  all = query.preds

  class_few : (class : ColRef) → length (class_preds tables query class) ≤ joins_of all class all + weight all [] all class
  unfolding weight some
  class_few class = by_given (find (gives all class) all)
    where
      refs : List ColRef
      refs = flat_map (column_refs_at tables query) (range_with_len 1 (length query.relations))

      few : length (members tables query class) ≤ 1 + joins_of all class all
      few =
          let a : length (members tables query class) ≡ count (is_in all class) (flat_map (column_refs_at tables query) (range_with_len 1 (length query.relations))) = length_filter (is_in all class) (flat_map (column_refs_at tables query) (range_with_len 1 (length query.relations))) in
          let b = few_members (flat_map (column_refs_at tables query) (range_with_len 1 (length query.relations))) (all_distinct tables query 1 (length query.relations)) all class in
          omega (arith, a, b)

      by_given : (o : Option Pred) → length (option_map_or (λ pred. map (equality_of pred.right) (members tables query class)) o (class_joins (members tables query class))) ≤ joins_of all class all + some o
      by_given None = let h : length (class_joins (members tables query class)) ≤ joins_of all class all = joins_few (members tables query class) (joins_of all class all) few in omega (arith, h)
      by_given (Some p) =
          let a : length (map (equality_of p.right) (members tables query class)) ≡ length (members tables query class) = length-map (members tables query class) (equality_of p.right) in
          let b : length (members tables query class) ≤ 1 + joins_of all class all = few in
          omega (arith, a, b)

  all_counted : (preds : List Pred) → count is_join preds + count (λ p. not (is_join p)) preds ≡ length preds
  all_counted [] = refl
  all_counted (p ∷ preds) =
      let h : count is_join preds + count (λ p. not (is_join p)) preds ≡ length preds = all_counted preds in
      elim (is_join p) as (λ b. (cond b 1 0 + count is_join preds) + (cond (not b) 1 0 + count (λ p. not (is_join p)) preds) ≡ suc (length preds)) [
        | true ↦ omega (arith, h)
        | false ↦ omega (arith, h)
      ]

  pub no_more : length (closed_query tables query).preds ≤ length query.preds
  no_more =
      let cs : List ColRef = classes all in
      let d : Distinct cs = classes_distinct all [] all in
      let one : length (flat_map (class_preds tables query) cs ++ others all) ≡ length (flat_map (class_preds tables query) cs) + length (others all) = length-append (flat_map (class_preds tables query) cs) (others all) in
      let two : length (flat_map (class_preds tables query) cs) ≡ total (λ c. length (class_preds tables query c)) cs = length_flat (class_preds tables query) cs in
      let three : total (λ c. length (class_preds tables query c)) cs ≤ total (λ c. joins_of all c all + weight all [] all c) cs = total_le (λ c. length (class_preds tables query c)) (λ c. joins_of all c all + weight all [] all c) cs (λ c _. class_few c) in
      let four : total (λ c. joins_of all c all + weight all [] all c) cs ≡ total (λ c. joins_of all c all) cs + total (weight all [] all) cs = total_add (λ c. joins_of all c all) (weight all [] all) cs in
      let five : total (λ c. joins_of all c all) cs ≤ count is_join all = joins_once all cs d all in
      let six : length (others all) + total (weight all [] all) cs ≤ count (λ p. not (is_join p)) all = others_few all cs d (λ c i. (classes_are all [] all c i).0) [] all in
      let seven : count is_join all + count (λ p. not (is_join p)) all ≡ length all = all_counted all in
      omega (arith, one, two, three, four, five, six, seven)
