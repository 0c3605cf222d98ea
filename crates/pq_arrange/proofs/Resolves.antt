-- A resolved query is resolved in any order of its relations.
use Rattle.std.proofs.Common.{◌≡◌, ℕ, zero, suc, ◌+◌, ◌-◌, ◌<◌, ◌≤◌, Bool, true, false, cond, ◌&&◌, ◌==◌, nat_lt, inl, inr, List, [], ◌∷◌, length, get_or, map, IsPermutation, refl, sym, ap, ◌∙◌, subst, arith}
use Rattle.std.specs.List.{range_with_len, IsDistinct, AllByRecursion}
use Rattle.std.specs.Str.{bytes_eq}
use Rattle.std.specs.Cmp.{eq_by_cmp_equiv}
use Rattle.std.specs.Cmp.Lexicographic.{nat_list_cmp_total}
use Rattle.std.proofs.lemmas.Bool.{cases_eq, cases_order, false≢true, ne_eqb, eq-eqb, lt-ltb, le-ltb}
use Rattle.std.proofs.lemmas.List.{length-map, get_or-map}
use Rattle.std.proofs.lemmas.List.Elements.{All-map, All-weaker}
use Rattle.std.proofs.lemmas.List.FromFn.{length-range_with_len}
use Rattle.std.proofs.lemmas.List.Sorted.{length_permutation, IsPermutation-map, All-permutation}
use Rattle.std.proofs.lemmas.Map.Keys.{IsDistinct-IsPermutation}
use Rattle.std.proofs.lemmas.Map.Text.{is_eq-slice_cmp}
use Rattle.pq_base.specs.declared.value.ColType.{ColType}
use Rattle.pq_base.specs.Members.{In}
use Rattle.pq_schema.specs.declared.table.Table.{Table}
use Rattle.pq_schema.specs.declared.query.ColRef.{ColRef}
use Rattle.pq_schema.specs.declared.query.Operand.{Operand}
use Rattle.pq_schema.specs.declared.query.Operand.TheVariants as operand
use Rattle.pq_schema.specs.declared.query.Pred.{Pred}
use Rattle.pq_schema.specs.declared.query.OrderItem.{OrderItem}
use Rattle.pq_schema.specs.declared.query.Relation.{Relation}
use Rattle.pq_schema.specs.declared.query.Query.{Query}
use Rattle.pq_base.specs.Values.{same_kind}
use Rattle.pq_schema.proofs.TypeKinds.{kind_flip}
use Rattle.pq_schema.specs.Tables.{table_at, type_at}
use Rattle.pq_schema.specs.Relations.{relation_at, no_relation, table_of, is_equality}
use Rattle.pq_schema.specs.Resolved.{IsConstant, IsResolved, IsRelation, IsPredicate, IsOperand, IsColumnOf, IsParam, ref_type, param_type, same_ref, is_param}
use Rattle.pq_base.proofs.Members.{range_in, all_member, any_at, any_from, map_in, in_map}
use Rattle.pq_arrange.specs.Moves.{order_place, move, move_operand, move_item, swap_sides, later_left_with, move_pred, reordered_query}
use Rattle.pq_arrange.specs.Laws.{ResolvedInAnyOrder}
use Rattle.pq_arrange.proofs.Moved.{place_is}
use Rattle.pq_arrange.proofs.Reordered.{in_permuted}

bytes_flip : (a b : List ℕ) → bytes_eq a b ≡ bytes_eq b a
bytes_flip a b = sym (is_eq-slice_cmp a b) ∙ (eq_by_cmp_equiv nat_list_cmp_total).symm a b ∙ is_eq-slice_cmp b a

map_map : {A B C : Type 0} (f : B → C) (g : A → B) (xs : List A) → map f (map g xs) ≡ map (λ x. f (g x)) xs
map_map f g [] = refl
map_map f g (x ∷ xs) = ap (λ l. f (g x) ∷ l) (map_map f g xs)

-- a list by its places
pub by_places : {X : Type 0} (f : ℕ → X) (a n : ℕ) (xs : List X) (d : X) → length xs ≡ n → ((k : ℕ) → k < n → f (a + k) ≡ get_or xs k d) → map f (range_with_len a n) ≡ xs
by_places f a zero [] d l h = refl
by_places f a zero (x ∷ xs) d l h = absurd (omega (arith, l))
by_places f a (suc n) [] d l h = absurd (omega (arith, l))
by_places f a (suc n) (x ∷ xs) d l h =
    let here : a + 0 ≡ a = omega arith in
    let first : f a ≡ x = ap f (sym here) ∙ h 0 (omega arith) in
    let rest = by_places f (a + 1) n xs d (omega (arith, l)) (λ k low. (let e : (a + 1) + k ≡ a + suc k = omega arith in ap f e) ∙ h (suc k) (omega arith)) in
    λ i. first i ∷ rest i

-- what differs stays so
distinct_map : {X Y : Type 0} (e : X → X → Bool) (e' : Y → Y → Bool) (f : X → Y) (xs : List X) → ((x y : X) → In x xs → In y xs → e x y ≡ false → e' (f x) (f y) ≡ false) → IsDistinct e xs → IsDistinct e' (map f xs)
unfolding IsDistinct
distinct_map e e' f [] h d = tt
distinct_map e e' f (x ∷ xs) h d = (one xs d.0 (λ y there. h x y (inl refl) (inr there)), distinct_map e e' f xs (λ y z i j. h y z (inr i) (inr j)) d.1)
  where
    one : (ys : List _) → AllByRecursion (λ y. e x y ≡ false) ys → ((y : _) → In y ys → e x y ≡ false → e' (f x) (f y) ≡ false) → AllByRecursion (λ y. e' (f x) y ≡ false) (map f ys)
    one [] a h = tt
    one (y ∷ ys) a h = (h y (inl refl) a.0, one ys a.1 (λ z i. h z (inr i)))

module _ (tables : List Table) (query : Query) (r : IsResolved tables query) (order : List ℕ) (p : IsPermutation (range_with_len 1 (length query.relations)) order) where
  abbrev m : ℕ
  m = length query.relations

  abbrev query' : Query
  query' = reordered_query order query

  long : length query'.relations ≡ m
  long = length-map order (relation_at query) ∙ length_permutation (range_with_len 1 m) order p ∙ length-range_with_len 1 m

  here : (rel : ℕ) → 1 ≤ rel → rel ≤ m → In rel order
  here rel low high = in_permuted rel (range_with_len 1 m) order p (range_in rel 1 m low (omega arith))

  relation_moved : (rel : ℕ) → In rel order → relation_at query' (order_place order rel) ≡ relation_at query rel
  relation_moved rel i =
      let h = place_is order rel i in
      let e : order_place order rel - 1 ≡ h.0 = (let s : order_place order rel ≡ suc h.0 = h.1 in omega (arith, s)) in
      ap (λ (n : ℕ). get_or (map (relation_at query) order) n no_relation) e
      ∙ get_or-map (relation_at query) order h.0 0 no_relation h.2
      ∙ ap (relation_at query) h.3

  table_moved : (rel : ℕ) → In rel order → table_of tables query' (order_place order rel) ≡ table_of tables query rel
  table_moved rel i = ap (λ (relation : Relation). table_at tables relation.table) (relation_moved rel i)

  pub column_moved : (ref : ColRef) → IsColumnOf tables query ref → IsColumnOf tables query' (move order ref)
  column_moved ref c =
      let i = here ref.rel c.from_one c.there in
      let h = place_is order ref.rel i in
      let s : order_place order ref.rel ≡ suc h.0 = h.1 in
      let inside : h.0 < length order = h.2 in
      let l : length query'.relations ≡ length order = length-map order (relation_at query) in
      record {
        from_one = omega (arith, s);
        there = omega (arith, s, inside, l);
        inside = subst (λ (t : Table). ref.col < length t.columns) (sym (table_moved ref.rel i)) c.inside;
      }

  type_moved : (ref : ColRef) → IsColumnOf tables query ref → ref_type tables query' (move order ref) ≡ ref_type tables query ref
  type_moved ref c = ap (λ (t : Table). type_at t.columns ref.col) (table_moved ref.rel (here ref.rel c.from_one c.there))

  -- relations that differ have different places
  pub places_differ : (a b : ℕ) → In a order → In b order → order_place order a ≡ order_place order b → a ≡ b
  places_differ a b i j e =
      let h = place_is order a i in
      let k = place_is order b j in
      let s : h.0 ≡ k.0 = (let x : order_place order a ≡ suc h.0 = h.1 in let y : order_place order b ≡ suc k.0 = k.1 in omega (arith, x, y, e)) in
      sym h.3 ∙ ap (λ (n : ℕ). get_or order n 0) s ∙ k.3

  relations_permuted : IsPermutation query.relations query'.relations
  relations_permuted =
      subst (λ (l : List Relation). IsPermutation l query'.relations)
      (by_places (relation_at query) 1 m query.relations no_relation refl (λ k low. let e : (1 + k) - 1 ≡ k = omega arith in ap (λ (n : ℕ). get_or query.relations n no_relation) e))
      (IsPermutation-map (relation_at query) (range_with_len 1 m) order p)

  moved_op : (pred : Pred) (right : Operand) → (later_left_with pred right).op ≡ pred.op
  moved_op pred (operand.Const value) = refl
  moved_op pred (operand.Param number) = refl
  moved_op pred (operand.Col other) = elim (is_equality pred.op && nat_lt pred.left.rel other.rel) as (λ b. (cond b (swap_sides pred other) pred).op ≡ pred.op) [ true ↦ refl | false ↦ refl ]

  predicate_moved : (pred : Pred) → IsPredicate tables query pred → IsPredicate tables query' (move_pred order pred)
  predicate_moved pred h = by_right pred.right h.right
    where
      left : IsColumnOf tables query' (move order pred.left)
      left = column_moved pred.left h.left

      same_type : ref_type tables query' (move order pred.left) ≡ ref_type tables query pred.left
      same_type = type_moved pred.left h.left

      by_right : (right : Operand) → IsOperand tables query pred right → IsPredicate tables query' (later_left_with (record { left = move order pred.left; op = pred.op; right = move_operand order right }) (move_operand order right))
      by_right (operand.Const value) o = record { left = left; right = subst (λ (t : ColType). IsConstant pred.op (param_type t) value) (sym same_type) o }
      by_right (operand.Param number) o = record { left = left; right = (o.0, subst (λ (t : ColType). IsParam query.params number (param_type t)) (sym same_type) o.1) }
      by_right (operand.Col other) o =
          let a : ℕ = order_place order pred.left.rel in
          let b : ℕ = order_place order other.rel in
          let moved : Pred = record { left = move order pred.left; op = pred.op; right = operand.Col (move order other) } in
          let is_eq : is_equality pred.op ≡ true = ap is_equality o.equal in
          let other_type : ref_type tables query' (move order other) ≡ ref_type tables query other = type_moved other o.column in
          let kinds : same_kind (ref_type tables query' (move order pred.left)) (ref_type tables query' (move order other)) ≡ true = (λ i. same_kind (same_type i) (other_type i)) ∙ o.kind in
          elim (cases_order a b) [
            | inl e ↦
                let s : pred.left.rel ≡ other.rel = places_differ pred.left.rel other.rel (here pred.left.rel h.left.from_one h.left.there) (here other.rel o.column.from_one o.column.there) e in
                let low : other.rel < pred.left.rel = o.earlier in
                absurd (omega (arith, s, low))
            | inr (inl below) ↦
                subst (λ (t : Bool). IsPredicate tables query' (cond t (swap_sides moved (move order other)) moved)) (sym ((λ i. is_eq i && lt-ltb a b below i)))
                (record { left = column_moved other o.column; right = record { equal = o.equal; column = left; earlier = below; kind = kind_flip (ref_type tables query' (move order other)) (ref_type tables query' (move order pred.left)) ∙ kinds } })
            | inr (inr above) ↦
                subst (λ (t : Bool). IsPredicate tables query' (cond t (swap_sides moved (move order other)) moved)) (sym ((λ i. is_eq i && le-ltb a b (omega (arith, above)) i)))
                (record { left = left; right = record { equal = o.equal; column = column_moved other o.column; earlier = above; kind = kinds } })
          ]

  -- a parameter that was used is
  used_moved : (number : ℕ) (pred : Pred) → is_param number pred.right ≡ true → is_param number (move_pred order pred).right ≡ true
  used_moved number pred h = by_right pred.right h
    where
      by_right : (right : Operand) → is_param number right ≡ true → is_param number (later_left_with (record { left = move order pred.left; op = pred.op; right = move_operand order right }) (move_operand order right)).right ≡ true
      by_right (operand.Const value) h = absurd (false≢true h)
      by_right (operand.Param other) h = h
      by_right (operand.Col other) h = absurd (false≢true h)

  refs_differ : (a b : ColRef) → IsColumnOf tables query a → IsColumnOf tables query b → same_ref a b ≡ false → same_ref (move order a) (move order b) ≡ false
  refs_differ a b c d h =
      elim (cases_eq a.rel b.rel) [
        | inl e ↦ (λ i. eq-eqb (order_place order a.rel) (order_place order b.rel) (ap (order_place order) e) i && (a.col == b.col)) ∙ sym (λ i. eq-eqb a.rel b.rel e i && (a.col == b.col)) ∙ h
        | inr other ↦ λ i. ne_eqb (order_place order a.rel) (order_place order b.rel) (λ e. other (places_differ a.rel b.rel (here a.rel c.from_one c.there) (here b.rel d.from_one d.there) e)) i && (a.col == b.col)
      ]

  pub reordered_resolved : IsResolved tables query'
  reordered_resolved = record {
    some_relations = let l : length query'.relations ≡ m = long in let f = r.some_relations in omega (arith, l, f);
    few_relations = let l : length query'.relations ≡ m = long in let f = r.few_relations in omega (arith, l, f);
    relations = All-permutation (IsRelation tables) query.relations query'.relations relations_permuted r.relations;
    aliases = IsDistinct-IsPermutation bytes_eq bytes_flip (map (λ relation. relation.alias) query.relations) (map (λ relation. relation.alias) query'.relations) (IsPermutation-map (λ (relation : Relation). relation.alias) query.relations query'.relations relations_permuted) r.aliases;
    some_selected = let l = length-map query.select (move order) in let f = r.some_selected in omega (arith, l, f);
    few_selected = let l = length-map query.select (move order) in let f = r.few_selected in omega (arith, l, f);
    select = All-map (IsColumnOf tables query') (move order) query.select (All-weaker (IsColumnOf tables query) (λ ref. IsColumnOf tables query' (move order ref)) column_moved query.select r.select);
    few_preds = let l = length-map query.preds (move_pred order) in let f = r.few_preds in omega (arith, l, f);
    preds = All-map (IsPredicate tables query') (move_pred order) query.preds (All-weaker (IsPredicate tables query) (λ pred. IsPredicate tables query' (move_pred order pred)) predicate_moved query.preds r.preds);
    few_order = let l = length-map query.order (move_item order) in let f = r.few_order in omega (arith, l, f);
    order = All-map (λ (item : OrderItem). IsColumnOf tables query' item.col) (move_item order) query.order (All-weaker (λ (item : OrderItem). IsColumnOf tables query item.col) (λ item. IsColumnOf tables query' (move order item.col)) (λ item. column_moved item.col) query.order r.order);
    once =
        subst (IsDistinct same_ref) (map_map (move order) (λ (item : OrderItem). item.col) query.order ∙ sym (map_map (λ (item : OrderItem). item.col) (move_item order) query.order))
        (distinct_map same_ref same_ref (move order) (map (λ item. item.col) query.order)
        (λ a b i j. refs_differ a b (ordered a i) (ordered b j)) r.once);
    stop = r.stop;
    params = λ number low high.
        let f = any_at (λ pred. is_param number pred.right) query.preds (r.params number low high) in
        any_from (λ pred. is_param number pred.right) query'.preds (move_pred order f.0) (map_in (move_pred order) f.0 query.preds f.1) (used_moved number f.0 f.2);
  }
    where
      ordered : (a : ColRef) → In a (map (λ item. item.col) query.order) → IsColumnOf tables query a
      ordered a i = let h = in_map (λ (item : OrderItem). item.col) a query.order i in subst (IsColumnOf tables query) h.2 (all_member (λ (item : OrderItem). IsColumnOf tables query item.col) query.order r.order h.0 h.1)

pub resolved_in_any_order : ResolvedInAnyOrder
resolved_in_any_order tables query r order p = reordered_resolved tables query r order p
