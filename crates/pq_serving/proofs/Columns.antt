-- The columns of a set, of the ORDER BY of a relation, and of what a sequence has behind its tied columns.
use Rattle.std.proofs.Common.{◌≡◌, ℕ, zero, suc, ◌+◌, ◌<◌, ◌≤◌, Bool, true, false, cond, not, ◌&&◌, ◌==◌, ◌⊎◌, inl, inr, List, [], ◌∷◌, ◌++◌, length, map, filter, flat_map, bit_or, refl, sym, ap, ◌∙◌, subst, arith, append-nil}
use Rattle.std.specs.Int.{bit_at}
use Rattle.std.specs.List.{range_with_len}
use Rattle.std.proofs.lemmas.Bool.{and_parts, and_from, eqb-true, eq-eqb, false≢true, false_from_ne_true, cases_eq}
use Rattle.std.proofs.lemmas.Nat.Bits.{bit_at_or, bit_at-lt, bit_at-zero}
use Rattle.std.proofs.lemmas.List.Elements.{filter-append}
use Rattle.pq_base.specs.Columns.{has_col, set_of}
use Rattle.pq_base.specs.declared.value.Dir.{Dir}
use Rattle.pq_base.specs.declared.value.Dir.TheVariants.{Asc, Desc}
use Rattle.pq_base.specs.Members.{In}
use Rattle.pq_schema.specs.declared.table.KeyPart.{KeyPart}
use Rattle.pq_schema.specs.declared.table.Table.{Table}
use Rattle.pq_schema.specs.declared.query.OrderItem.{OrderItem}
use Rattle.pq_schema.specs.declared.query.Query.{Query}
use Rattle.pq_schema.specs.Tables.{is_lookup}
use Rattle.pq_schema.specs.Sequences.{ascending_part, columns_of, without, then_key, same_dir, same_parts}
use Rattle.pq_schema.specs.Relations.{table_of, tied_set, is_rest, part_of, order_rest, is_ordered, key_item, key_items, position_columns}
use Rattle.pq_base.proofs.Members.{in_range}
use Rattle.pq_base.proofs.Members.{each_by_in, in_filter, filter_in, filter_none, filter_same, filter_both, filter-map, filter-flat_map, in_map, map_in, any_at, any_from, in_flat_map, in_either}
use Rattle.pq_base.proofs.Sets.{set_members, members_set}

-- ---- tests
pub same_test_from : (a b : Bool) → (a ≡ true → b ≡ true) → (b ≡ true → a ≡ true) → a ≡ b
same_test_from true b f g = sym (f refl)
same_test_from false true f g = g refl
same_test_from false false f g = refl

-- ---- sets
one_bit : (a b k : ℕ) → bit_at (bit_or a b) k ≡ 1 → (bit_at a k ≡ 1) ⊎ (bit_at b k ≡ 1)
one_bit a b k h =
    let both = bit_at_or a b k in
    let x = bit_at-lt a k in
    let y = bit_at-lt b k in
    elim (cases_eq (bit_at a k) 1) [ inl e ↦ inl e | inr n ↦ inr (omega (arith, both, x, y, n, h)) ]

pub has_either : (a b k : ℕ) → has_col (bit_or a b) k ≡ true → (has_col a k ≡ true) ⊎ (has_col b k ≡ true)
has_either a b k h = elim (one_bit a b k (eqb-true _ _ h)) [ inl e ↦ inl (eq-eqb _ _ e) | inr e ↦ inr (eq-eqb _ _ e) ]

pub either_has : (a b k : ℕ) → (has_col a k ≡ true) ⊎ (has_col b k ≡ true) → has_col (bit_or a b) k ≡ true
either_has a b k (inl h) =
    let both = bit_at_or a b k in
    let one : bit_at a k ≡ 1 = eqb-true _ _ h in
    let y = bit_at-lt b k in
    eq-eqb _ _ (omega (arith, both, one, y))
either_has a b k (inr h) =
    let both = bit_at_or a b k in
    let one : bit_at b k ≡ 1 = eqb-true _ _ h in
    let x = bit_at-lt a k in
    eq-eqb _ _ (omega (arith, both, one, x))

-- ---- parts
same_dir_is : (d e : Dir) → same_dir d e ≡ true → d ≡ e
same_dir_is Asc Asc h = refl
same_dir_is Asc Desc h = absurd (false≢true h)
same_dir_is Desc Asc h = absurd (false≢true h)
same_dir_is Desc Desc h = refl

pub same_parts_are : (ps qs : List KeyPart) → same_parts ps qs ≡ true → ps ≡ qs
same_parts_are [] [] h = refl
same_parts_are [] (q ∷ qs) h = absurd (false≢true h)
same_parts_are (p ∷ ps) [] h = absurd (false≢true h)
same_parts_are (p ∷ ps) (q ∷ qs) h =
    let outer = and_parts _ _ h in
    let inner = and_parts _ _ outer.0 in
    let col : p.col ≡ q.col = eqb-true _ _ inner.0 in
    let dir : p.dir ≡ q.dir = same_dir_is p.dir q.dir inner.1 in
    (λ i. record { col = col i; dir = dir i } ∷ same_parts_are ps qs outer.1 i)

-- ---- lists
pub map_twice : {X Y Z : Type 0} (g : Y → Z) (f : X → Y) (xs : List X) → map g (map f xs) ≡ map (λ x. g (f x)) xs
map_twice g f [] = refl
map_twice g f (x ∷ xs) = ap (λ l. g (f x) ∷ l) (map_twice g f xs)

pub map-append : {X Y : Type 0} (f : X → Y) (xs ys : List X) → map f (xs ++ ys) ≡ map f xs ++ map f ys
map-append f [] ys = refl
map-append f (x ∷ xs) ys = ap (λ l. f x ∷ l) (map-append f xs ys)

-- of numbers that rise by one only p gives something
pub only_one : {X : Type 0} (g : ℕ → List X) (p a n : ℕ) → a ≤ p → p < a + n → ((i : ℕ) → (i ≡ p → ⊥) → g i ≡ []) → flat_map g (range_with_len a n) ≡ g p
only_one g p a zero low high none = absurd (omega arith)
only_one g p a (suc n) low high none =
    elim (cases_eq a p) [
      | inl same ↦ (λ i. g (same i) ++ nothing (a + 1) n (omega arith) i) ∙ append-nil (g p)
      | inr other ↦ (λ i. none a other i ++ only_one g p (a + 1) n (omega arith) (omega arith) none i)
    ]
  where
    nothing : (b m : ℕ) → p < b → flat_map g (range_with_len b m) ≡ []
    nothing b zero above = refl
    nothing b (suc m) above = (λ i. none b (λ e. absurd (omega arith)) i ++ nothing (b + 1) m (omega arith) i)

-- ---- the position columns of a relation that are not fixed
module _ (tables : List Table) (query : Query) (p : ℕ) where
  abbrev set : ℕ
  set = tied_set query p

  abbrev ordered_set : ℕ
  ordered_set = set_of (columns_of (order_rest query p))

  abbrev key : List ℕ
  key = (table_of tables query p).key

  rest_is_own : (item : OrderItem) → is_rest p set item ≡ true → item.col.rel ≡ p
  rest_is_own item h = eqb-true _ _ (and_parts _ _ h).0

  -- a column that is not fixed is in ORDER BY exactly where it is of the order's rest
  ordered_is : (k : ℕ) → has_col set k ≡ false → is_ordered query p k ≡ has_col ordered_set k
  ordered_is k free = same_test_from (is_ordered query p k) (has_col ordered_set k) there back
    where
      there : is_ordered query p k ≡ true → has_col ordered_set k ≡ true
      there h =
          let any = any_at (λ (item : OrderItem). (item.col.rel == p) && (item.col.col == k)) query.order h in
          let item = any.0 in
          let both = and_parts _ _ any.2 in
          let col : item.col.col ≡ k = eqb-true _ _ both.1 in
          let rest : is_rest p set item ≡ true = and_from _ _ both.0 (ap (λ (n : ℕ). not (has_col set n)) col ∙ ap not free) in
          let part : In (part_of item) (order_rest query p) = map_in part_of item (filter (is_rest p set) query.order) (filter_in (is_rest p set) item query.order any.1 rest) in
          members_set (columns_of (order_rest query p)) k (subst (λ (n : ℕ). In n (columns_of (order_rest query p))) col (map_in (λ (part : KeyPart). part.col) (part_of item) (order_rest query p) part))

      back : has_col ordered_set k ≡ true → is_ordered query p k ≡ true
      back h =
          let part = in_map (λ (part : KeyPart). part.col) k (order_rest query p) (set_members (columns_of (order_rest query p)) k h) in
          let item = in_map part_of part.0 (filter (is_rest p set) query.order) part.1 in
          let here = in_filter (is_rest p set) item.0 query.order item.1 in
          let col : item.0.col.col ≡ k = ap (λ (part : KeyPart). part.col) item.2 ∙ part.2 in
          any_from (λ (item : OrderItem). (item.col.rel == p) && (item.col.col == k)) query.order item.0 here.0 (and_from _ _ (and_parts _ _ here.1).0 (eq-eqb _ _ col))

  -- which key columns stand in the position and are not fixed
  key_test : (k : ℕ) → (not (is_ordered query p k) && ((p == p) && not (has_col set k))) ≡ not (has_col (bit_or set ordered_set) k)
  key_test k =
      elim (has_col set k) as (λ b. has_col set k ≡ b → (not (is_ordered query p k) && ((p == p) && not b)) ≡ not (has_col (bit_or set ordered_set) k)) [
        | true ↦ λ is. no_more (not (is_ordered query p k)) (p == p) ∙ sym (ap not (either_has set ordered_set k (inl is)))
        | false ↦ λ is.
            ap (λ b. not (is_ordered query p k) && (b && true)) (eq-eqb p p refl)
            ∙ and_true (not (is_ordered query p k))
            ∙ ap not (ordered_is k is ∙ same_test_from (has_col ordered_set k) (has_col (bit_or set ordered_set) k)
            (λ h. either_has set ordered_set k (inr h))
            (λ h. elim (has_either set ordered_set k h) [ inl e ↦ absurd (false≢true (sym is ∙ e)) | inr e ↦ e ]))
      ] refl
    where
      no_more : (a b : Bool) → (a && (b && false)) ≡ false
      no_more true true = refl
      no_more true false = refl
      no_more false b = refl

      and_true : (a : Bool) → (a && true) ≡ a
      and_true true = refl
      and_true false = refl

  own_keys : is_lookup (table_of tables query p) set ≡ false → map part_of (filter (is_rest p set) (key_items tables query p)) ≡ map ascending_part (without (bit_or set ordered_set) key)
  own_keys free =
      ap (λ b. map part_of (filter (is_rest p set) (cond b [] (map (key_item p) (filter (λ col. not (is_ordered query p col)) key))))) free
      ∙ ap (map part_of) (filter-map (is_rest p set) (key_item p) (filter (λ col. not (is_ordered query p col)) key))
      ∙ map_twice part_of (key_item p) (filter (λ col. is_rest p set (key_item p col)) (filter (λ col. not (is_ordered query p col)) key))
      ∙ ap (map ascending_part) (filter_both (λ col. is_rest p set (key_item p col)) (λ col. not (is_ordered query p col)) key
      ∙ filter_same _ _ key (each_by_in _ key (λ k _. key_test k)))

  -- key items are of their own relation, which is no lookup, and of its key
  key_item_rel : (i : ℕ) (item : OrderItem) → In item (key_items tables query i) → (item.col.rel ≡ i) × (is_lookup (table_of tables query i) (tied_set query i) ≡ false) × In item.col.col (table_of tables query i).key
  key_item_rel i item here =
      let keys = filter (λ col. not (is_ordered query i col)) (table_of tables query i).key in
      elim (is_lookup (table_of tables query i) (tied_set query i)) as (λ b. is_lookup (table_of tables query i) (tied_set query i) ≡ b → In item (cond b [] (map (key_item i) keys)) → (item.col.rel ≡ i) × (is_lookup (table_of tables query i) (tied_set query i) ≡ false) × In item.col.col (table_of tables query i).key) [
        | true ↦ λ _ there. absurd there
        | false ↦ λ is there.
            let m = in_map (key_item i) item keys there in
            (ap (λ (item : OrderItem). item.col.rel) (sym m.2), is, subst (λ (item : OrderItem). In item.col.col (table_of tables query i).key) m.2 (in_filter (λ col. not (is_ordered query i col)) m.0 (table_of tables query i).key m.1).0)
      ] refl here

  other_keys : (i : ℕ) → (i ≡ p → ⊥) → filter (is_rest p set) (key_items tables query i) ≡ []
  other_keys i other = filter_none (is_rest p set) (key_items tables query i) (each_by_in _ (key_items tables query i) (λ item here.
      false_from_ne_true (is_rest p set item) (λ h. other (sym (key_item_rel i item here).0 ∙ rest_is_own item h))))

  -- of the position columns, those of the relation that are not fixed are the order's rest and the key columns left
  pub rest_columns : 1 ≤ p → p ≤ length query.relations → is_lookup (table_of tables query p) (tied_set query p) ≡ false →
      map part_of (filter (is_rest p (tied_set query p)) (position_columns tables query)) ≡ then_key (order_rest query p) (bit_or (tied_set query p) (set_of (columns_of (order_rest query p)))) (table_of tables query p).key
  rest_columns low high free =
      let m = length query.relations in
      let keys = flat_map (key_items tables query) (range_with_len 1 m) in
      ap (map part_of) (filter-append (is_rest p set) query.order keys)
      ∙ map-append part_of (filter (is_rest p set) query.order) (filter (is_rest p set) keys)
      ∙ ap (λ l. order_rest query p ++ map part_of l) (filter-flat_map (is_rest p set) (key_items tables query) (range_with_len 1 m) ∙ only_one (λ i. filter (is_rest p set) (key_items tables query i)) p 1 m low (omega arith) other_keys)
      ∙ ap (λ l. order_rest query p ++ l) (own_keys free)

  -- what the position columns are of
  pub position_item : (item : OrderItem) → In item (position_columns tables query) → In item query.order ⊎ ((1 ≤ item.col.rel) × (item.col.rel ≤ length query.relations) × (is_lookup (table_of tables query item.col.rel) (tied_set query item.col.rel) ≡ false) × In item.col.col (table_of tables query item.col.rel).key)
  position_item item here = elim (in_either item query.order _ here) [
    | inl a ↦ inl a
    | inr b ↦
        let f = in_flat_map (key_items tables query) item (range_with_len 1 (length query.relations)) b in
        let r = in_range f.0 1 (length query.relations) f.1 in
        let k = key_item_rel f.0 item f.2 in
        inr (omega (arith, k.0, r.0), omega (arith, k.0, r.1), ap (λ (i : ℕ). is_lookup (table_of tables query i) (tied_set query i)) k.0 ∙ k.1, subst (λ (i : ℕ). In item.col.col (table_of tables query i).key) (sym k.0) k.2)
  ]

  -- where nothing is left, each key column is fixed
  pub none_left : (order : List KeyPart) → then_key order (bit_or set (set_of (columns_of order))) key ≡ [] → (k : ℕ) → In k key → has_col set k ≡ true
  none_left (part ∷ order) e k here = absurd (some_part part _ e)
    where
      some_part : (part : KeyPart) (parts : List KeyPart) → part ∷ parts ≡ [] → ⊥
      some_part part parts e = cc
  none_left [] e k here = elim (has_either set 0 k (each key e k here)) [
    | inl h ↦ h
    | inr h ↦ let one : bit_at 0 k ≡ 1 = eqb-true _ _ h in let z = bit_at-zero k in absurd (omega arith)
  ]
    where
      each : (cols : List ℕ) → map ascending_part (without (bit_or set 0) cols) ≡ [] → (k : ℕ) → In k cols → has_col (bit_or set 0) k ≡ true
      each [] e k here = absurd here
      each (c ∷ cols) e k here =
          elim (has_col (bit_or set 0) c) as (λ b. has_col (bit_or set 0) c ≡ b → map ascending_part (cond (not b) (c ∷ without (bit_or set 0) cols) (without (bit_or set 0) cols)) ≡ [] → has_col (bit_or set 0) k ≡ true) [
            | true ↦ λ is e. elim here [ inl same ↦ ap (has_col (bit_or set 0)) (sym same) ∙ is | inr there ↦ each cols e k there ]
            | false ↦ λ _ e. absurd cc
          ] refl e
