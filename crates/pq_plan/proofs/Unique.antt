-- Different combinations have different positions, so there is one order.
use Rattle.std.proofs.Common.{◌≡◌, Option, ℕ, zero, suc, ◌-◌, ◌≤◌, true, false, cond, not, ◌&&◌, ◌==◌, inl, inr, List, [], ◌∷◌, ◌++◌, length, get_or, map, filter, refl, sym, ap, ◌∙◌, subst, arith, IsPermutation}
use Rattle.std.specs.Ordering.{eq_by_cmp}
use Rattle.std.specs.List.{range_with_len}
use Rattle.std.specs.FinMap.{IsAntisymmetric}
use Rattle.std.proofs.lemmas.Bool.{eqb-true, and_parts}
use Rattle.std.proofs.lemmas.List.{get_or_append_left}
use Rattle.std.proofs.lemmas.List.Sorted.{IsPermutation-sym}
use Rattle.pq_base.specs.declared.value.Value.{Value}
use Rattle.pq_schema.specs.declared.query.ColRef.{ColRef}
use Rattle.pq_schema.specs.declared.query.OrderItem.{OrderItem}
use Rattle.pq_schema.specs.Relations.{position_columns, key_items, key_item, is_ordered}
use Rattle.pq_base.specs.Members.{In, Apart}
use Rattle.pq_plan.specs.Answer.{Question, row_of, rows_at, no_value, position, by_position, in_order}
use Rattle.pq_plan.specs.Kept.{row_cmp, cells}
use Rattle.pq_plan.specs.Meaning.{followed, read, key_of, looks_up, combo_cmp, key_at}
use Rattle.pq_base.proofs.Members.{each_in, in_left, in_right, filter_in, map_in, flat_map_in, any_at, range_in}
use Rattle.pq_plan.proofs.Orders.{one_order, apart_permuted, in_permuted, sort_by_sorted, Rises}
use Rattle.pq_plan.proofs.ValueOrder.{row_total, combo_total, combo_only}
use Rattle.pq_plan.proofs.Positions.{position_cmp_only}
use Rattle.pq_plan.proofs.Apart.{apart_by, differs, differing}
use Rattle.pq_plan.proofs.Laws.{Keeps}
use Rattle.pq_plan.proofs.Combos.{reads, in_followed, in_read, long}
use Rattle.pq_plan.proofs.Stops.{Distinct, distinct_read}
use Rattle.pq_plan.proofs.Pushing.{by_total, distinct_reads}

module _ (q : Question) (d : ℕ → Option ℕ) (keep : Keeps q d) where
  -- rows with one key are one row
  one_row : (i : ℕ) (rows : List (List Value)) → Apart row_cmp (cells (key_of q i)) rows → (r s : List Value) → In r rows → In s rows → cells (key_of q i) r ≡ cells (key_of q i) s → r ≡ s
  one_row i [] h r s a b e = absurd a
  one_row i (w ∷ rows) h r s (inl x) (inl y) e = sym x ∙ y
  one_row i (w ∷ rows) h r s (inl x) (inr y) e = absurd (differs row_cmp row_total _ _ (each_in (λ y. eq_by_cmp row_cmp (cells (key_of q i) w) (cells (key_of q i) y) ≡ false) rows h.0 s y) (ap (cells (key_of q i)) x ∙ e))
  one_row i (w ∷ rows) h r s (inr x) (inl y) e = absurd (differs row_cmp row_total _ _ (each_in (λ y. eq_by_cmp row_cmp (cells (key_of q i) w) (cells (key_of q i) y) ≡ false) rows h.0 r x) (ap (cells (key_of q i)) y ∙ sym e))
  one_row i (w ∷ rows) h r s (inr x) (inr y) e = one_row i rows h.1 r s x y e

  last : (c : List (List Value)) (r : List Value) (i : ℕ) → length c ≡ i → get_or (c ++ r ∷ []) (suc i - 1) [] ≡ r
  last c r i l = ap (λ (k : ℕ). get_or (c ++ r ∷ []) k []) (omega arith) ∙ at c r
    where
      at : (c : List (List Value)) (r : List Value) → get_or (c ++ r ∷ []) (length c) [] ≡ r
      at [] r = refl
      at (x ∷ c) r = at c r

  -- the keys of the relations that are no lookups tell combinations apart
  by_keys : (n : ℕ) (c e : List (List Value)) → In c (reads q n) → In e (reads q n) → ((i : ℕ) → 1 ≤ i → i ≤ n → looks_up q i ≡ false → key_at q i c ≡ key_at q i e) → c ≡ e
  by_keys zero c e (inl x) (inl y) h = sym x ∙ y
  by_keys zero c e (inl x) (inr y) h = absurd y
  by_keys zero c e (inr x) y h = absurd x
  by_keys (suc n) c e x y h =
      let a = in_read q (suc n) c (reads q n) x in
      let b = in_read q (suc n) e (reads q n) y in
      let f = in_followed q (suc n) a.0 c a.2 in
      let g = in_followed q (suc n) b.0 e b.2 in
      let la = long q n a.0 a.1 in
      let lb = long q n b.0 b.1 in
      let fronts : a.0 ≡ b.0 = by_keys n a.0 b.0 a.1 b.1 (λ i low high no_lookup.
      let s : row_of i c ≡ row_of i a.0 = ap (λ (w : List (List Value)). get_or w (i - 1) []) (sym f.3) ∙ get_or_append_left a.0 (f.0 ∷ []) [] (i - 1) (omega arith) in
      let t : row_of i e ≡ row_of i b.0 = ap (λ (w : List (List Value)). get_or w (i - 1) []) (sym g.3) ∙ get_or_append_left b.0 (g.0 ∷ []) [] (i - 1) (omega arith) in
      ap (cells (key_of q i)) (sym s) ∙ h i low (omega arith) no_lookup ∙ ap (cells (key_of q i)) t) in
      let one : cells (key_of q (suc n)) f.0 ≡ cells (key_of q (suc n)) g.0 = elim (looks_up q (suc n)) as (λ l. looks_up q (suc n) ≡ l → cells (key_of q (suc n)) f.0 ≡ cells (key_of q (suc n)) g.0) [
        | true ↦ λ is. let t = keep.lookups (suc n) is in t.are a.0 f.0 (ap suc la) f.2 ∙ ap t.values fronts ∙ sym (t.are b.0 g.0 (ap suc lb) g.2)
        | false ↦ λ is.
            ap (cells (key_of q (suc n))) (sym (last a.0 f.0 n la) ∙ ap (λ (w : List (List Value)). get_or w (suc n - 1) []) f.3)
            ∙ h (suc n) (omega arith) (omega arith) is
            ∙ ap (cells (key_of q (suc n))) (sym (ap (λ (w : List (List Value)). get_or w (suc n - 1) []) g.3) ∙ last b.0 g.0 n lb)
      ] refl in
      let rows : f.0 ≡ g.0 = one_row (suc n) (rows_at q (suc n)) (keep.keys (suc n)) f.0 g.0 f.1 g.1 one in
      sym f.3 ∙ (λ j. fronts j ++ rows j ∷ []) ∙ g.3

  -- ---- a position has the keys
  map_at : {X Y : Type 0} (f g : X → Y) (xs : List X) → map f xs ≡ map g xs → (x : X) → In x xs → f x ≡ g x
  map_at f g [] h x i = absurd i
  map_at f g (y ∷ xs) h x (inl e) = let first : f y ≡ g y = cc in ap f (sym e) ∙ first ∙ ap g e
  map_at f g (y ∷ xs) h x (inr i) = let rest : map f xs ≡ map g xs = cc in map_at f g xs rest x i

  map_same : {X Y : Type 0} (f g : X → Y) (xs : List X) → ((x : X) → In x xs → f x ≡ g x) → map f xs ≡ map g xs
  map_same f g [] h = refl
  map_same f g (x ∷ xs) h = λ j. h x (inl refl) j ∷ map_same f g xs (λ y i. h y (inr i)) j

  -- the position has each key column of a relation that is no lookup
  value_in : (c e : List (List Value)) → position q c ≡ position q e → (i k : ℕ) → 1 ≤ i → i ≤ length q.query.relations → looks_up q i ≡ false → In k (key_of q i) → get_or (row_of i c) k no_value ≡ get_or (row_of i e) k no_value
  value_in c e same i k low high no_lookup here =
      let items = position_columns q.tables q.query in
      let cols = map (λ (item : OrderItem). item.col) items in
      let at = λ (combo : List (List Value)). λ (col : ColRef). get_or (row_of col.rel combo) col.col no_value in
      let one : (item : OrderItem) → In item items → at c item.col ≡ at e item.col = λ item there. map_at (at c) (at e) cols same item.col (map_in (λ (item : OrderItem). item.col) item items there) in
      elim (is_ordered q.query i k) as (λ b. is_ordered q.query i k ≡ b → get_or (row_of i c) k no_value ≡ get_or (row_of i e) k no_value) [
        | true ↦ λ is.
            let any = any_at (λ (item : OrderItem). (item.col.rel == i) && (item.col.col == k)) q.query.order is in
            let both = and_parts _ _ any.2 in
            let rel : any.0.col.rel ≡ i = eqb-true _ _ both.0 in
            let col : any.0.col.col ≡ k = eqb-true _ _ both.1 in
            (λ x. get_or (row_of (sym rel x) c) (sym col x) no_value) ∙ one any.0 (in_left any.0 q.query.order _ any.1) ∙ (λ x. get_or (row_of (rel x) e) (col x) no_value)
        | false ↦ λ is.
            let left = map_in (key_item i) k (filter (λ col. not (is_ordered q.query i col)) (key_of q i)) (filter_in (λ col. not (is_ordered q.query i col)) k (key_of q i) here (ap not is)) in
            let kept : In (key_item i k) (key_items q.tables q.query i) = subst (λ b. In (key_item i k) (cond b [] (map (key_item i) (filter (λ col. not (is_ordered q.query i col)) (key_of q i))))) (sym no_lookup) left in
            one (key_item i k) (in_right (key_item i k) q.query.order _ (flat_map_in (key_items q.tables q.query) (key_item i k) i (range_with_len 1 (length q.query.relations)) (range_in i 1 (length q.query.relations) low (omega arith)) kept))
      ] refl

  -- two combinations of the first n relations with one position are one
  pub one_position : (n : ℕ) → n ≤ (length q.query.relations) → (c e : List (List Value)) → In c (reads q n) → In e (reads q n) → position q c ≡ position q e → c ≡ e
  one_position n few c e x y h = by_keys n c e x y (λ i low high no_lookup. map_same _ _ (key_of q i) (λ k here. value_in c e h i k low (omega arith) no_lookup here))

  pub only : IsAntisymmetric (by_position q)
  only = position_cmp_only (map (λ (item : OrderItem). item.dir) (position_columns q.tables q.query))

  pub apart_positions : (n : ℕ) → n ≤ (length q.query.relations) → (cs : List (List (List Value))) → Distinct q cs → ((c : List (List Value)) → In c cs → In c (reads q n)) → Apart (by_position q) (position q) cs
  apart_positions n few cs distinct among =
      apart_by combo_cmp (λ c. c) (by_position q) (position q) cs distinct (λ c e x y apart.
      differing (by_position q) (by_total q d keep) only _ _ (λ same. differs combo_cmp combo_total c e apart (one_position n few c e (among c x) (among e y) same)))

  -- the same combinations in any order
  pub record Same (n : ℕ) (cs : List (List (List Value))) : Type 0 where
    pub distinct : Distinct q cs
    pub sound : (c : List (List Value)) → In c cs → In c (reads q n)
    pub all : (c : List (List Value)) → In c (reads q n) → In c cs

  pub same_read : (n : ℕ) (cs : List (List (List Value))) → Same n cs → Same (suc n) (read q (suc n) cs)
  same_read n cs h = record {
    distinct = distinct_read q (suc n) cs (keep.keys (suc n)) h.distinct;
    sound = λ c i. let r = in_read q (suc n) c cs i in flat_map_in (followed q (suc n)) c r.0 (reads q n) (h.sound r.0 r.1) r.2;
    all = λ c i. let r = in_read q (suc n) c (reads q n) i in flat_map_in (followed q (suc n)) c r.0 cs (h.all r.0 r.1) r.2;
  }

  pub same_permuted : (n : ℕ) (cs es : List (List (List Value))) → Same n cs → IsPermutation cs es → Same n es
  same_permuted n cs es h p = record {
    distinct = apart_permuted combo_cmp (λ c. c) combo_total combo_only cs es p h.distinct;
    sound = λ c i. h.sound c (in_permuted combo_cmp (λ c. c) c es cs (IsPermutation-sym cs es p) i);
    all = λ c i. in_permuted combo_cmp (λ c. c) c cs es p (h.all c i);
  }

  -- so any order of the inputs gives one sorted list
  pub one_sorted : (n : ℕ) → n ≤ (length q.query.relations) → (cs : List (List (List Value))) → Same n cs → in_order q cs ≡ in_order q (reads q n)
  one_sorted n few cs h = one_order (by_position q) (position q) (by_total q d keep) only cs (reads q n)
      (apart_positions n few cs h.distinct h.sound) (apart_positions n few (reads q n) (distinct_reads q d keep n) (λ c i. i)) h.sound h.all

  -- and what is in order and has them is that list
  pub only_sorted : (n : ℕ) → n ≤ (length q.query.relations) → (cs : List (List (List Value))) → Same n cs → Rises (by_position q) (position q) cs → cs ≡ in_order q (reads q n)
  only_sorted n few cs h up = sym (sort_by_sorted (by_position q) (position q) cs up) ∙ one_sorted n few cs h
