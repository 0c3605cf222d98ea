-- A stop pushed below total relations keeps the answer.
use Rattle.std.proofs.Common.{◌≡◌, Option, Some, None, ℕ, zero, suc, ◌-◌, ◌<◌, ◌≤◌, Bool, true, false, cond, not, ◌==◌, inl, inr, List, [], ◌∷◌, ◌++◌, length, get_or, map, filter, take, refl, sym, ap, ◌∙◌, subst, arith}
use Rattle.std.specs.Ordering.{is_lt, eq_by_cmp}
use Rattle.std.specs.List.{AllByRecursion, range_with_len}
use Rattle.std.specs.Cmp.{IsTotalOrder}
use Rattle.std.proofs.lemmas.Bool.{cases_lt, cases_eq, eq-eqb, ne_eqb, false_from_ne_true}
use Rattle.std.proofs.lemmas.List.{get_or_append_left}
use Rattle.std.proofs.lemmas.List.Sorted.{IsPermutation-sym}
use Rattle.pq_base.specs.declared.value.Value.{Value}
use Rattle.pq_schema.specs.declared.query.OrderItem.{OrderItem}
use Rattle.pq_schema.specs.Relations.{position_columns, key_items, key_item, is_ordered}
use Rattle.pq_schema.specs.Candidates.{stop_size}
use Rattle.pq_base.specs.Members.{In, Apart}
use Rattle.pq_plan.specs.Answer.{Question, row_of, rows_at, no_value, position, by_position, in_order, past, first_past, whole, stopped, answered}
use Rattle.pq_plan.specs.Kept.{row_cmp, cells}
use Rattle.pq_plan.specs.Meaning.{Tree, Read, DataStop, StopRead, keeps, partners, followed, read, key_of, looks_up, combo_cmp, data_stop, mean}
use Rattle.pq_plan.specs.Rewrites.{reads_tree, tree_of_reads, with_stop, placed_stops, pushed_tree}
use Rattle.pq_base.proofs.Members.{each_in, each_by_in, filter_all, filter_none, in_filter, in_take, take_twice, each_append, each_flat_map, in_range}
use Rattle.pq_base.proofs.Sorts.{IsPermutation-sort_by}
use Rattle.pq_plan.proofs.Orders.{apart_permuted, in_permuted, Rises, Rises-sort_by, Rises-take, sort_by_sorted, each_filter}
use Rattle.pq_plan.proofs.ValueOrder.{row_total, combo_total, combo_only}
use Rattle.pq_plan.proofs.Positions.{position_cmp_total}
use Rattle.pq_plan.proofs.Apart.{apart_take, apart_filter, differs}
use Rattle.pq_plan.proofs.Follow.{Follows, follow-sort_by, follow-filter, follow-take}
use Rattle.pq_plan.proofs.Laws.{Keeps, Total, Pushable}
use Rattle.pq_plan.proofs.Combos.{reads, in_followed, in_read, long, combos_are, mean_reads}
use Rattle.pq_plan.proofs.Stops.{Distinct, distinct_read, drops_nothing, limited}

module _ (q : Question) (d : ℕ → Option ℕ) (keep : Keeps q d) where
  pub by_total : IsTotalOrder (by_position q)
  by_total = position_cmp_total (map (λ (item : OrderItem). item.dir) (position_columns q.tables q.query))

  -- ---- what is read is distinct, and no DataStop drops anything
  pub distinct_reads : (i : ℕ) → Distinct q (reads q i)
  distinct_reads zero = (tt, tt)
  distinct_reads (suc i) = distinct_read q (suc i) (reads q i) (keep.keys (suc i)) (distinct_reads i)

  stops_nothing : (i : ℕ) (inputs : List (List (List Value))) → Distinct q inputs → ((c : List (List Value)) → In c inputs → length c ≡ i) → (after : Option (List Value)) (t : Tree) → mean q after t ≡ inputs → mean q after (with_stop (d (suc i)) (Read t (suc i)) (suc i)) ≡ read q (suc i) inputs
  stops_nothing i inputs apart l after t e =
      elim (d (suc i)) as (λ n. d (suc i) ≡ n → mean q after (with_stop n (Read t (suc i)) (suc i)) ≡ read q (suc i) inputs) [
        | None ↦ λ _. ap (read q (suc i)) e
        | Some n ↦ λ is. ap (λ cs. data_stop q (suc i) n (read q (suc i) cs)) e ∙ drops_nothing q i n inputs apart (each_by_in _ inputs (λ c here. (l c here, limited q i n (keep.bounds (suc i) n is) c (l c here))))
      ] refl

  pub mean_stops : (after : Option (List Value)) (i : ℕ) → mean q after (placed_stops d (reads_tree i)) ≡ reads q i
  mean_stops after zero = refl
  mean_stops after (suc i) = stops_nothing i (reads q i) (distinct_reads i) (long q i) after (placed_stops d (reads_tree i)) (mean_stops after i)

  -- ---- each row of a combination that is read is a row of its relation
  pub row_in : (n j : ℕ) → 1 ≤ j → j ≤ n → (c : List (List Value)) → In c (reads q n) → In (row_of j c) (rows_at q j)
  row_in zero j a b c h = absurd (omega arith)
  row_in (suc n) j a b c h =
      let r = in_read q (suc n) c (reads q n) h in
      let f = in_followed q (suc n) r.0 c r.2 in
      let l = long q n r.0 r.1 in
      elim (cases_eq j (suc n)) [
        | inl same ↦
            let at : get_or c (j - 1) [] ≡ f.0 = ap (λ (e : List (List Value)). get_or e (j - 1) []) (sym f.3) ∙ ap (λ (k : ℕ). get_or (r.0 ++ f.0 ∷ []) k []) (omega arith) ∙ last r.0 f.0 in
            subst (λ (w : List Value). In w (rows_at q j)) (sym at) (subst (λ (k : ℕ). In f.0 (rows_at q k)) (sym same) f.1)
        | inr other ↦
            let at : get_or c (j - 1) [] ≡ get_or r.0 (j - 1) [] = ap (λ (e : List (List Value)). get_or e (j - 1) []) (sym f.3) ∙ get_or_append_left r.0 (f.0 ∷ []) [] (j - 1) (omega arith) in
            subst (λ (w : List Value). In w (rows_at q j)) (sym at) (row_in n j a (omega arith) r.0 r.1)
      ]
    where
      last : (c : List (List Value)) (r : List Value) → get_or (c ++ r ∷ []) (length c) [] ≡ r
      last [] r = refl
      last (x ∷ c) r = last c r

  -- ---- a total relation gives one partner
  alone : (t : List Value → Bool) (i : ℕ) (r : List Value) (rows : List (List Value)) → Apart row_cmp (cells (key_of q i)) rows → In r rows → t r ≡ true → ((w : List Value) → t w ≡ true → cells (key_of q i) w ≡ cells (key_of q i) r) → filter t rows ≡ r ∷ []
  alone t i r [] h here passes same = absurd here
  alone t i r (w ∷ rows) h (inl is) passes same =
      let none : filter t rows ≡ [] = filter_none t rows (each_by_in _ rows (λ y there. false_from_ne_true (t y) (λ e. differs row_cmp row_total _ _ (each_in (λ y. eq_by_cmp row_cmp (cells (key_of q i) w) (cells (key_of q i) y) ≡ false) rows h.0 y there) (ap (cells (key_of q i)) is ∙ sym (same y e))))) in
      ap (λ b. cond b (w ∷ filter t rows) (filter t rows)) (ap t is ∙ passes) ∙ (λ j. is j ∷ none j)
  alone t i r (w ∷ rows) h (inr there) passes same =
      let off : t w ≡ false = false_from_ne_true (t w) (λ e. differs row_cmp row_total _ _ (each_in (λ y. eq_by_cmp row_cmp (cells (key_of q i) w) (cells (key_of q i) y) ≡ false) rows h.0 r there) (same w e)) in
      ap (λ b. cond b (w ∷ filter t rows) (filter t rows)) off ∙ alone t i r rows h.1 there passes same

  pub one_partner : (i : ℕ) → Total q (suc i) → (c : List (List Value)) → In c (reads q i) → (r : List Value) × (partners q (suc i) c ≡ r ∷ [])
  one_partner i t c here =
      let l = long q i c here in
      let b = t.before in
      let found = t.partner c (ap suc l) (row_in i t.earlier t.from_one (omega arith) c here) in
      let tied = keep.lookups (suc i) t.lookup in
      let at = tied.are c found.0 (ap suc l) found.2 in
      (found.0, alone (λ r. keeps q (suc i) (c ++ r ∷ [])) (suc i) found.0 (rows_at q (suc i)) (keep.keys (suc i)) found.1 found.2 (λ w e. tied.are c w (ap suc l) e ∙ sym at))

  -- ---- and leaves the position
  module _ (p k : ℕ) (can : Pushable q p) where
    abbrev Upto : OrderItem → Type 0
    Upto item = item.col.rel ≤ p

    columns_upto : AllByRecursion Upto (position_columns q.tables q.query)
    columns_upto = each_append Upto q.query.order _ can.ordered (each_flat_map Upto (key_items q.tables q.query) (range_with_len 1 (length q.query.relations)) of_one)
      where
        each : (i : ℕ) (cols : List ℕ) → i ≤ p → AllByRecursion Upto (map (key_item i) cols)
        each i [] h = tt
        each i (col ∷ cols) h = (h, each i cols h)

        of_one : (i : ℕ) → In i (range_with_len 1 (length q.query.relations)) → AllByRecursion Upto (key_items q.tables q.query i)
        of_one i here =
            let within = in_range i 1 (length q.query.relations) here in
            elim (cases_lt p i) [
              | inl above ↦ subst (λ b. AllByRecursion Upto (cond b [] (map (key_item i) (filter (λ col. not (is_ordered q.query i col)) (key_of q i))))) (sym (can.totals i above (omega (arith, within.1))).lookup) tt
              | inr below ↦ elim (looks_up q i) as (λ b. AllByRecursion Upto (cond b [] (map (key_item i) (filter (λ col. not (is_ordered q.query i col)) (key_of q i))))) [ true ↦ tt | false ↦ each i (filter (λ col. not (is_ordered q.query i col)) (key_of q i)) below ]
            ]

    same_position : (c : List (List Value)) (r : List Value) → p ≤ length c → position q (c ++ r ∷ []) ≡ position q c
    same_position c r l = each (position_columns q.tables q.query) columns_upto
      where
        each : (items : List OrderItem) → AllByRecursion Upto items → map (λ col. get_or (row_of col.rel (c ++ r ∷ [])) col.col no_value) (map (λ (item : OrderItem). item.col) items) ≡ map (λ col. get_or (row_of col.rel c) col.col no_value) (map (λ (item : OrderItem). item.col) items)
        each [] h = refl
        each (item ∷ items) h =
            let one = can.from_one in
            let upto = h.0 in
            let at : row_of item.col.rel (c ++ r ∷ []) ≡ row_of item.col.rel c = get_or_append_left c (r ∷ []) [] (item.col.rel - 1) (omega arith) in
            λ j. get_or (at j) item.col.col no_value ∷ each items h.1 j

    pub follows : (i : ℕ) → p ≤ i → suc i ≤ (length q.query.relations) → (c : List (List Value)) → In c (reads q i) → Follows (by_position q) (position q) (position q) (followed q (suc i)) c
    follows i a b c here =
        let l = long q i c here in
        let one = one_partner i (can.totals (suc i) (omega arith) b) c here in
        (c ++ one.0 ∷ [], ap (map (λ (r : List Value). c ++ r ∷ [])) one.1, same_position c one.0 (omega arith))

    -- ---- the stop, carried up
    abbrev pub stopped_at : Option (List Value) → ℕ → List (List (List Value))
    stopped_at after i = first_past q after k (in_order q (reads q i))

    pub in_ordered : (cs : List (List (List Value))) (c : List (List Value)) → In c (in_order q cs) → In c cs
    in_ordered cs c h = in_permuted (by_position q) (position q) c (in_order q cs) cs (IsPermutation-sym cs (in_order q cs) (IsPermutation-sort_by (by_position q) (position q) cs)) h

    in_past : (after : Option (List Value)) (cs : List (List (List Value))) (c : List (List Value)) → In c (past q after cs) → In c cs
    in_past None cs c h = h
    in_past (Some at) cs c h = (in_filter _ c cs h).0

    pub in_stopped : (after : Option (List Value)) (i : ℕ) (c : List (List Value)) → In c (stopped_at after i) → In c (reads q i)
    in_stopped after i c h = in_ordered (reads q i) c (in_past after (in_order q (reads q i)) c (in_take k c (past q after (in_order q (reads q i))) h))

    distinct_stopped : (after : Option (List Value)) (i : ℕ) → Distinct q (stopped_at after i)
    distinct_stopped after i =
        let R = combo_cmp in
        let sorted : Distinct q (in_order q (reads q i)) = apart_permuted R (λ (c : List (List Value)). c) combo_total combo_only (reads q i) (in_order q (reads q i)) (IsPermutation-sort_by (by_position q) (position q) (reads q i)) (distinct_reads i) in
        apart_take R (λ (c : List (List Value)). c) k (past q after (in_order q (reads q i))) (of_past after sorted)
      where
        of_past : (after : Option (List Value)) → Distinct q (in_order q (reads q i)) → Distinct q (past q after (in_order q (reads q i)))
        of_past None h = h
        of_past (Some at) h = apart_filter combo_cmp (λ (c : List (List Value)). c) (λ c. is_lt (by_position q at (position q c))) (in_order q (reads q i)) h

    -- the third law, at one total relation
    pub carried : (after : Option (List Value)) (i : ℕ) → p ≤ i → suc i ≤ (length q.query.relations) → read q (suc i) (stopped_at after i) ≡ stopped_at after (suc i)
    carried after i a b =
        let each : AllByRecursion (Follows (by_position q) (position q) (position q) (followed q (suc i))) (in_order q (reads q i)) = each_by_in _ (in_order q (reads q i)) (λ c h. follows i a b c (in_ordered (reads q i) c h)) in
        let each_past : AllByRecursion (Follows (by_position q) (position q) (position q) (followed q (suc i))) (past q after (in_order q (reads q i))) = each_by_in _ (past q after (in_order q (reads q i))) (λ c h. follows i a b c (in_ordered (reads q i) c (in_past after (in_order q (reads q i)) c h))) in
        sym (follow-take (by_position q) (position q) (position q) (followed q (suc i)) k (past q after (in_order q (reads q i))) each_past)
        ∙ ap (take k) (passed after each ∙ ap (past q after) (sym (follow-sort_by (by_position q) (position q) (position q) (followed q (suc i)) (reads q i) (each_by_in _ (reads q i) (follows i a b)))))
      where
        passed : (after : Option (List Value)) → AllByRecursion (Follows (by_position q) (position q) (position q) (followed q (suc i))) (in_order q (reads q i)) → read q (suc i) (past q after (in_order q (reads q i))) ≡ past q after (read q (suc i) (in_order q (reads q i)))
        passed None each = refl
        passed (Some at) each = sym (follow-filter (by_position q) (position q) (position q) (followed q (suc i)) (λ (w : List Value). is_lt (by_position q at w)) (in_order q (reads q i)) each)

    -- below p the tree is as it was
    pub below : (i : ℕ) → i < p → pushed_tree p k (placed_stops d (reads_tree i)) ≡ placed_stops d (reads_tree i)
    below zero h = refl
    below (suc i) h =
        let other : (suc i == p) ≡ false = ne_eqb (suc i) p (λ e. absurd (omega arith)) in
        elim (d (suc i)) as (λ n. pushed_tree p k (with_stop n (Read (placed_stops d (reads_tree i)) (suc i)) (suc i)) ≡ with_stop n (Read (placed_stops d (reads_tree i)) (suc i)) (suc i)) [
          | None ↦ here i other (below i (omega arith))
          | Some n ↦ ap (λ b. cond b (pushed_tree p k (Read (placed_stops d (reads_tree i)) (suc i))) (DataStop (pushed_tree p k (Read (placed_stops d (reads_tree i)) (suc i))) (suc i) n)) other ∙ ap (λ t. DataStop t (suc i) n) (here i other (below i (omega arith)))
        ]
      where
        here : (i : ℕ) → (suc i == p) ≡ false → pushed_tree p k (placed_stops d (reads_tree i)) ≡ placed_stops d (reads_tree i) → pushed_tree p k (Read (placed_stops d (reads_tree i)) (suc i)) ≡ Read (placed_stops d (reads_tree i)) (suc i)
        here i other e = ap (λ b. cond b (StopRead (placed_stops d (reads_tree i)) (suc i) k) (Read (pushed_tree p k (placed_stops d (reads_tree i))) (suc i))) other ∙ ap (λ t. Read t (suc i)) e

    -- from p on it means what was stopped
    pub above : (after : Option (List Value)) (i : ℕ) → p ≤ i → i ≤ (length q.query.relations) → mean q after (pushed_tree p k (placed_stops d (reads_tree i))) ≡ stopped_at after i
    above after zero a b = let one = can.from_one in absurd (omega arith)
    above after (suc i) a b =
        let T = placed_stops d (reads_tree i) in
        elim (cases_eq (suc i) p) [
          | inl same ↦
              let is : (suc i == p) ≡ true = eq-eqb (suc i) p same in
              let top : pushed_tree p k (Read T (suc i)) ≡ StopRead T (suc i) k = ap (λ b. cond b (StopRead T (suc i) k) (Read (pushed_tree p k T) (suc i))) is in
              ap (mean q after) (elim (d (suc i)) as (λ n. pushed_tree p k (with_stop n (Read T (suc i)) (suc i)) ≡ StopRead T (suc i) k) [
                | None ↦ top
                | Some n ↦ ap (λ b. cond b (pushed_tree p k (Read T (suc i))) (DataStop (pushed_tree p k (Read T (suc i))) (suc i) n)) is ∙ top
              ])
              ∙ ap (λ cs. first_past q after k (in_order q (read q (suc i) cs))) (mean_stops after i)
          | inr differ ↦
              let other : (suc i == p) ≡ false = ne_eqb (suc i) p differ in
              let top : pushed_tree p k (Read T (suc i)) ≡ Read (pushed_tree p k T) (suc i) = ap (λ b. cond b (StopRead T (suc i) k) (Read (pushed_tree p k T) (suc i))) other in
              let ne : p ≤ i = not_equal i a differ in
              ap (mean q after) (elim (d (suc i)) as (λ n. pushed_tree p k (with_stop n (Read T (suc i)) (suc i)) ≡ with_stop n (Read (pushed_tree p k T) (suc i)) (suc i)) [
                | None ↦ top
                | Some n ↦ ap (λ b. cond b (pushed_tree p k (Read T (suc i))) (DataStop (pushed_tree p k (Read T (suc i))) (suc i) n)) other ∙ ap (λ t. DataStop t (suc i) n) top
              ])
              ∙ stops_nothing i (stopped_at after i) (distinct_stopped after i) (λ c h. long q i c (in_stopped after i c h)) after (pushed_tree p k T) (above after i ne (omega arith))
              ∙ carried after i ne b
        ]
      where
        not_equal : (i : ℕ) → p ≤ suc i → (suc i ≡ p → ⊥) → p ≤ i
        not_equal i a n = elim (cases_lt i p) [ inl l ↦ absurd (n (omega arith)) | inr h ↦ h ]

    -- the top of the tree: what is in order and cut stays so
    pub again : (after : Option (List Value)) (cs : List (List (List Value))) → first_past q after k (in_order q (first_past q after k (in_order q cs))) ≡ first_past q after k (in_order q cs)
    again after cs =
        let R = by_position q in
        let P = position q in
        ap (first_past q after k) (sort_by_sorted R P (first_past q after k (in_order q cs)) (Rises-take R P k (past q after (in_order q cs)) (rises after (in_order q cs) (Rises-sort_by R P by_total cs))))
        ∙ twice after (in_order q cs)
      where
        rises : (after : Option (List Value)) (cs : List (List (List Value))) → Rises (by_position q) (position q) cs → Rises (by_position q) (position q) (past q after cs)
        rises None cs h = h
        rises (Some at) [] h = tt
        rises (Some at) (c ∷ cs) h = elim (is_lt (by_position q at (position q c))) as (λ b. Rises (by_position q) (position q) (cond b (c ∷ past q (Some at) cs) (past q (Some at) cs))) [
          | true ↦ (each_filter (by_position q) (position q) _ (λ c. is_lt (by_position q at (position q c))) cs h.0, rises (Some at) cs h.1)
          | false ↦ rises (Some at) cs h.1
        ]

        twice : (after : Option (List Value)) (cs : List (List (List Value))) → first_past q after k (first_past q after k cs) ≡ first_past q after k cs
        twice None cs = take_twice k cs
        twice (Some at) cs = ap (take k) (filter_all _ (take k (past q (Some at) cs)) (each_by_in _ (take k (past q (Some at) cs)) (λ c h. (in_filter (λ c. is_lt (by_position q at (position q c))) c cs (in_take k c (past q (Some at) cs) h)).1))) ∙ take_twice k (past q (Some at) cs)

    -- the push-down theorem
    pub push_keeps : stop_size q.query.stop ≡ Some k → (after : Option (List Value)) → mean q after (pushed_tree p k (placed_stops d (tree_of_reads (length q.query.relations) (stop_size q.query.stop)))) ≡ answered q after
    push_keeps stop after =
        ap (λ (s : Option ℕ). mean q after (pushed_tree p k (placed_stops d (tree_of_reads (length q.query.relations) s)))) stop
        ∙ ap (λ cs. first_past q after k (in_order q cs)) (above after (length q.query.relations) can.within (omega arith))
        ∙ again after (reads q (length q.query.relations))
        ∙ ap (λ cs. first_past q after k (in_order q cs)) (sym (combos_are q keep.predicates))
        ∙ sym (ap (λ (s : Option ℕ). stopped q s after (whole q)) stop)

  -- ---- the trees before
  pub build_keeps : (after : Option (List Value)) → mean q after (tree_of_reads (length q.query.relations) (stop_size q.query.stop)) ≡ answered q after
  build_keeps after =
      let all = mean_reads q after (length q.query.relations) ∙ sym (combos_are q keep.predicates) in
      elim (stop_size q.query.stop) as (λ s. mean q after (tree_of_reads (length q.query.relations) s) ≡ stopped q s after (whole q)) [
        | None ↦ ap (in_order q) all
        | Some j ↦ ap (λ cs. first_past q after j (in_order q cs)) all
      ]

  pub place_keeps : (after : Option (List Value)) → mean q after (placed_stops d (tree_of_reads (length q.query.relations) (stop_size q.query.stop))) ≡ answered q after
  place_keeps after =
      let all = mean_stops after (length q.query.relations) ∙ sym (combos_are q keep.predicates) in
      elim (stop_size q.query.stop) as (λ s. mean q after (placed_stops d (tree_of_reads (length q.query.relations) s)) ≡ stopped q s after (whole q)) [
        | None ↦ ap (in_order q) all
        | Some j ↦ ap (λ cs. first_past q after j (in_order q cs)) all
      ]
