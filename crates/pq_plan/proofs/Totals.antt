-- A relation that the test of columns finds total is total, and so the trees of a query mean its answer.
use Rattle.std.proofs.Common.{◌≡◌, T, Option, Some, ℕ, zero, suc, ◌+◌, ◌-◌, ◌<◌, ◌≤◌, Bool, true, false, not, ◌&&◌, ◌||◌, ◌==◌, nat_le, inl, inr, List, [], ◌∷◌, ◌++◌, length, get_or, filter, zip, slice_get, refl, sym, ap, ◌∙◌, subst, arith}
use Rattle.std.specs.List.{list_all, range_with_len}
use Rattle.std.proofs.lemmas.Bool.{and_parts, and_from, eqb-true, lt-ltb, leb-true, false≢true}
use Rattle.std.proofs.lemmas.List.{length-map}
use Rattle.pq_base.specs.declared.value.Value.{Value}
use Rattle.pq_base.specs.Order.{value_cmp}
use Rattle.pq_base.specs.declared.value.ColType.{ColType}
use Rattle.pq_base.specs.declared.value.ColType.TheVariants as type
use Rattle.pq_base.specs.declared.value.Value.TheVariants as value
use Rattle.pq_base.specs.Values.{FitsType, AllFit, is_null, has_null, is_nullable}
use Rattle.pq_schema.specs.Rows.{types_of}
use Rattle.pq_schema.specs.declared.table.Table.{Table}
use Rattle.pq_schema.specs.declared.table.Column.{Column}
use Rattle.pq_schema.specs.declared.table.Foreign.{Foreign}
use Rattle.pq_schema.specs.declared.query.ColRef.{ColRef}
use Rattle.pq_schema.specs.declared.query.Operand.{Operand}
use Rattle.pq_schema.specs.declared.query.Operand.TheVariants as operand
use Rattle.pq_schema.specs.declared.query.Pred.{Pred}
use Rattle.pq_schema.specs.declared.query.OrderItem.{OrderItem}
use Rattle.pq_schema.specs.declared.query.Query.{Query}
use Rattle.pq_schema.specs.Sound.{IsQuery, IsForeign}
use Rattle.pq_schema.specs.Tables.{table_at, type_at, have_no_null}
use Rattle.pq_schema.specs.Relations.{relation_at, table_of, belongs_to, is_column, is_before, ties, spells, is_spelt, spells_one, is_whole, is_tied, is_total}
use Rattle.pq_schema.specs.Candidates.{bound_at, can_stop_at, stop_size}
use Rattle.pq_base.specs.Members.{In}
use Rattle.pq_base.specs.Comparing.{compares}
use Rattle.pq_plan.specs.Answer.{Question, rows_of, row_of, rows_at, cell, side, holds, no_value, answered}
use Rattle.pq_plan.specs.Kept.{cells, IsNumber, KeepsSchema}
use Rattle.pq_plan.specs.Meaning.{keeps, mean}
use Rattle.pq_plan.specs.Rewrites.{tree_of_reads, placed_stops, pushed_tree}
use Rattle.pq_base.proofs.Members.{each_by_in, in_filter, map_in, all_at, all_from, any_at, filter_in, all_member, get_at, in_range, range_in}
use Rattle.pq_base.proofs.Sets.{members_within}
use Rattle.pq_base.proofs.TypeFits.{length_from_fits}
use Rattle.pq_plan.proofs.ValueOrder.{value_cmp_total}
use Rattle.pq_plan.proofs.Apart.{same_test}
use Rattle.pq_plan.proofs.Kept.{row_fits, parent_kept}
use Rattle.pq_plan.proofs.Laws.{Total, Pushable}
use Rattle.pq_plan.proofs.Fixed.{equality, equal_holds, last, earlier_row}
use Rattle.pq_plan.proofs.Bounds.{asked, number_at, linked, fixed_columns, keeps_over}
use Rattle.pq_plan.proofs.Pushing.{build_keeps, place_keeps, push_keeps}

zip_right : (xs ys : List ℕ) → length xs ≡ length ys → (k : ℕ) → In k ys → (a : ℕ) × In (a, k) (zip xs ys)
zip_right [] [] l k i = absurd i
zip_right [] (y ∷ ys) l k i = absurd (omega arith)
zip_right (x ∷ xs) [] l k i = absurd i
zip_right (x ∷ xs) (y ∷ ys) l k (inl e) = (x, inl (λ i. (x, e i)))
zip_right (x ∷ xs) (y ∷ ys) l k (inr i) = let r = zip_right xs ys (omega arith) k i in (r.0, inr r.1)

zip_in : (xs ys : List ℕ) (e : ℕ × ℕ) → In e (zip xs ys) → In e.0 xs × In e.1 ys
zip_in [] ys e i = absurd i
zip_in (x ∷ xs) [] e i = absurd i
zip_in (x ∷ xs) (y ∷ ys) e (inl s) = (inl (ap (λ (p : ℕ × ℕ). p.0) s), inl (ap (λ (p : ℕ × ℕ). p.1) s))
zip_in (x ∷ xs) (y ∷ ys) e (inr i) = let h = zip_in xs ys e i in (inr h.0, inr h.1)

-- equal values at the columns of two keys are equal at each pair
same_each : (xs ys : List ℕ) (r w : List Value) → cells ys r ≡ cells xs w → (e : ℕ × ℕ) → In e (zip xs ys) → get_or r e.1 no_value ≡ get_or w e.0 no_value
same_each [] ys r w h e i = absurd i
same_each (x ∷ xs) [] r w h e i = absurd i
same_each (x ∷ xs) (y ∷ ys) r w h e (inl s) = let first : get_or r y no_value ≡ get_or w x no_value = cc in ap (λ (p : ℕ × ℕ). get_or r p.1 no_value) (sym s) ∙ first ∙ ap (λ (p : ℕ × ℕ). get_or w p.0 no_value) s
same_each (x ∷ xs) (y ∷ ys) r w h e (inr i) = let rest : cells ys r ≡ cells xs w = cc in same_each xs ys r w rest e i

column_is : (o : Operand) (rel col : ℕ) → is_column o rel col ≡ true → (at : ColRef) × (o ≡ operand.Col at) × (at.rel ≡ rel) × (at.col ≡ col)
column_is (operand.Const v) rel col h = absurd (false≢true h)
column_is (operand.Param n) rel col h = absurd (false≢true h)
column_is (operand.Col at) rel col h = let both = and_parts _ _ h in (at, refl, eqb-true _ _ both.0, eqb-true _ _ both.1)

not_true : (b : Bool) → not b ≡ true → b ≡ false
not_true true h = absurd (false≢true h)
not_true false h = refl

-- a value that fits a type that isn't nullable isn't NULL
admitted : (t : ColType) (x : Value) → FitsType t x → is_nullable t ≡ false → is_null x ≡ false
admitted t value.Null h plain = absurd (subst T plain h.1)
admitted t (value.Int n) h plain = refl
admitted t (value.Bool b) h plain = refl
admitted t (value.Text s) h plain = refl

not_null : (ts : List ColType) (row : List Value) (k : ℕ) → AllFit ts row → is_nullable (get_or ts k type.Bool) ≡ false → is_null (get_or row k no_value) ≡ false
not_null [] [] k h plain = refl
not_null [] (x ∷ xs) k h plain = absurd h
not_null (t ∷ ts) [] k h plain = absurd h
not_null (t ∷ ts) (x ∷ xs) zero h plain = admitted t x h.0 plain
not_null (t ∷ ts) (x ∷ xs) (suc k) h plain = not_null ts xs k h.1 plain

one_of_two : (a b : Bool) → a ≡ true → (not a || b) ≡ true → b ≡ true
one_of_two true b e h = h
one_of_two false b e h = absurd (false≢true e)

module _ (tables : List Table) (query : Query) (rows : List (ℕ × List Value)) (params : List Value) (sound : IsQuery tables query) (kept : KeepsSchema tables rows) where
  abbrev q : Question
  q = asked tables query rows params sound kept

  abbrev number : (i : ℕ) → 1 ≤ i → i ≤ length query.relations → IsNumber tables (relation_at query i).table
  number = number_at tables query rows params sound kept

  -- the foreign key of relation j is spelt whole at relation i, and nothing else belongs to i
  module _ (i j : ℕ) (low : 1 ≤ j) (before : j < i) (within : i ≤ length query.relations) (f : Foreign) (here : In f (table_of tables query j).foreign) (same_table : f.table ≡ (relation_at query i).table) (plain : have_no_null (table_of tables query j).columns f.cols ≡ true) (whole : is_whole query i j (zip f.cols (table_of tables query i).key) ≡ true) where
    abbrev pairs : List (ℕ × ℕ)
    pairs = zip f.cols (table_of tables query i).key

    own : IsNumber tables (relation_at query i).table
    own = number i (omega arith) within

    other : IsNumber tables (relation_at query j).table
    other = number j low (omega arith)

    foreign : IsForeign tables (table_of tables query j) f
    foreign = all_member (IsForeign tables (table_of tables query j)) (table_of tables query j).foreign (linked tables query rows params sound kept (relation_at query j).table other).foreign f here

    long : length f.cols ≡ length (table_of tables query i).key
    long = foreign.long ∙ ap (λ (n : ℕ). length (table_at tables n).key) same_table

    each_spelt : list_all (is_spelt query i j) pairs ≡ true
    each_spelt = (and_parts _ _ whole).0

    only_these : list_all (spells_one i j pairs) query.preds ≡ true
    only_these = (and_parts _ _ whole).1

    -- each key column is fixed
    covered : (k : ℕ) → In k (table_of tables query i).key → In k (fixed_columns tables query rows params sound kept i)
    covered k inside =
        let pair = zip_right f.cols (table_of tables query i).key long k inside in
        let any = any_at (λ p. spells i j p (pair.0, k)) query.preds (all_at (is_spelt query i j) pairs each_spelt (pair.0, k) pair.1) in
        let p = any.0 in
        let c = and_parts _ _ any.2 in
        let b = and_parts _ _ c.0 in
        let right = column_is p.right j pair.0 c.1 in
        let early : right.0.rel < i = omega (arith, right.2) in
        let tied : is_before i p.right ≡ true = ap (is_before i) right.1 ∙ lt-ltb right.0.rel i early in
        subst (λ (n : ℕ). In n (fixed_columns tables query rows params sound kept i)) (eqb-true _ _ b.1)
        (map_in (λ (p : Pred). p.left.col) p (filter (ties i) query.preds) (filter_in (ties i) p query.preds any.1 (and_from _ _ b.0 tied)))

    -- a row of relation j has no NULL in the foreign key
    plain_at : (c : List (List Value)) → In (row_of j c) (rows_at q j) → (k : ℕ) → In k f.cols → is_null (get_or (row_of j c) k no_value) ≡ false
    plain_at c inside k among =
        not_null (types_of (table_of tables query j)) (row_of j c) k (row_fits tables rows kept (relation_at query j).table (row_of j c) inside)
        (not_true (is_nullable (type_at (table_of tables query j).columns k)) (all_at (λ col. not (is_nullable (type_at (table_of tables query j).columns col))) f.cols plain k among))

    no_null : (c : List (List Value)) → In (row_of j c) (rows_at q j) → (cols : List ℕ) → ((k : ℕ) → In k cols → In k f.cols) → has_null (cells cols (row_of j c)) ≡ false
    no_null c inside [] h = refl
    no_null c inside (k ∷ ks) h = ap (λ b. b || has_null (cells ks (row_of j c))) (plain_at c inside k (h k (inl refl))) ∙ no_null c inside ks (λ n there. h n (inr there))

    -- a row that has the values at the key passes
    passes : (c : List (List Value)) → suc (length c) ≡ i → In (row_of j c) (rows_at q j) → (r : List Value) → In r (rows_at q i) → cells (table_of tables query i).key r ≡ cells f.cols (row_of j c) → keeps q i (c ++ r ∷ []) ≡ true
    passes c l inside r at same = all_from (holds params (c ++ r ∷ [])) (filter (λ p. belongs_to p == i) query.preds) (λ p member.
        let of = in_filter (λ p. belongs_to p == i) p query.preds member in
        let any = any_at (spells i j p) pairs (one_of_two _ _ of.1 (all_at (spells_one i j pairs) query.preds only_these p of.0)) in
        let e = any.0 in
        let d = and_parts _ _ any.2 in
        let b = and_parts _ _ d.0 in
        let a = and_parts _ _ b.0 in
        let right = column_is p.right j e.0 d.1 in
        let among = zip_in f.cols (table_of tables query i).key e any.1 in
        let row_long : length r ≡ length (table_of tables query i).columns = length_from_fits _ r (row_fits tables rows kept (relation_at query i).table r at) ∙ length-map (table_of tables query i).columns (λ (column : Column). column.ty) in
        let other_long : length (row_of j c) ≡ length (table_of tables query j).columns = length_from_fits _ (row_of j c) (row_fits tables rows kept (relation_at query j).table (row_of j c) inside) ∙ length-map (table_of tables query j).columns (λ (column : Column). column.ty) in
        let short : e.1 < length (table_of tables query i).columns = all_member (λ col. col < length (table_of tables query i).columns) (table_of tables query i).key (linked tables query rows params sound kept (relation_at query i).table own).key e.1 among.1 in
        let other_short : e.0 < length (table_of tables query j).columns = all_member (λ col. col < length (table_of tables query j).columns) f.cols foreign.inside e.0 among.0 in
        let left_is : cell (c ++ r ∷ []) p.left ≡ Some (get_or r e.1 no_value) =
        (λ x. slice_get (row_of (eqb-true _ _ a.1 x) (c ++ r ∷ [])) (eqb-true _ _ b.1 x))
        ∙ ap (λ (row : List Value). slice_get row e.1) (last c r i l) ∙ get_at r e.1 no_value (omega arith) in
        let right_is : side params (c ++ r ∷ []) p.right ≡ Some (get_or (row_of j c) e.0 no_value) =
        ap (side params (c ++ r ∷ [])) right.1
        ∙ (λ x. slice_get (row_of (right.2 x) (c ++ r ∷ [])) (right.3 x))
        ∙ ap (λ (row : List Value). slice_get row e.0) (earlier_row c (r ∷ []) j low (omega arith)) ∙ get_at (row_of j c) e.0 no_value (omega arith) in
        let equal = same_each f.cols (table_of tables query i).key r (row_of j c) same e any.1 in
        (λ x. compares (equality p.op a.0 x) (left_is x) (right_is x))
        ∙ equal_holds (get_or r e.1 no_value) (get_or (row_of j c) e.0 no_value) (plain_at c inside e.0 among.0) (same_test value_cmp value_cmp_total (get_or r e.1 no_value) (get_or (row_of j c) e.0 no_value) equal) equal)

    spelt_total : Total q i
    spelt_total = record {
      lookup = members_within (table_of tables query i).key (fixed_columns tables query rows params sound kept i) covered;
      earlier = j;
      from_one = low;
      before = before;
      partner = λ c l inside.
          let found = parent_kept tables rows kept (relation_at query j).table f here (row_of j c) inside (no_null c inside f.cols (λ k there. there)) in
          let at : In found.0 (rows_at q i) = subst (λ (n : ℕ). In found.0 (rows_of n rows)) same_table found.1 in
          let same : cells (table_of tables query i).key found.0 ≡ cells f.cols (row_of j c) = ap (λ (n : ℕ). cells (table_at tables n).key found.0) (sym same_table) ∙ found.2 in
          (found.0, at, passes c l inside found.0 at same);
    }

  pub total : (i : ℕ) → i ≤ length query.relations → is_total tables query i ≡ true → Total q i
  total i within h =
      let a = any_at (is_tied tables query i) (range_with_len 1 (i - 1)) h in
      let between = in_range a.0 1 (i - 1) a.1 in
      let b = any_at (λ (foreign : Foreign). ((foreign.table == (relation_at query i).table) && have_no_null (table_of tables query a.0).columns foreign.cols) && is_whole query i a.0 (zip foreign.cols (table_of tables query i).key)) (table_of tables query a.0).foreign a.2 in
      let both = and_parts _ _ b.2 in
      let front = and_parts _ _ both.0 in
      spelt_total i a.0 between.0 (omega (arith, between.0, between.1)) within b.0 b.1 (eqb-true _ _ front.0) front.1 both.1

  -- ---- the trees
  pub built_answers : (after : Option (List Value)) → mean q after (tree_of_reads (length query.relations) (stop_size query.stop)) ≡ answered q after
  built_answers after = build_keeps q (bound_at tables query) (keeps_over tables query rows params sound kept) after

  pub placed_answers : (after : Option (List Value)) → mean q after (placed_stops (bound_at tables query) (tree_of_reads (length query.relations) (stop_size query.stop))) ≡ answered q after
  placed_answers after = place_keeps q (bound_at tables query) (keeps_over tables query rows params sound kept) after

  pub pushable : (p : ℕ) → 1 ≤ p → p ≤ length query.relations → can_stop_at tables query p ≡ true → Pushable q p
  pushable p low high can =
      let e = and_parts _ _ can in
      let d = and_parts _ _ e.0 in
      let c = and_parts _ _ d.0 in
      record {
        from_one = low;
        within = high;
        ordered = each_by_in _ query.order (λ item here. leb-true _ _ (all_at (λ (item : OrderItem). nat_le item.col.rel p) query.order c.1 item here));
        totals = λ i above inside. total i inside (all_at (is_total tables query) (range_with_len (p + 1) (length query.relations - p)) e.1 i (range_in i (p + 1) (length query.relations - p) (omega arith) (omega arith)));
      }

  pub pushed_answers : (p k : ℕ) → stop_size query.stop ≡ Some k → 1 ≤ p → p ≤ length query.relations → can_stop_at tables query p ≡ true → (after : Option (List Value)) → mean q after (pushed_tree p k (placed_stops (bound_at tables query) (tree_of_reads (length query.relations) (stop_size query.stop)))) ≡ answered q after
  pushed_answers p k stop low high can after = push_keeps q (bound_at tables query) (keeps_over tables query rows params sound kept) p k (pushable p low high can) stop after
