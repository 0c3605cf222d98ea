-- What a build makes of a content that stands for rows and definitions.
use Rattle.std.proofs.Common.{◌≡◌, ℕ, zero, suc, ◌+◌, ◌-◌, ◌≤◌, true, false, cond, ◌==◌, List, [], ◌∷◌, ◌++◌, length, map, take, Contains, Option, Some, None, All, refl, sym, ap, ◌∙◌, subst, arith, ◌⊎◌, inl, inr}
use Rattle.std.specs.Prelude.{slice_get}
use Rattle.std.specs.List.{AllByRecursion}
use Rattle.std.specs.Ordering.{eq_by_cmp}
use Rattle.std.specs.Cmp.Lexicographic.{nat_list_cmp_total}
use Rattle.std.specs.FinMap.{get, insert, get-insert}
use Rattle.std.proofs.lemmas.Bool.{eqb-true, eq-eqb, false≢true}
use Rattle.std.proofs.lemmas.List.{length-map, take-map, take_all, get_or-set_same}
use Rattle.pq_base.specs.declared.value.ColType.{ColType}
use Rattle.pq_base.specs.declared.value.Value.{Value}
use Rattle.pq_base.specs.Order.{position_cmp}
use Rattle.pq_base.specs.Shapes.{RowShape, row_shape}
use Rattle.pq_base.specs.Values.{IsType, AllFit}
use Rattle.pq_row_code.specs.StoredRow.{code_as}
use Rattle.pq_row_code.proofs.Stored.{code_as_injective}
use Rattle.pq_schema.specs.declared.table.Table.{Table}
use Rattle.pq_schema.specs.Sequences.{primary_sequence, index_sequence}
use Rattle.pq_schema.specs.Tables.{table_at, no_table}
use Rattle.pq_store.specs.Content.{key_cmp, Content}
use Rattle.pq_content.specs.Pairs.{Pair, AreBeside, is_in_space, row_pair, entry_pair, content_pairs}
use Rattle.pq_base.specs.Sorting.{sort_by}
use Rattle.pq_content.specs.Standing.{IsFilledPartOf, is_entry_of}
use Rattle.pq_schema.specs.Schema.{with_new_index, with_wanted}
use Rattle.pq_content.specs.Tables.{Rows, rows_of, types_of, shape_of, values_of, dirs_of, Keeps, stored_code}
use Rattle.pq_content.proofs.Building.{keeps-index, none_filled, get_entry, part_written, all_filled, part_range}
use Rattle.pq_content.proofs.Changes.{same_content}
use Rattle.pq_content.proofs.Keys.{key_itself}
use Rattle.pq_base.specs.Members.{In}
use Rattle.pq_base.proofs.Members.{keep_all, in_from_contains, each_in, each_by_in}
use Rattle.pq_content.proofs.Others.{insert_other, get_other}
use Rattle.std.proofs.lemmas.List.Sorted.{IsPermutation-sym}
use Rattle.pq_content.proofs.Permuted.{in_permuted}
use Rattle.pq_base.proofs.Sorts.{IsPermutation-sort_by, each-sort_by, length-sort_by}
use Rattle.pq_content.proofs.Ranges.{in_range}
use Rattle.pq_content.proofs.Scans.{rows_under}
use Rattle.pq_content.proofs.TableRows.{AreRows, rows_are}
use Rattle.pq_store.specs.declared.damage.Damage.{Damage}
use Rattle.pq_builds.specs.declared.target.NewQuery.{NewQuery}
use Rattle.pq_builds.specs.declared.target.Target.{Target}
use Rattle.pq_builds.specs.Filling.{target_shape, entry_at, entered_rows, first_key, past_key, row_pairs_in, AreDecoded, Enters, EntersSome, IsNoRowAmong}
use Rattle.pq_builds.specs.Stages.{ready_value, building_value, marked_content, IsReady, StopsFilling}
use Rattle.pq_builds.proofs.Ranges.{range_space, range_insert, no_row_key}
use Rattle.pq_builds.specs.Standing.{Origin, new_index_of, IsTarget, IsNewIn, rows_in, before, whole_content, FillsIndex, IsMarkedOrReady}

-- ---- rows by their codes

pub by_codes : (shape : RowShape) (xs ys : List (List Value)) → All IsType shape.types → AllByRecursion (AllFit shape.types) xs → AllByRecursion (AllFit shape.types) ys → map (code_as shape) xs ≡ map (code_as shape) ys → xs ≡ ys
by_codes shape [] [] sound f g e = refl
by_codes shape [] (y ∷ ys) sound f g e = cc
by_codes shape (x ∷ xs) [] sound f g e = cc
by_codes shape (x ∷ xs) (y ∷ ys) sound f g e =
    let head : code_as shape x ≡ code_as shape y = cc in
    let rest : map (code_as shape) xs ≡ map (code_as shape) ys = cc in
    λ i. code_as_injective shape x y sound f.0 g.0 head i ∷ by_codes shape xs ys sound f.1 g.1 rest i

pub each_fits : (table : Table) (rows : List (List Value)) → AreRows table rows → AllByRecursion (AllFit (types_of table)) rows
each_fits table [] h = tt
each_fits table (row ∷ rows) h = (h.0, each_fits table rows h.2)

each_take : {X : Type 0} (P : X → Type 0) (n : ℕ) (xs : List X) → AllByRecursion P xs → AllByRecursion P (take n xs)
each_take P zero xs h = tt
each_take P (suc n) [] h = tt
each_take P (suc n) (x ∷ xs) h = (h.0, each_take P n xs h.1)

-- a row of a table is among all rows
in_rows_of : (t : ℕ) (rows : Rows) (row : List Value) → In row (rows_of t rows) → In (t, row) rows
in_rows_of t [] row h = h
in_rows_of t (e ∷ es) row h =
    elim (e.0 == t) as (λ b. (e.0 == t) ≡ b → In row (cond b (e.1 ∷ rows_of t es) (rows_of t es)) → (e ≡ (t, row)) ⊎ In (t, row) es) [
      | true ↦ λ is h. elim h [
        | inl same ↦ inl (λ i. (eqb-true e.0 t is i, same i))
        | inr r ↦ inr (in_rows_of t es row r)
      ]
      | false ↦ λ _ h. inr (in_rows_of t es row h)
    ] refl h

of_rows_in : (t : ℕ) (rows : Rows) (row : List Value) → In (t, row) rows → In row (rows_of t rows)
of_rows_in t [] row h = h
of_rows_in t (e ∷ es) row h =
    elim (e.0 == t) as (λ b. (e.0 == t) ≡ b → (e ≡ (t, row)) ⊎ In (t, row) es → In row (cond b (e.1 ∷ rows_of t es) (rows_of t es))) [
      | true ↦ λ is h. elim h [
        | inl same ↦ inl (ap (λ (x : ℕ × List Value). x.1) same)
        | inr r ↦ inr (of_rows_in t es row r)
      ]
      | false ↦ λ apart h. elim h [
        | inl same ↦ absurd (not_equal e.0 t apart (ap (λ (x : ℕ × List Value). x.0) same))
        | inr r ↦ of_rows_in t es row r
      ]
    ] refl h
  where
    not_equal : (a b : ℕ) → (a == b) ≡ false → a ≡ b → ⊥
    not_equal a b apart same = false≢true (sym apart ∙ eq-eqb a b same)

-- a pair of one value, and then of another
pub written_over : (c : Content) (k v u : List ℕ) → insert (insert c k v) k u ≡ insert c k u
written_over c k v u = same_content _ _ (λ q.
    get-insert nat_list_cmp_total (insert c k v) k u q
    ∙ ap (cond (eq_by_cmp key_cmp q k) (Some u)) (get-insert nat_list_cmp_total c k v q)
    ∙ elim (eq_by_cmp key_cmp q k) as (λ b. cond b (Some u) (cond b (Some v) (get c q)) ≡ cond b (Some u) (get c q)) [ true ↦ refl | false ↦ refl ]
    ∙ sym (get-insert nat_list_cmp_total c k u q))

-- ---- the content with the index

module _ (origin : Origin) (target : Target) (query : NewQuery) (s : IsNewIn origin query) (w : IsTarget origin target) where
  abbrev more : List Table
  more = with_wanted origin.tables (Some (new_index_of origin target))

  abbrev table : Table
  table = table_at origin.tables target.table

  own_table : table_at more target.table ≡ with_new_index table origin.index
  own_table = get_or-set_same origin.tables (target.table - 1) (with_new_index table origin.index) no_table (let low = w.number.0 in let high = w.number.1 in omega arith)

  pub more_keeps : Keeps more origin.rows
  more_keeps = keeps-index origin.tables origin.rows target.table origin.index w.number s.keeps

  pub beside_more : (value : List ℕ) → AreBeside (origin.others ++ (query.key, value) ∷ [])
  beside_more value = behind origin.others s.beside
    where
      behind : (others : List Pair) → AreBeside others → AreBeside (others ++ (query.key, value) ∷ [])
      behind [] h = (s.key, tt)
      behind (e ∷ es) h = (h.0, behind es h.1)

  -- ---- the rows of the table, in the order of their keys

  abbrev sorted : List (List Value)
  sorted = sort_by (position_cmp (dirs_of (primary_sequence (table_at more target.table)))) (values_of (primary_sequence (table_at more target.table))) (rows_of target.table origin.rows)

  abbrev pair_of : List Value → Pair
  pair_of = row_pair target.table (table_at more target.table)

  whole_rows : (value : List ℕ) → row_pairs_in target.table (whole_content origin target query value) ≡ map pair_of sorted
  whole_rows value =
      rows_under more origin.rows (origin.others ++ (query.key, value) ∷ []) more_keeps.fit more_keeps.apart (beside_more value) target.table [] tt (omega arith)
      ∙ ap (λ (l : List (List Value)). map pair_of (sort_by (position_cmp (dirs_of (primary_sequence (table_at more target.table)))) (values_of (primary_sequence (table_at more target.table))) l)) (keep_all (rows_of target.table origin.rows))

  -- rows are no entries
  rows_safe : (q : List ℕ) → in_range (first_key target.table) (past_key target.table) q ≡ true → is_entry_of target.table target.index q ≡ false
  rows_safe q within = apart q (range_space 2 (first_key target.table) (past_key target.table) q refl refl within)
    where
      apart : (q : List ℕ) → is_in_space 2 q ≡ true → is_entry_of target.table target.index q ≡ false
      apart [] h = refl
      apart (b ∷ bs) h = ap (λ (n : ℕ). is_entry_of target.table target.index (n ∷ bs)) (eqb-true b 2 h)

  part_rows : (value : List ℕ) (c : Content) → IsFilledPartOf (is_entry_of target.table target.index) (whole_content origin target query value) c → row_pairs_in target.table c ≡ map pair_of sorted
  part_rows value c part = part_range (is_entry_of target.table target.index) (whole_content origin target query value) c (first_key target.table) (past_key target.table) part rows_safe ∙ whole_rows value

  many_rows : length (map pair_of sorted) ≡ rows_in origin target
  many_rows = length-map sorted pair_of ∙ length-sort_by (position_cmp (dirs_of (primary_sequence (table_at more target.table)))) (values_of (primary_sequence (table_at more target.table))) (rows_of target.table origin.rows)

  sorted_fit : AllByRecursion (AllFit (types_of table)) sorted
  sorted_fit =
      each-sort_by (position_cmp (dirs_of (primary_sequence (table_at more target.table)))) (values_of (primary_sequence (table_at more target.table))) (AllFit (types_of table)) (rows_of target.table origin.rows)
      (each_fits table (rows_of target.table origin.rows) (rows_are origin.tables origin.rows target.table s.keeps.fit s.keeps.apart))

  sorted_there : AllByRecursion (λ row. In (target.table, row) origin.rows) sorted
  sorted_there = each_by_in (λ row. In (target.table, row) origin.rows) sorted (λ row i. in_rows_of target.table origin.rows row (in_permuted row sorted (rows_of target.table origin.rows) (IsPermutation-sym (rows_of target.table origin.rows) sorted (IsPermutation-sort_by (position_cmp (dirs_of (primary_sequence (table_at more target.table)))) (values_of (primary_sequence (table_at more target.table))) (rows_of target.table origin.rows))) i))

  -- the index changes nothing in how rows are stored
  own_code : (row : List Value) → stored_code (table_at more target.table) row ≡ stored_code table row
  own_code row = ap (λ (x : Table). stored_code x row) own_table

  second_of : (xs : List (List Value)) → map (λ (pair : Pair). pair.1) (map pair_of xs) ≡ map (stored_code table) xs
  second_of [] = refl
  second_of (x ∷ xs) = λ i. own_code x i ∷ second_of xs i

  shape_is : target_shape target ≡ shape_of table
  shape_is = λ i. row_shape (w.types i) (w.fillers i)

  -- rows that were decoded are the first rows of the table
  decoded_rows : (n : ℕ) (rs : List (List Value)) → AreDecoded (target_shape target) (take n (map pair_of sorted)) rs → rs ≡ take n sorted
  decoded_rows n rs d =
      let e : AreDecoded (shape_of table) (take n (map pair_of sorted)) rs = subst (λ (shape : RowShape). AreDecoded shape (take n (map pair_of sorted)) rs) shape_is d in
      by_codes (shape_of table) rs (take n sorted) w.sound e.fit (each_take (AllFit (types_of table)) n sorted sorted_fit)
      (e.codes ∙ ap (map (λ (pair : Pair). pair.1)) (take-map pair_of n sorted) ∙ second_of (take n sorted))

  -- ---- entries

  slice_get_last : {X : Type 0} (xs : List X) (x : X) → slice_get (xs ++ x ∷ []) (length xs) ≡ Some x
  slice_get_last [] x = refl
  slice_get_last (y ∷ xs) x = slice_get_last xs x

  own_entry : (row : List Value) → entry_at target row ≡ (entry_pair target.table (1 + length table.indexes) (index_sequence table origin.index) row).0
  own_entry row = λ i. (entry_pair target.table (w.next i) (w.parts i) row).0

  has_entry : (value : List ℕ) (row : List Value) → In (target.table, row) origin.rows → get (whole_content origin target query value) (entry_at target row) ≡ Some []
  has_entry value row there =
      let at : slice_get (table_at more target.table).indexes (length table.indexes) ≡ Some origin.index = ap (λ (x : Table). slice_get x.indexes (length table.indexes)) own_table ∙ slice_get_last table.indexes origin.index in
      let same : (entry_pair target.table (1 + length table.indexes) (index_sequence (table_at more target.table) origin.index) row).0 ≡ entry_at target row =
      ap (λ (x : Table). (entry_pair target.table (1 + length table.indexes) (index_sequence x origin.index) row).0) own_table ∙ sym (own_entry row) in
      ap (get (whole_content origin target query value)) (sym same)
      ∙ get_entry more origin.rows (origin.others ++ (query.key, value) ∷ []) target.table (length table.indexes) origin.index row there at

  entered_part : (value : List ℕ) (rs : List (List Value)) (c : Content) → AllByRecursion (λ row. In (target.table, row) origin.rows) rs → IsFilledPartOf (is_entry_of target.table target.index) (whole_content origin target query value) c → IsFilledPartOf (is_entry_of target.table target.index) (whole_content origin target query value) (entered_rows target rs c)
  entered_part value [] c there part = part
  entered_part value (r ∷ rs) c there part = entered_part value rs (insert c (entry_at target r) []) there.1 (part_written (is_entry_of target.table target.index) (whole_content origin target query value) c (entry_at target r) [] (has_entry value r there.0) part)

  entered_keeps : (rs : List (List Value)) (c : Content) (k : List ℕ) → get c k ≡ Some [] → get (entered_rows target rs c) k ≡ Some []
  entered_keeps [] c k has = has
  entered_keeps (r ∷ rs) c k has =
      entered_keeps rs (insert c (entry_at target r) []) k
      (get-insert nat_list_cmp_total c (entry_at target r) [] k ∙ elim (eq_by_cmp key_cmp k (entry_at target r)) as (λ b. cond b (Some []) (get c k) ≡ Some []) [ true ↦ refl | false ↦ has ])

  entered_has : (rs : List (List Value)) (c : Content) (row : List Value) → In row rs → get (entered_rows target rs c) (entry_at target row) ≡ Some []
  entered_has [] c row i = absurd i
  entered_has (r ∷ rs) c row (inl same) =
      entered_keeps rs (insert c (entry_at target r) []) (entry_at target row)
      (get-insert nat_list_cmp_total c (entry_at target r) [] (entry_at target row)
      ∙ ap (λ b. cond b (Some []) (get c (entry_at target row))) (ap (λ (x : List Value). eq_by_cmp key_cmp (entry_at target row) (entry_at target x)) same ∙ key_itself (entry_at target row)))
  entered_has (r ∷ rs) c row (inr i) = entered_has rs (insert c (entry_at target r) []) row i

  -- ---- stages

  first_rows : (n : ℕ) (c : Content) (rs : List (List Value)) → FillsIndex origin target query c → AreDecoded (target_shape target) (take n (row_pairs_in target.table c)) rs → rs ≡ take n sorted
  first_rows n c rs f d = decoded_rows n rs (subst (λ (l : List Pair). AreDecoded (target_shape target) (take n l) rs) (part_rows (building_value query) c f.part) d)

  -- whatever entries were written, the index is being filled
  pub still_filling : (c : Content) (now : Option Content) → FillsIndex origin target query c → EntersSome target (row_pairs_in target.table c) c now → (d : Content) × (now ≡ Some d) × FillsIndex origin target query d
  still_filling c now f e =
      let rs = e.enters.rows in
      let there : AllByRecursion (λ row. In (target.table, row) origin.rows) rs =
      subst (AllByRecursion (λ (row : List Value). In (target.table, row) origin.rows)) (sym (first_rows e.many c rs f e.enters.decoded)) (each_take (λ row. In (target.table, row) origin.rows) e.many sorted sorted_there) in
      (entered_rows target rs c, e.enters.is, record { few = f.few; part = entered_part (building_value query) rs c there f.part })

  -- after all entries the content is the whole
  pub all_entered : (c d : Content) → FillsIndex origin target query c → Enters target (row_pairs_in target.table c) c (Some d) → d ≡ whole_content origin target query (building_value query)
  all_entered c d f e =
      let rs = e.rows in
      let all : row_pairs_in target.table c ≡ map pair_of sorted = part_rows (building_value query) c f.part in
      let n = length (map pair_of sorted) in
      let taken : take n (map pair_of sorted) ≡ map pair_of sorted = take_all n (map pair_of sorted) (omega arith) in
      let rs_are : rs ≡ sorted =
      decoded_rows n rs (subst (λ (l : List Pair). AreDecoded (target_shape target) l rs) (all ∙ sym taken) e.decoded) ∙ take_all n sorted (omega (arith, length-map sorted pair_of)) in
      let there : AllByRecursion (λ row. In (target.table, row) origin.rows) rs = subst (AllByRecursion (λ (row : List Value). In (target.table, row) origin.rows)) (sym rs_are) sorted_there in
      let d_is : d ≡ entered_rows target rs c = some_same d (entered_rows target rs c) e.is in
      let part : IsFilledPartOf (is_entry_of target.table (1 + length table.indexes)) (whole_content origin target query (building_value query)) (entered_rows target rs c) =
      subst (λ (i : ℕ). IsFilledPartOf (is_entry_of target.table i) (whole_content origin target query (building_value query)) (entered_rows target rs c)) w.next (entered_part (building_value query) rs c there f.part) in
      d_is
      ∙ all_filled origin.tables target.table origin.index w.number origin.rows (origin.others ++ (query.key, building_value query) ∷ []) (entered_rows target rs c) (beside_more (building_value query)) part (λ row i.
      ap (get (entered_rows target rs c)) (sym (own_entry row))
      ∙ entered_has rs c row (subst (In row) (sym rs_are) (in_permuted row (rows_of target.table origin.rows) sorted (IsPermutation-sort_by (position_cmp (dirs_of (primary_sequence (table_at more target.table)))) (values_of (primary_sequence (table_at more target.table))) (rows_of target.table origin.rows)) (of_rows_in target.table origin.rows row i))))
    where
      some_same : (x y : Content) → Some x ≡ Some y → x ≡ y
      some_same x y e = cc

  pub remarked : (v u : List ℕ) → insert (whole_content origin target query v) query.key u ≡ whole_content origin target query u
  remarked v u =
      ap (λ (c : Content). insert c query.key u) (sym (insert_other more origin.rows origin.others query.key v s.key s.absent))
      ∙ written_over (content_pairs more origin.rows origin.others) query.key v u
      ∙ insert_other more origin.rows origin.others query.key u s.key s.absent

  pub all_ready : (c : Content) (now : Option Content) → FillsIndex origin target query c → IsReady target query c now → now ≡ Some (whole_content origin target query (ready_value query))
  all_ready c now f r =
      r.is
      ∙ ap (λ (x : Content). Some (insert x query.key (ready_value query))) (all_entered c r.filled f r.enters)
      ∙ ap (λ (x : Content). Some x) (remarked (building_value query) (ready_value query))

  pub at_work : (c : Content) (now : Option Content) → FillsIndex origin target query c → StopsFilling target query c now → IsMarkedOrReady origin target query now
  at_work c now f (inl some) = inl (still_filling c now f some)
  at_work c now f (inr ready) = inr (all_ready c now f ready)

  -- the rows that a build counts
  pub counted_filling : (c : Content) → FillsIndex origin target query c → length (row_pairs_in target.table c) ≡ rows_in origin target
  counted_filling c f = ap (λ (l : List Pair). length l) (part_rows (building_value query) c f.part) ∙ many_rows

  -- ---- from no definition on

  mark_put : marked_content query (before origin) ≡ content_pairs origin.tables origin.rows (origin.others ++ (query.key, building_value query) ∷ [])
  mark_put = insert_other origin.tables origin.rows origin.others query.key (building_value query) s.key s.absent

  marked_part : IsFilledPartOf (is_entry_of target.table target.index) (whole_content origin target query (building_value query)) (marked_content query (before origin))
  marked_part =
      subst (λ (c : Content). IsFilledPartOf (is_entry_of target.table target.index) (whole_content origin target query (building_value query)) c) (sym mark_put)
      (subst (λ (i : ℕ). IsFilledPartOf (is_entry_of target.table i) (whole_content origin target query (building_value query)) (content_pairs origin.tables origin.rows (origin.others ++ (query.key, building_value query) ∷ []))) (sym w.next)
      (none_filled origin.tables target.table origin.index w.number origin.rows (origin.others ++ (query.key, building_value query) ∷ []) s.keeps.known (beside_more (building_value query))))

  pub marked_rows : (c : Content) → row_pairs_in target.table (marked_content query c) ≡ row_pairs_in target.table c
  marked_rows c = range_insert 2 c (first_key target.table) (past_key target.table) query.key (building_value query) refl refl (no_row_key query.key s.key)

  pub counted_before : length (row_pairs_in target.table (before origin)) ≡ rows_in origin target
  counted_before =
      ap (λ (l : List Pair). length l) (sym (marked_rows (before origin)) ∙ part_rows (building_value query) (marked_content query (before origin)) marked_part) ∙ many_rows

  pub marked_filling : rows_in origin target ≤ 1000000 → FillsIndex origin target query (marked_content query (before origin))
  marked_filling few = record { few = few; part = marked_part }

  pub absent_before : get (before origin) query.key ≡ None
  absent_before = get_other origin.tables origin.rows origin.others query.key s.key ∙ s.absent

  -- ---- no damage

  -- a row that is there has a code
  pub no_broken : (c : Content) (damage : Damage) → row_pairs_in target.table c ≡ map pair_of sorted → IsNoRowAmong (target_shape target) (row_pairs_in target.table c) damage → ⊥
  no_broken c damage all broken =
      let i : In broken.pair (map pair_of sorted) = in_from_contains (map pair_of sorted) broken.pair (subst (λ (l : List Pair). Contains l broken.pair) all broken.there) in
      let r = in_map sorted broken.pair i in
      let fits : AllFit target.types r.0 = subst (λ (ts : List ColType). AllFit ts r.0) (sym w.types) (each_in (AllFit (types_of table)) sorted sorted_fit r.0 r.1) in
      let code : code_as (target_shape target) r.0 ≡ stored_code (table_at more target.table) r.0 = ap (λ (shape : RowShape). code_as shape r.0) shape_is ∙ sym (own_code r.0) in
      broken.no_row.no_row r.0 fits (code ∙ ap (λ (pair : Pair). pair.1) r.2)
    where
      in_map : (xs : List (List Value)) (p : Pair) → In p (map pair_of xs) → (x : List Value) × In x xs × (pair_of x ≡ p)
      in_map [] p i = absurd i
      in_map (x ∷ xs) p (inl e) = (x, inl refl, e)
      in_map (x ∷ xs) p (inr i) = let r = in_map xs p i in (r.0, inr r.1, r.2)

  pub sound_filling : (c : Content) (damage : Damage) → FillsIndex origin target query c → IsNoRowAmong (target_shape target) (row_pairs_in target.table c) damage → ⊥
  sound_filling c damage f broken = no_broken c damage (part_rows (building_value query) c f.part) broken

  pub sound_before : (damage : Damage) → IsNoRowAmong (target_shape target) (row_pairs_in target.table (before origin)) damage → ⊥
  sound_before damage broken = no_broken (before origin) damage (sym (marked_rows (before origin)) ∙ part_rows (building_value query) (marked_content query (before origin)) marked_part) broken
