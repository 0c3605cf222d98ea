-- What a content tells while an index is filled.
use Rattle.std.proofs.Common.{◌≡◌, ℕ, true, false, ◌&&◌, ◌==◌, List, [], ◌∷◌, ◌++◌, map, Option, Some, None, refl, sym, ap, ◌∙◌, append_assoc, subst, arith}
use Rattle.std.specs.Prelude.{All, IsPermutation}
use Rattle.std.specs.List.{AllByRecursion}
use Rattle.std.specs.FinMap.{find, get, insert, is_sorted}
use Rattle.std.proofs.lemmas.Bool.{eqb-true, false≢true}
use Rattle.std.proofs.lemmas.List.Sorted.{IsPermutation-sym, IsPermutation-trans}
use Rattle.pq_base.specs.declared.value.Value.{Value}
use Rattle.pq_base.specs.Order.{position_cmp}
use Rattle.pq_base.specs.Sorting.{sort_by}
use Rattle.pq_base.specs.Values.{IsType, AllFit}
use Rattle.pq_base.proofs.Members.{keep_all}
use Rattle.pq_base.proofs.Sorts.{IsPermutation-sort_by, each-sort_by}
use Rattle.pq_key_code.specs.KeyCode.{intent_key}
use Rattle.pq_schema.specs.declared.made.Made.{Made}
use Rattle.pq_schema.specs.declared.table.Table.{Table}
use Rattle.pq_schema.specs.Sequences.{primary_sequence}
use Rattle.pq_schema.specs.Tables.{table_at}
use Rattle.pq_store.specs.Content.{key_cmp, Content, pairs_within}
use Rattle.pq_content.specs.Pairs.{Pair, AreBeside, AreCatalog, AreOfCounters, is_in_space, is_of_rows, row_pair, content_pairs, HoldsRows}
use Rattle.pq_content.specs.Standing.{is_numbered, is_entry_of}
use Rattle.pq_content.specs.Tables.{Rows, rows_of, types_of, shape_of, values_of, dirs_of, Keeps, stored_code}
use Rattle.pq_content.proofs.Building.{part_range, get_part}
use Rattle.pq_content.proofs.Others.{no_intent, insert_other, rising_catalog_range}
use Rattle.pq_content.proofs.Ranges.{in_range}
use Rattle.pq_content.proofs.Scans.{rows_under}
use Rattle.pq_content.proofs.TableRows.{rows_are}
use Rattle.pq_builds.specs.declared.target.NewQuery.{NewQuery}
use Rattle.pq_builds.specs.declared.target.Target.{Target}
use Rattle.pq_builds.specs.Filling.{first_key, past_key, row_pairs_in}
use Rattle.pq_builds.specs.Stages.{building_value}
use Rattle.pq_builds.specs.Standing.{defined_content, IsFilling, Origin, IsTarget, IsNewIn, tables_with, whole_content}
use Rattle.pq_builds.proofs.Ranges.{range_space}
use Rattle.pq_builds.proofs.Standing.{by_codes, each_fits, written_over, more_keeps, beside_more}

-- no entry is in the catalog's space, or in that of the rows
catalog_safe : (t i : ℕ) (q : List ℕ) → in_range (1 ∷ []) (2 ∷ []) q ≡ true → is_entry_of t i q ≡ false
catalog_safe t i [] within = refl
catalog_safe t i (b ∷ bs) within =
    elim (b == 3) as (λ e. (b == 3) ≡ e → (e && is_numbered t i bs) ≡ false) [
      | true ↦ λ is. absurd (false≢true (ap (λ (n : ℕ). in_range (1 ∷ []) (2 ∷ []) (n ∷ bs)) (sym (eqb-true b 3 is)) ∙ within))
      | false ↦ λ _. refl
    ] refl

rows_safe : (t i u : ℕ) (q : List ℕ) → in_range (first_key u) (past_key u) q ≡ true → is_entry_of t i q ≡ false
rows_safe t i u q within = apart q (range_space 2 (first_key u) (past_key u) q refl refl within)
  where
    apart : (q : List ℕ) → is_in_space 2 q ≡ true → is_entry_of t i q ≡ false
    apart [] h = refl
    apart (b ∷ bs) h = ap (λ (n : ℕ). is_entry_of t i (n ∷ bs)) (eqb-true b 2 h)

catalog_push : (front : List Pair) (k v : List ℕ) → AreCatalog front → is_in_space 1 k ≡ true → AreCatalog (front ++ (k, v) ∷ [])
catalog_push [] k v h there = (there, tt)
catalog_push (e ∷ es) k v h there = (h.0, catalog_push es k v h.1 there)

beside_push : (front : List Pair) (k v : List ℕ) → AreBeside front → is_of_rows k ≡ false → AreBeside (front ++ (k, v) ∷ [])
beside_push [] k v h there = (there, tt)
beside_push (e ∷ es) k v h there = (h.0, beside_push es k v h.1 there)

module _ (tables : List Table) (rows : Rows) (beside catalog : List Pair) (made : Made) (query : NewQuery) (content : Content) (counters : AreOfCounters beside) (are : AreCatalog catalog)
    (key : is_in_space 1 query.key ≡ true) where
  abbrev marked_pairs : List Pair
  marked_pairs = catalog ++ (query.key, building_value query) ∷ []

  -- the definition stands behind the catalog's pairs
  placed : (beside ++ catalog) ++ (query.key, building_value query) ∷ [] ≡ beside ++ marked_pairs
  placed = append_assoc beside catalog ((query.key, building_value query) ∷ [])

  pub catalog_filling : is_sorted key_cmp marked_pairs ≡ true → IsFilling tables rows (beside ++ catalog) made query content → pairs_within content (1 ∷ []) (2 ∷ []) ≡ marked_pairs
  catalog_filling rises f =
      part_range (is_entry_of made.table made.index) (content_pairs tables rows ((beside ++ catalog) ++ (query.key, building_value query) ∷ [])) content (1 ∷ []) (2 ∷ []) f.part (catalog_safe made.table made.index)
      ∙ ap (λ (others : List Pair). pairs_within (content_pairs tables rows others) (1 ∷ []) (2 ∷ [])) placed
      ∙ rising_catalog_range tables rows beside marked_pairs counters (catalog_push catalog query.key (building_value query) are key) rises

  pub intent_filling : IsFilling tables rows (beside ++ catalog) made query content → get content intent_key ≡ None
  intent_filling f =
      get_part (is_entry_of made.table made.index) (content_pairs tables rows ((beside ++ catalog) ++ (query.key, building_value query) ∷ [])) content intent_key f.part refl
      ∙ ap (λ (others : List Pair). get (content_pairs tables rows others) intent_key) placed
      ∙ no_intent tables rows beside marked_pairs counters (catalog_push catalog query.key (building_value query) are key)

-- ---- rows by their pairs

abbrev in_order : List Table → ℕ → Rows → List (List Value)
in_order tables t rows = sort_by (position_cmp (dirs_of (primary_sequence (table_at tables t)))) (values_of (primary_sequence (table_at tables t))) (rows_of t rows)

ranged : (tables : List Table) (rows : Rows) (others : List Pair) (t : ℕ) → Keeps tables rows → AreBeside others → row_pairs_in t (content_pairs tables rows others) ≡ map (row_pair t (table_at tables t)) (in_order tables t rows)
ranged tables rows others t keeps beside =
    rows_under tables rows others keeps.fit keeps.apart beside t [] tt (omega arith)
    ∙ ap (λ (l : List (List Value)). map (row_pair t (table_at tables t)) (sort_by (position_cmp (dirs_of (primary_sequence (table_at tables t)))) (values_of (primary_sequence (table_at tables t))) l)) (keep_all (rows_of t rows))

pub rows_filling : (tables : List Table) (rows : Rows) (others : List Pair) (made : Made) (query : NewQuery) (content : Content) (t : ℕ) → Keeps tables rows → AreBeside others → is_of_rows query.key ≡ false
    → IsFilling tables rows others made query content → row_pairs_in t content ≡ row_pairs_in t (content_pairs tables rows [])
rows_filling tables rows others made query content t keeps beside key f =
    let marked = others ++ (query.key, building_value query) ∷ [] in
    part_range (is_entry_of made.table made.index) (content_pairs tables rows marked) content (first_key t) (past_key t) f.part (rows_safe made.table made.index t)
    ∙ ranged tables rows marked t keeps (beside_push others query.key (building_value query) beside key)
    ∙ sym (ranged tables rows [] t keeps tt)

rows_from : (table : Table) (t : ℕ) (xs ys : List (List Value)) → All IsType (types_of table) → AllByRecursion (AllFit (types_of table)) xs → AllByRecursion (AllFit (types_of table)) ys
    → map (row_pair t table) xs ≡ map (row_pair t table) ys → xs ≡ ys
rows_from table t xs ys sound f g e = by_codes (shape_of table) xs ys sound f g (sym (seconds xs) ∙ ap (map (λ (p : Pair). p.1)) e ∙ seconds ys)
  where
    seconds : (xs : List (List Value)) → map (λ (p : Pair). p.1) (map (row_pair t table) xs) ≡ map (stored_code table) xs
    seconds [] = refl
    seconds (x ∷ xs) = ap (λ (l : List (List ℕ)). stored_code table x ∷ l) (seconds xs)

pub one_set : (tables : List Table) (rows more : Rows) (t : ℕ) → All IsType (types_of (table_at tables t)) → Keeps tables rows → Keeps tables more
    → row_pairs_in t (content_pairs tables rows []) ≡ row_pairs_in t (content_pairs tables more []) → IsPermutation (rows_of t rows) (rows_of t more)
one_set tables rows more t sound keeps keeps' same =
    let table = table_at tables t in
    let R = position_cmp (dirs_of (primary_sequence table)) in
    let by = values_of (primary_sequence table) in
    let fit = λ (rows : Rows) (k : Keeps tables rows). each-sort_by R by (AllFit (types_of table)) (rows_of t rows) (each_fits table (rows_of t rows) (rows_are tables rows t k.fit k.apart)) in
    let pairs_same : map (row_pair t table) (in_order tables t rows) ≡ map (row_pair t table) (in_order tables t more) = sym (ranged tables rows [] t keeps tt) ∙ same ∙ ranged tables more [] t keeps' tt in
    let sorted : in_order tables t rows ≡ in_order tables t more = rows_from table t (in_order tables t rows) (in_order tables t more) sound (fit rows keeps) (fit more keeps') pairs_same in
    IsPermutation-trans (rows_of t rows) (in_order tables t rows) (rows_of t more) (IsPermutation-sort_by R by (rows_of t rows))
    (subst (λ (l : List (List Value)). IsPermutation l (rows_of t more)) (sym sorted) (IsPermutation-sym (rows_of t more) (in_order tables t more) (IsPermutation-sort_by R by (rows_of t more))))

-- ---- a whole build

pub built_holds : (origin : Origin) (target : Target) (query : NewQuery) (value : List ℕ) (now : Option Content) → IsNewIn origin query → IsTarget origin target → now ≡ Some (whole_content origin target query value)
    → HoldsRows now (tables_with origin target) origin.rows (origin.others ++ (query.key, value) ∷ [])
built_holds origin target query value now s w is = record { keeps = more_keeps origin target query s w; beside = beside_more origin target query s w value; is = is }

pub marks_over : (tables : List Table) (rows : Rows) (others : List Pair) (query : NewQuery) (old new : List ℕ) → is_of_rows query.key ≡ false → find key_cmp query.key others ≡ None
    → insert (defined_content tables rows others query old) query.key new ≡ defined_content tables rows others query new
marks_over tables rows others query old new key absent =
    ap (λ (c : Content). insert c query.key new) (sym (insert_other tables rows others query.key old key absent))
    ∙ written_over (content_pairs tables rows others) query.key old new
    ∙ insert_other tables rows others query.key new key absent
