-- A content stands for at most one catalog and one set of rows.
use Rattle.std.proofs.Common.{◌≡◌, ℕ, true, List, [], ◌∷◌, ◌++◌, map, IsPermutation, All, refl, sym, ap, ◌∙◌, subst, arith}
use Rattle.std.specs.List.{AllByRecursion}
use Rattle.std.specs.FinMap.{entries, from_entries, is_sorted}
use Rattle.std.proofs.lemmas.List.Sorted.{IsPermutation-sym, IsPermutation-trans}
use Rattle.pq_base.specs.declared.value.Value.{Value}
use Rattle.pq_base.specs.Order.{position_cmp}
use Rattle.pq_base.specs.Values.{IsType, AllFit}
use Rattle.pq_key_code.specs.KeyCode.{past_code, row_key}
use Rattle.pq_schema.specs.declared.table.Table.{Table}
use Rattle.pq_schema.specs.Sequences.{primary_sequence}
use Rattle.pq_schema.specs.Tables.{table_at}
use Rattle.pq_content.specs.Pairs.{Pair, AreCatalog, AreOfCounters, row_pair, content_pairs, AreBeside}
use Rattle.pq_store.specs.Content.{key_cmp, Content, pairs_within}
use Rattle.pq_base.specs.Sorting.{sort_by}
use Rattle.pq_content.specs.Tables.{Rows, rows_of, types_of, values_of, dirs_of, Keeps, stored_code}
use Rattle.pq_base.proofs.Members.{keep_all}
use Rattle.pq_content.proofs.Others.{catalog_range}
use Rattle.pq_base.proofs.Sorts.{IsPermutation-sort_by}
use Rattle.pq_content.proofs.Ranges.{entries-rising}
use Rattle.pq_content.proofs.Scans.{rows_under}
use Rattle.pq_base.proofs.Sorts.{each-sort_by}
use Rattle.pq_content.proofs.TableRows.{AreRows, rows_are}
use Rattle.pq_content.proofs.Codes.{stored_code_injective}

-- the catalog's pairs, in the order of their keys
module _ (tables more : List Table) (rows others : Rows) (beside behind catalog after : List Pair) (counters : AreOfCounters beside) (counted : AreOfCounters behind)
    (are : AreCatalog catalog) (more_are : AreCatalog after) where
  one_catalog : content_pairs tables rows (beside ++ catalog) ≡ content_pairs more others (behind ++ after) → entries (from_entries {R = key_cmp} catalog) ≡ entries (from_entries {R = key_cmp} after)
  one_catalog same =
      sym (catalog_range tables rows beside catalog counters are)
      ∙ ap (λ (c : Content). pairs_within c (1 ∷ []) (2 ∷ [])) same
      ∙ catalog_range more others behind after counted more_are

  -- where the keys rise, the catalogs are one list
  pub rising_catalog : is_sorted key_cmp catalog ≡ true → is_sorted key_cmp after ≡ true → content_pairs tables rows (beside ++ catalog) ≡ content_pairs more others (behind ++ after) → catalog ≡ after
  rising_catalog rising more_rise same = sym (entries-rising catalog rising) ∙ one_catalog same ∙ entries-rising after more_rise

each_fits : (table : Table) (rows : List (List Value)) → AreRows table rows → AllByRecursion (AllFit (types_of table)) rows
each_fits table [] h = tt
each_fits table (row ∷ rows) h = (h.0, each_fits table rows h.2)

rows_from_pairs : (t : ℕ) (table : Table) (xs ys : List (List Value)) → All IsType (types_of table) → AllByRecursion (AllFit (types_of table)) xs → AllByRecursion (AllFit (types_of table)) ys → map (row_pair t table) xs ≡ map (row_pair t table) ys → xs ≡ ys
rows_from_pairs t table [] [] types f g h = refl
rows_from_pairs t table [] (y ∷ ys) types f g h = cc
rows_from_pairs t table (x ∷ xs) [] types f g h = cc
rows_from_pairs t table (x ∷ xs) (y ∷ ys) types f g h =
    let rest : map (row_pair t table) xs ≡ map (row_pair t table) ys = cc in
    let head : row_pair t table x ≡ row_pair t table y = cc in
    let codes : stored_code table x ≡ stored_code table y = ap (λ (e : Pair). e.1) head in
    λ i. stored_code_injective table x y types f.0 g.0 codes i ∷ rows_from_pairs t table xs ys types f.1 g.1 rest i

-- the rows of each table, in the order of their keys
pub one_table_sorted : (tables : List Table) (rows rows' : Rows) (others others' : List Pair) (t : ℕ) → All IsType (types_of (table_at tables t)) → Keeps tables rows → Keeps tables rows' → AreBeside others → AreBeside others' → content_pairs tables rows others ≡ content_pairs tables rows' others' → sort_by (position_cmp (dirs_of (primary_sequence (table_at tables t)))) (values_of (primary_sequence (table_at tables t))) (rows_of t rows) ≡ sort_by (position_cmp (dirs_of (primary_sequence (table_at tables t)))) (values_of (primary_sequence (table_at tables t))) (rows_of t rows')
one_table_sorted tables rows rows' others others' t types keeps keeps' beside beside' same =
    let table = table_at tables t in
    let R = position_cmp (dirs_of (primary_sequence table)) in
    let by = values_of (primary_sequence table) in
    let low = row_key t [] in
    let all = λ (rs : Rows) (os : List Pair) (k : Keeps tables rs) (c : AreBeside os).
    rows_under tables rs os k.fit k.apart c t [] tt (omega arith)
    ∙ ap (λ (l : List (List Value)). map (row_pair t table) (sort_by R by l)) (keep_all (rows_of t rs)) in
    let sorted_fit = λ (rs : Rows) (k : Keeps tables rs). each-sort_by R by (AllFit (types_of table)) (rows_of t rs) (each_fits table (rows_of t rs) (rows_are tables rs t k.fit k.apart)) in
    rows_from_pairs t table (sort_by R by (rows_of t rows)) (sort_by R by (rows_of t rows')) types (sorted_fit rows keeps) (sorted_fit rows' keeps') (sym (all rows others keeps beside) ∙ ap (λ (c : Content). pairs_within c low (past_code low)) same ∙ all rows' others' keeps' beside')

-- so each table has the same rows, their order apart
pub one_table : (tables : List Table) (rows rows' : Rows) (others others' : List Pair) (t : ℕ) → All IsType (types_of (table_at tables t)) → Keeps tables rows → Keeps tables rows' → AreBeside others → AreBeside others' → content_pairs tables rows others ≡ content_pairs tables rows' others' → IsPermutation (rows_of t rows) (rows_of t rows')
one_table tables rows rows' others others' t types keeps keeps' beside beside' same =
    let table = table_at tables t in
    let R = position_cmp (dirs_of (primary_sequence table)) in
    let by = values_of (primary_sequence table) in
    let sorted = one_table_sorted tables rows rows' others others' t types keeps keeps' beside beside' same in
    IsPermutation-trans (rows_of t rows) (sort_by R by (rows_of t rows)) (rows_of t rows') (IsPermutation-sort_by R by (rows_of t rows))
    (subst (λ (l : List (List Value)). IsPermutation l (rows_of t rows')) (sym sorted) (IsPermutation-sym (rows_of t rows') (sort_by R by (rows_of t rows')) (IsPermutation-sort_by R by (rows_of t rows'))))
