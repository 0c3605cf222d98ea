-- The pairs of a content that are no row's: those of the catalog, and the intent's.
use Rattle.std.proofs.Common.{◌≡◌, ℕ, ◌+◌, true, cond, List, [], ◌∷◌, ◌++◌, None, refl, sym, ap, ◌∙◌, append_assoc, false}
use Rattle.std.specs.Cmp.Lexicographic.{nat_list_cmp_total}
use Rattle.std.specs.FinMap.{find, get, insert, empty, entries, from_entries, from_entries_push, get-from_entries, is_sorted}
use Rattle.std.specs.FinMap.Entries.{where_key}
use Rattle.std.proofs.lemmas.Bool.{eqb-true, false≢true}
use Rattle.std.proofs.lemmas.List.Elements.{filter-append}
use Rattle.pq_base.specs.declared.value.Value.{Value}
use Rattle.pq_schema.specs.declared.table.Index.{Index}
use Rattle.pq_schema.specs.declared.table.Table.{Table}
use Rattle.pq_schema.specs.Tables.{table_at}
use Rattle.pq_content.specs.Pairs.{Pair, is_in_space, is_of_counters, AreCatalog, AreOfCounters, entries_from, pairs_of_row, row_pairs, content_pairs, is_of_rows}
use Rattle.pq_store.specs.Content.{key_cmp, pairs_within}
use Rattle.pq_content.specs.Tables.{Rows}
use Rattle.pq_content.proofs.Changes.{bytes_apart}
use Rattle.pq_content.proofs.Find.{find_rest}
use Rattle.pq_content.proofs.Keys.{not_in_rows, not_in_catalog, not_in_counters}
use Rattle.pq_content.proofs.Ranges.{where_from, where-flat_map, flat_map-nil, entries-rising, in_range}

find_other : (tables : List Table) (rows : Rows) (others : List Pair) (q : List ℕ) → is_of_rows q ≡ false → find key_cmp q (row_pairs tables rows ++ others) ≡ find key_cmp q others
find_other tables rows others q there = find_rest key_cmp q (row_pairs tables rows) others (not_in_rows tables rows q there)

-- a key that is of neither rows nor entries is looked up among the other pairs
pub get_other : (tables : List Table) (rows : Rows) (others : List Pair) (q : List ℕ) → is_of_rows q ≡ false → get (content_pairs tables rows others) q ≡ find key_cmp q others
unfolding content_pairs
get_other tables rows others q there = get-from_entries nat_list_cmp_total (row_pairs tables rows ++ others) q ∙ find_other tables rows others q there

-- a new pair with such a key is put behind the others
pub insert_other : (tables : List Table) (rows : Rows) (others : List Pair) (k v : List ℕ) → is_of_rows k ≡ false → find key_cmp k others ≡ None → insert (content_pairs tables rows others) k v ≡ content_pairs tables rows (others ++ (k, v) ∷ [])
unfolding content_pairs
insert_other tables rows others k v there none =
    let front = row_pairs tables rows in
    sym (from_entries_push nat_list_cmp_total bytes_apart (front ++ others) k v (find_other tables rows others k there ∙ none))
    ∙ ap (from_entries {R = key_cmp}) (append_assoc front others ((k, v) ∷ []))

-- no intent is there
pub no_intent : (tables : List Table) (rows : Rows) (beside catalog : List Pair) → AreOfCounters beside → AreCatalog catalog → get (content_pairs tables rows (beside ++ catalog)) (4 ∷ []) ≡ None
unfolding content_pairs
no_intent tables rows beside catalog counters are =
    get-from_entries nat_list_cmp_total (row_pairs tables rows ++ (beside ++ catalog)) (4 ∷ [])
    ∙ find_rest key_cmp (4 ∷ []) (row_pairs tables rows) (beside ++ catalog) (not_in_rows tables rows (4 ∷ []) refl)
    ∙ find_rest key_cmp (4 ∷ []) beside catalog (not_in_counters beside (4 ∷ []) counters refl)
    ∙ not_in_catalog catalog (4 ∷ []) are refl

-- ---- the range of the catalog's space
entries_outside : (t i : ℕ) (table : Table) (indexes : List Index) (row : List Value) → where_key key_cmp (in_range (1 ∷ []) (2 ∷ [])) (entries_from t i table indexes row) ≡ []
entries_outside t i table [] row = refl
entries_outside t i table (index ∷ indexes) row = entries_outside t (i + 1) table indexes row

rows_outside : (tables : List Table) (rows : Rows) → where_key key_cmp (in_range (1 ∷ []) (2 ∷ [])) (row_pairs tables rows) ≡ []
rows_outside tables rows =
    where-flat_map (in_range (1 ∷ []) (2 ∷ [])) (λ (e : ℕ × List Value). pairs_of_row e.0 (table_at tables e.0) e.1) rows
    ∙ flat_map-nil (λ (e : ℕ × List Value). where_key key_cmp (in_range (1 ∷ []) (2 ∷ [])) (pairs_of_row e.0 (table_at tables e.0) e.1)) (λ e. entries_outside e.0 1 (table_at tables e.0) (table_at tables e.0).indexes e.1) rows

catalog_inside : (others : List Pair) → AreCatalog others → where_key key_cmp (in_range (1 ∷ []) (2 ∷ [])) others ≡ others
catalog_inside [] h = refl
catalog_inside (e ∷ es) h =
    ap (λ b. cond b (e ∷ where_key key_cmp (in_range (1 ∷ []) (2 ∷ [])) es) (where_key key_cmp (in_range (1 ∷ []) (2 ∷ [])) es)) (inside e.0 h.0)
    ∙ ap (λ (l : List Pair). e ∷ l) (catalog_inside es h.1)
  where
    inside : (k : List ℕ) → is_in_space 1 k ≡ true → in_range (1 ∷ []) (2 ∷ []) k ≡ true
    inside [] h = absurd (false≢true h)
    inside (b ∷ bs) h = ap (λ (x : ℕ). in_range (1 ∷ []) (2 ∷ []) (x ∷ bs)) (eqb-true b 1 h) ∙ first bs
      where
        first : (bs : List ℕ) → in_range (1 ∷ []) (2 ∷ []) (1 ∷ bs) ≡ true
        first [] = refl
        first (b ∷ bs) = refl

counters_outside : (beside : List Pair) → AreOfCounters beside → where_key key_cmp (in_range (1 ∷ []) (2 ∷ [])) beside ≡ []
counters_outside [] h = refl
counters_outside (e ∷ es) h =
    ap (λ b. cond b (e ∷ where_key key_cmp (in_range (1 ∷ []) (2 ∷ [])) es) (where_key key_cmp (in_range (1 ∷ []) (2 ∷ [])) es)) (outside e.0 h.0)
    ∙ counters_outside es h.1
  where
    outside : (k : List ℕ) → is_of_counters k ≡ true → in_range (1 ∷ []) (2 ∷ []) k ≡ false
    outside [] h = absurd (false≢true h)
    outside (b ∷ bs) h = ap (λ (x : ℕ). in_range (1 ∷ []) (2 ∷ []) (x ∷ bs)) (eqb-true b 5 h)

pub catalog_range : (tables : List Table) (rows : Rows) (beside catalog : List Pair) → AreOfCounters beside → AreCatalog catalog → pairs_within (content_pairs tables rows (beside ++ catalog)) (1 ∷ []) (2 ∷ []) ≡ entries (from_entries {R = key_cmp} catalog)
unfolding content_pairs
catalog_range tables rows beside catalog counters are =
    let f = in_range (1 ∷ []) (2 ∷ []) in
    let front = row_pairs tables rows in
    let others : where_key key_cmp f (beside ++ catalog) ≡ catalog = filter-append (λ (x : Pair). f x.0) beside catalog ∙ (λ i. counters_outside beside counters i ++ catalog_inside catalog are i) in
    where_from f (front ++ (beside ++ catalog))
    ∙ ap (λ (l : List Pair). entries (from_entries {R = key_cmp} l)) (filter-append (λ (x : Pair). f x.0) front (beside ++ catalog) ∙ (λ i. rows_outside tables rows i ++ others i))

-- where the catalog's keys rise, the range has its pairs in order
pub rising_catalog_range : (tables : List Table) (rows : Rows) (beside catalog : List Pair) → AreOfCounters beside → AreCatalog catalog → is_sorted key_cmp catalog ≡ true → pairs_within (content_pairs tables rows (beside ++ catalog)) (1 ∷ []) (2 ∷ []) ≡ catalog
rising_catalog_range tables rows beside catalog counters are rising = catalog_range tables rows beside catalog counters are ∙ entries-rising catalog rising

-- with no rows and no catalog there is nothing
pub no_pairs : content_pairs [] [] [] ≡ empty {R = key_cmp}
unfolding content_pairs
no_pairs = refl
