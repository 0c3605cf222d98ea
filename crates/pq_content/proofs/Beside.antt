-- Contents that have just the pairs of some rows in the spaces of rows and entries, whatever stands beside them.
use Rattle.std.proofs.Common.{◌≡◌, ℕ, ◌+◌, Bool, true, false, cond, not, List, [], ◌∷◌, ◌++◌, flat_map, refl, sym, ap, ◌∙◌}
use Rattle.std.specs.Prelude.{filter}
use Rattle.std.specs.Cmp.Lexicographic.{nat_list_cmp_total}
use Rattle.std.specs.declared.cmp.Ordering.TheVariants.{Equal}
use Rattle.std.specs.FinMap.{find, get-entries, entries, from_entries, get-from_entries}
use Rattle.std.specs.FinMap.Entries.{where_key, find-where_key}
use Rattle.std.proofs.lemmas.List.{append-nil}
use Rattle.std.proofs.lemmas.List.Elements.{filter-append}
use Rattle.pq_base.specs.declared.value.Value.{Value}
use Rattle.pq_schema.specs.declared.table.Index.{Index}
use Rattle.pq_schema.specs.declared.table.Table.{Table}
use Rattle.pq_schema.specs.Sequences.{index_sequence}
use Rattle.pq_schema.specs.Tables.{table_at}
use Rattle.pq_store.specs.Content.{key_cmp, Content}
use Rattle.pq_content.specs.Pairs.{Pair, is_of_rows, AreBeside, row_pair, entry_pair, entries_from, pairs_of_row, row_pairs, content_pairs, pairs_of_rows, pairs_beside}
use Rattle.pq_content.specs.Tables.{Rows}
use Rattle.pq_content.proofs.Changes.{same_content, bytes_apart}
use Rattle.pq_content.proofs.Find.{find_front, find_rest}
use Rattle.pq_content.proofs.Keys.{not_beside, not_in_rows}
use Rattle.pq_content.proofs.Ranges.{where_from, where-flat_map}

abbrev is_beside : List ℕ → Bool
is_beside key = not (is_of_rows key)

-- ---- a content that is made of rows and pairs beside them

entries_kept : (t i : ℕ) (table : Table) (indexes : List Index) (row : List Value) → where_key key_cmp is_of_rows (entries_from t i table indexes row) ≡ entries_from t i table indexes row
entries_kept t i table [] row = refl
entries_kept t i table (index ∷ indexes) row = ap (λ (l : List Pair). entry_pair t i (index_sequence table index) row ∷ l) (entries_kept t (i + 1) table indexes row)

rows_kept : (tables : List Table) (rows : Rows) → where_key key_cmp is_of_rows (row_pairs tables rows) ≡ row_pairs tables rows
rows_kept tables rows = where-flat_map is_of_rows own rows ∙ each rows
  where
    own : ℕ × List Value → List Pair
    own e = pairs_of_row e.0 (table_at tables e.0) e.1

    each : (es : Rows) → flat_map (λ e. where_key key_cmp is_of_rows (own e)) es ≡ flat_map own es
    each [] = refl
    each (e ∷ es) = λ i. (row_pair e.0 (table_at tables e.0) e.1 ∷ entries_kept e.0 1 (table_at tables e.0) (table_at tables e.0).indexes e.1 i) ++ each es i

others_dropped : (others : List Pair) → AreBeside others → where_key key_cmp is_of_rows others ≡ []
others_dropped [] h = refl
others_dropped (e ∷ es) h = ap (λ b. cond b (e ∷ where_key key_cmp is_of_rows es) (where_key key_cmp is_of_rows es)) h.0 ∙ others_dropped es h.1

-- in the spaces of rows and entries it has what the rows alone make
pub rows_alone : (tables : List Table) (rows : Rows) (others : List Pair) → AreBeside others → pairs_of_rows (content_pairs tables rows others) ≡ entries (content_pairs tables rows [])
unfolding content_pairs
rows_alone tables rows others beside =
    let front = row_pairs tables rows in
    where_from is_of_rows (front ++ others)
    ∙ ap (λ (l : List Pair). entries (from_entries {R = key_cmp} l)) (filter-append (λ (x : Pair). is_of_rows x.0) front others ∙ (λ i. rows_kept tables rows i ++ others_dropped others beside i))

-- ---- any content that has just the rows' pairs in those spaces

alike : (f : List ℕ → Bool) (q x : List ℕ) → key_cmp q x ≡ Equal → f x ≡ f q
alike f q x e = ap f (sym (bytes_apart q x e))

pub beside_are : (content : Content) → AreBeside (pairs_beside content)
beside_are content = each (entries content)
  where
    each : (es : List Pair) → AreBeside (filter (λ (x : Pair). not (is_of_rows x.0)) es)
    each [] = tt
    each (e ∷ es) =
        elim (is_of_rows e.0) as (λ b. is_of_rows e.0 ≡ b → AreBeside (cond (not b) (e ∷ filter (λ (x : Pair). not (is_of_rows x.0)) es) (filter (λ (x : Pair). not (is_of_rows x.0)) es))) [
          | true ↦ λ _. each es
          | false ↦ λ is. (is, each es)
        ] refl

-- it is the content of the rows with its own pairs beside them
pub made_of_rows : (tables : List Table) (rows : Rows) (content : Content) → pairs_of_rows content ≡ entries (content_pairs tables rows []) → content ≡ content_pairs tables rows (pairs_beside content)
unfolding content_pairs
made_of_rows tables rows content same = same_content content _ (λ q.
    get-entries content q ∙ found q (is_of_rows q) refl ∙ sym (get-from_entries nat_list_cmp_total (row_pairs tables rows ++ pairs_beside content) q))
  where
    found : (q : List ℕ) (b : Bool) → is_of_rows q ≡ b → find key_cmp q (entries content) ≡ find key_cmp q (row_pairs tables rows ++ pairs_beside content)
    found q true is =
        ap (λ b. cond b (find key_cmp q (entries content)) (find key_cmp q [])) (sym is)
        ∙ sym (find-where_key key_cmp is_of_rows q (alike is_of_rows q) (entries content))
        ∙ ap (find key_cmp q) same
        ∙ sym (get-entries (from_entries {R = key_cmp} (row_pairs tables rows ++ [])) q)
        ∙ get-from_entries nat_list_cmp_total (row_pairs tables rows ++ []) q
        ∙ ap (find key_cmp q) (append-nil (row_pairs tables rows))
        ∙ sym (find_front key_cmp q (row_pairs tables rows) (pairs_beside content) (not_beside (pairs_beside content) q (beside_are content) is))
    found q false is =
        ap (λ b. cond (not b) (find key_cmp q (entries content)) (find key_cmp q [])) (sym is)
        ∙ sym (find-where_key key_cmp is_beside q (alike is_beside q) (entries content))
        ∙ sym (find_rest key_cmp q (row_pairs tables rows) (pairs_beside content) (not_in_rows tables rows q is))
