-- What the changes of an insert make of a content.
use Rattle.std.proofs.Common.{◌≡◌, ℕ, ◌+◌, ◌<◌, true, false, cond, ◌||◌, List, [], ◌∷◌, ◌++◌, Option, Some, None, is_some, refl, sym, ap, ◌∙◌, arith, append_assoc}
use Rattle.std.specs.Ordering.{eq_by_cmp}
use Rattle.std.specs.Cmp.Lexicographic.{nat_list_cmp_total}
use Rattle.std.specs.FinMap.{find, insert, get-from_entries}
use Rattle.pq_base.specs.declared.value.Dir.{Dir}
use Rattle.pq_base.specs.declared.value.Value.{Value}
use Rattle.pq_schema.specs.declared.table.Index.{Index}
use Rattle.pq_schema.specs.declared.table.Table.{Table}
use Rattle.pq_schema.specs.Sequences.{index_sequence}
use Rattle.pq_schema.specs.Tables.{table_at}
use Rattle.pq_content.specs.Pairs.{Pair, changed_content, puts, removals, entry_pair, entries_from, pairs_of_row, row_pairs, content_pairs}
use Rattle.pq_key_code.specs.KeyCode.{row_key, entry_key}
use Rattle.pq_store.specs.Content.{key_cmp}
use Rattle.pq_content.specs.Tables.{Rows, key_of, dirs_of, values_of, stored_code}
use Rattle.pq_content.proofs.Changes.{same_content, after, get-changed, touches, after_untouched}
use Rattle.pq_content.proofs.Find.{find-or_else, or_else}
use Rattle.pq_content.proofs.Keys.{same_key, no_entry}

pub touches-puts : (es : List Pair) (q : List ℕ) → touches (puts es) q ≡ is_some (find key_cmp q es)
touches-puts [] q = refl
touches-puts (e ∷ es) q = elim (eq_by_cmp key_cmp q e.0) as (λ b. (b || touches (puts es) q) ≡ is_some (cond b (Some e.1) (find key_cmp q es))) [ true ↦ refl | false ↦ touches-puts es q ]

-- no key stands twice
abbrev pub Apart : List Pair → Type 0
Apart [] = Unit {0}
Apart (e ∷ es) = (find key_cmp e.0 es ≡ None) × Apart es

-- pairs that are written are found as in a list that begins with them
pub after-puts : (es : List Pair) (q : List ℕ) (old : Option (List ℕ)) → Apart es → after (puts es) q old ≡ or_else (find key_cmp q es) old
after-puts [] q old h = refl
after-puts (e ∷ es) q old h =
    elim (eq_by_cmp key_cmp q e.0) as (λ b. eq_by_cmp key_cmp q e.0 ≡ b → after (puts es) q (cond b (Some e.1) old) ≡ or_else (cond b (Some e.1) (find key_cmp q es)) old) [
      | true ↦ λ is. after_untouched (puts es) q (Some e.1) (touches-puts es q ∙ ap (λ (k : List ℕ). is_some (find key_cmp k es)) (same_key q e.0 is) ∙ ap is_some h.0)
      | false ↦ λ is. after-puts es q old h.1
    ] refl

pub after-removals : (es : List Pair) (q : List ℕ) (old : Option (List ℕ)) → after (removals es) q old ≡ cond (is_some (find key_cmp q es)) None old
after-removals [] q old = refl
after-removals (e ∷ es) q old =
    elim (eq_by_cmp key_cmp q e.0) as (λ b. after (removals es) q (cond b None old) ≡ cond (is_some (cond b (Some e.1) (find key_cmp q es))) None old) [
      | true ↦ after-removals es q None ∙ elim (is_some (find key_cmp q es)) as (λ b. cond {A = Option (List ℕ)} b None None ≡ None) [ true ↦ refl | false ↦ refl ]
      | false ↦ after-removals es q old
    ]

-- an entry's key is that of no entry of a later index
pub later_entries : (t i j : ℕ) (table : Table) (indexes : List Index) (row : List Value) (dirs : List Dir) (values : List Value) → i < j → find key_cmp (entry_key t i dirs values) (entries_from t j table indexes row) ≡ None
later_entries t i j table [] row dirs values h = refl
later_entries t i j table (index ∷ indexes) row dirs values h =
    let q = entry_key t i dirs values in
    let k = (entry_pair t j (index_sequence table index) row).0 in
    elim (eq_by_cmp key_cmp q k) as (λ b. eq_by_cmp key_cmp q k ≡ b → cond b (Some []) (find key_cmp q (entries_from t (j + 1) table indexes row)) ≡ None) [
      | true ↦ λ is. let e = same_key q k is in let p : i ≡ j = cc in absurd (omega arith)
      | false ↦ λ is. later_entries t i (j + 1) table indexes row dirs values (omega arith)
    ] refl

entries_apart : (t i : ℕ) (table : Table) (indexes : List Index) (row : List Value) → Apart (entries_from t i table indexes row)
entries_apart t i table [] row = tt
entries_apart t i table (index ∷ indexes) row =
    let sequence = index_sequence table index in
    (later_entries t i (i + 1) table indexes row (dirs_of sequence) (values_of sequence row) (omega arith), entries_apart t (i + 1) table indexes row)

pub pairs_apart : (t : ℕ) (table : Table) (row : List Value) → Apart (pairs_of_row t table row)
pairs_apart t table row = (no_entry t t 1 table table.indexes row (key_of table row), entries_apart t 1 table table.indexes row)

-- a row's pair and its entries, written one after the other, add the row
pub insert_row : (tables : List Table) (rows : Rows) (others : List Pair) (t : ℕ) (row : List Value) → changed_content (puts (pairs_of_row t (table_at tables t) row)) (content_pairs tables rows others) ≡ content_pairs tables ((t, row) ∷ rows) others
unfolding content_pairs
insert_row tables rows others t row =
    let new = pairs_of_row t (table_at tables t) row in
    let old = row_pairs tables rows ++ others in
    same_content _ _ (λ q.
    get-changed (puts new) (content_pairs tables rows others) q
    ∙ after-puts new q _ (pairs_apart t (table_at tables t) row)
    ∙ ap (or_else (find key_cmp q new)) (get-from_entries nat_list_cmp_total old q)
    ∙ sym (find-or_else key_cmp q new old)
    ∙ ap (find key_cmp q) (sym (append_assoc new (row_pairs tables rows) others))
    ∙ sym (get-from_entries nat_list_cmp_total (row_pairs tables ((t, row) ∷ rows) ++ others) q))

-- a table with no indexes takes one write
pub insert_plain_row : (tables : List Table) (rows : Rows) (others : List Pair) (t : ℕ) (row : List Value) → (table_at tables t).indexes ≡ [] → insert (content_pairs tables rows others) (row_key t (key_of (table_at tables t) row)) (stored_code (table_at tables t) row) ≡ content_pairs tables ((t, row) ∷ rows) others
insert_plain_row tables rows others t row none =
    let table = table_at tables t in
    let c = content_pairs tables rows others in
    let own : Pair = (row_key t (key_of table row), stored_code table row) in
    ap (λ (indexes : List Index). changed_content (puts (own ∷ entries_from t 1 table indexes row)) c) (sym none)
    ∙ insert_row tables rows others t row
