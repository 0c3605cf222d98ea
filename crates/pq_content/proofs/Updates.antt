-- What the changes of an update make of a content.
use Rattle.std.proofs.Common.{◌≡◌, ℕ, ◌+◌, ◌<◌, Bool, true, false, cond, ◌||◌, inl, inr, List, [], ◌∷◌, ◌++◌, Option, Some, None, is_some, refl, sym, ap, ◌∙◌, arith, append_assoc}
use Rattle.std.specs.Ordering.{eq_by_cmp}
use Rattle.std.specs.Cmp.Lexicographic.{nat_list_cmp_total}
use Rattle.std.specs.FinMap.{find, get, get-from_entries}
use Rattle.std.proofs.lemmas.Option.{none-some}
use Rattle.std.proofs.lemmas.Bool.{false≢true}
use Rattle.pq_base.specs.declared.value.Dir.{Dir}
use Rattle.pq_base.specs.declared.value.Value.{Value}
use Rattle.pq_base.specs.Values.{AllFit}
use Rattle.pq_schema.specs.declared.table.Index.{Index}
use Rattle.pq_schema.specs.declared.table.Table.{Table}
use Rattle.pq_schema.specs.Sequences.{index_sequence}
use Rattle.pq_schema.specs.Tables.{table_at}
use Rattle.pq_content.specs.Pairs.{Pair, Change, AreBeside, changed_content, puts, removals, entries_from, pairs_of_row, row_pairs, entry_changes, update_changes, content_pairs}
use Rattle.pq_key_code.specs.KeyCode.{row_key, entry_key}
use Rattle.pq_store.specs.Content.{key_cmp}
use Rattle.pq_content.specs.Tables.{Rows, types_of, key_of, same_values, values_of, dirs_of, row_at, rows_without, Keeps, stored_code}
use Rattle.pq_content.proofs.Changes.{same_content, after, get-changed, touches, after_untouched}
use Rattle.pq_content.proofs.Deletes.{IsOnly, only_row, delete_only}
use Rattle.pq_content.proofs.Find.{find-or_else, or_else}
use Rattle.pq_content.proofs.Gets.{EachFits}
use Rattle.pq_content.proofs.Keeping.{row_found}
use Rattle.pq_content.proofs.Keys.{same_key, key_itself}
use Rattle.pq_base.proofs.Members.{in_from_contains}
use Rattle.pq_base.specs.Members.{In}
use Rattle.pq_content.proofs.Owners.{entry_found}
use Rattle.pq_content.proofs.Values.{same_from_test}
use Rattle.pq_content.proofs.Writes.{after-puts, after-removals, later_entries, pairs_apart, insert_row}

after-append : (as' bs : List Change) (q : List ℕ) (x : Option (List ℕ)) → after (as' ++ bs) q x ≡ after bs q (after as' q x)
after-append [] bs q x = refl
after-append (a ∷ as') bs q x = after-append as' bs q (cond (eq_by_cmp key_cmp q a.0) a.1 x)

touches-append : (as' bs : List Change) (q : List ℕ) → touches as' q ≡ false → touches (as' ++ bs) q ≡ touches bs q
touches-append [] bs q h = refl
touches-append (a ∷ as') bs q h =
    elim (eq_by_cmp key_cmp q a.0) as (λ b. (b || touches as' q) ≡ false → (b || touches (as' ++ bs) q) ≡ touches bs q) [
      | true ↦ λ h. absurd (false≢true (sym h))
      | false ↦ λ h. touches-append as' bs q h
    ] h

-- the key of an entry of a row
abbrev key_in : ℕ → ℕ → Table → Index → List Value → List ℕ
key_in t i table index row = entry_key t i (dirs_of (index_sequence table index)) (values_of (index_sequence table index) row)

abbrev one_entry : ℕ → ℕ → Table → Index → List Value → List Value → List Change
one_entry t i table index old new =
    cond (same_values (values_of (index_sequence table index) old) (values_of (index_sequence table index) new)) []
    ((key_in t i table index old, None) ∷ (key_in t i table index new, Some []) ∷ [])

numbered : (t i j : ℕ) (ds es : List Dir) (v w : List Value) → i < j → eq_by_cmp key_cmp (entry_key t i ds v) (entry_key t j es w) ≡ false
numbered t i j ds es v w h =
    let a = entry_key t i ds v in
    let b = entry_key t j es w in
    elim (eq_by_cmp key_cmp a b) as (λ c. eq_by_cmp key_cmp a b ≡ c → c ≡ false) [
      | true ↦ λ is. let e = same_key a b is in let p : i ≡ j = cc in absurd (omega arith)
      | false ↦ λ _. refl
    ] refl

-- changes of later indexes leave an entry
later_changes : (t i j : ℕ) (table : Table) (indexes : List Index) (old new : List Value) (ds : List Dir) (v : List Value) → i < j → touches (entry_changes t j table indexes old new) (entry_key t i ds v) ≡ false
later_changes t i j table [] old new ds v h = refl
later_changes t i j table (index ∷ indexes) old new ds v h =
    let q = entry_key t i ds v in
    let sequence = index_sequence table index in
    let ko = key_in t j table index old in
    let kn = key_in t j table index new in
    let head : touches (one_entry t j table index old new) q ≡ false =
    elim (same_values (values_of sequence old) (values_of sequence new)) as (λ b. touches (cond b [] ((ko, None) ∷ (kn, Some []) ∷ [])) q ≡ false) [
      | true ↦ refl
      | false ↦ (λ k. numbered t i j ds (dirs_of sequence) v (values_of sequence old) h k || (numbered t i j ds (dirs_of sequence) v (values_of sequence new) h k || false))
    ] in
    touches-append (one_entry t j table index old new) (entry_changes t (j + 1) table indexes old new) q head
    ∙ later_changes t i (j + 1) table indexes old new ds v (omega arith)

row_unchanged : (t j : ℕ) (table : Table) (indexes : List Index) (old new k : List Value) → touches (entry_changes t j table indexes old new) (row_key t k) ≡ false
row_unchanged t j table [] old new k = refl
row_unchanged t j table (index ∷ indexes) old new k =
    let q = row_key t k in
    let sequence = index_sequence table index in
    let ko = key_in t j table index old in
    let kn = key_in t j table index new in
    let head : touches (one_entry t j table index old new) q ≡ false =
    elim (same_values (values_of sequence old) (values_of sequence new)) as (λ b. touches (cond b [] ((ko, None) ∷ (kn, Some []) ∷ [])) q ≡ false) [ true ↦ refl | false ↦ refl ] in
    touches-append (one_entry t j table index old new) (entry_changes t (j + 1) table indexes old new) q head ∙ row_unchanged t (j + 1) table indexes old new k

-- where q is the key of an entry of the old row, it has nothing as its value
abbrev Present : List ℕ → Option (List ℕ) → ℕ → ℕ → Table → List Index → List Value → Type 0
Present q x t i table [] old = Unit {0}
Present q x t i table (index ∷ indexes) old = (q ≡ key_in t i table index old → x ≡ Some []) × Present q x t (i + 1) table indexes old

after-entry_changes : (t i : ℕ) (table : Table) (indexes : List Index) (old new : List Value) (q : List ℕ) (x : Option (List ℕ)) → Present q x t i table indexes old → after (entry_changes t i table indexes old new) q x ≡ or_else (find key_cmp q (entries_from t i table indexes new)) (cond (is_some (find key_cmp q (entries_from t i table indexes old))) None x)
after-entry_changes t i table [] old new q x h = refl
after-entry_changes t i table (index ∷ indexes) old new q x h =
    let sequence = index_sequence table index in
    let vo = values_of sequence old in
    let vn = values_of sequence new in
    let ko = key_in t i table index old in
    let kn = key_in t i table index new in
    let more = entry_changes t (i + 1) table indexes old new in
    let eo = find key_cmp q (entries_from t (i + 1) table indexes old) in
    let en = find key_cmp q (entries_from t (i + 1) table indexes new) in
    let rhs = λ (a b : Bool). or_else (cond b (Some []) en) (cond (is_some (cond a (Some []) eo)) None x) in
    -- at a key of this index the later ones have no part
    let alone = λ (row : List Value) (is : q ≡ key_in t i table index row) (y : Option (List ℕ)). after_untouched more q y (ap (touches more) is ∙ later_changes t i (i + 1) table indexes old new (dirs_of sequence) (values_of sequence row) (omega arith)) in
    let none_old = λ (row : List Value) (is : q ≡ key_in t i table index row). ap (λ (k : List ℕ). find key_cmp k (entries_from t (i + 1) table indexes old)) is ∙ later_entries t i (i + 1) table indexes old (dirs_of sequence) (values_of sequence row) (omega arith) in
    let none_new = λ (row : List Value) (is : q ≡ key_in t i table index row). ap (λ (k : List ℕ). find key_cmp k (entries_from t (i + 1) table indexes new)) is ∙ later_entries t i (i + 1) table indexes new (dirs_of sequence) (values_of sequence row) (omega arith) in
    let rest_is = after-entry_changes t (i + 1) table indexes old new q x h.1 in
    after-append (one_entry t i table index old new) more q x
    ∙ elim (same_values vo vn) as (λ s. same_values vo vn ≡ s → after more q (after (cond s [] ((ko, None) ∷ (kn, Some []) ∷ [])) q x) ≡ rhs (eq_by_cmp key_cmp q ko) (eq_by_cmp key_cmp q kn)) [
      | true ↦ λ same.
          let values : vo ≡ vn = same_from_test vo vn same in
          let keys : eq_by_cmp key_cmp q ko ≡ eq_by_cmp key_cmp q kn = ap (λ (v : List Value). eq_by_cmp key_cmp q (entry_key t i (dirs_of sequence) v)) values in
          elim (eq_by_cmp key_cmp q ko) as (λ a. eq_by_cmp key_cmp q ko ≡ a → after more q x ≡ rhs a a) [
            | true ↦ λ is. let at = same_key q ko is in alone old at x ∙ h.0 at
            | false ↦ λ _. rest_is
          ] refl
          ∙ ap (rhs (eq_by_cmp key_cmp q ko)) keys
      | false ↦ λ _.
          elim (eq_by_cmp key_cmp q kn) as (λ b. eq_by_cmp key_cmp q kn ≡ b → after more q (cond b (Some []) (cond (eq_by_cmp key_cmp q ko) None x)) ≡ rhs (eq_by_cmp key_cmp q ko) b) [
            | true ↦ λ is. alone new (same_key q kn is) (Some [])
            | false ↦ λ _. elim (eq_by_cmp key_cmp q ko) as (λ a. eq_by_cmp key_cmp q ko ≡ a → after more q (cond a None x) ≡ rhs a false) [
              | true ↦ λ is. let at = same_key q ko is in alone old at None ∙ ap (λ (e : Option (List ℕ)). or_else e None) (sym (none_new old at))
              | false ↦ λ _. rest_is
            ] refl
          ] refl
    ] refl

-- the row's pair, and then its entries
after-update_changes : (t : ℕ) (table : Table) (old new : List Value) (q : List ℕ) (x : Option (List ℕ)) → key_of table old ≡ key_of table new → Present q x t 1 table table.indexes old → after (update_changes t table old new) q x ≡ or_else (find key_cmp q (pairs_of_row t table new)) (cond (is_some (find key_cmp q (pairs_of_row t table old))) None x)
after-update_changes t table old new q x key h =
    let k = row_key t (key_of table new) in
    let changes = entry_changes t 1 table table.indexes old new in
    let eo = find key_cmp q (entries_from t 1 table table.indexes old) in
    let en = find key_cmp q (entries_from t 1 table table.indexes new) in
    elim (eq_by_cmp key_cmp q k) as (λ b. eq_by_cmp key_cmp q k ≡ b → after changes q (cond b (Some (stored_code table new)) x) ≡ or_else (cond b (Some (stored_code table new)) en) (cond (is_some (cond b (Some (stored_code table old)) eo)) None x)) [
      | true ↦ λ is. after_untouched changes q (Some (stored_code table new)) (ap (touches changes) (same_key q k is) ∙ row_unchanged t 1 table table.indexes old new (key_of table new))
      | false ↦ λ _. after-entry_changes t 1 table table.indexes old new q x h
    ] refl
    ∙ ap (λ (k : List Value). or_else (find key_cmp q (pairs_of_row t table new)) (cond (is_some (cond (eq_by_cmp key_cmp q (row_key t k)) (Some (stored_code table old)) eo)) None x)) (sym key)

-- where one piece has the key of an entry, the list has it, with nothing as its value
pub entry_there : (tables : List Table) (rows : Rows) (others : List Pair) (e : ℕ × List Value) (u i : ℕ) (ds : List Dir) (v : List Value) → In e rows → find key_cmp (entry_key u i ds v) (pairs_of_row e.0 (table_at tables e.0) e.1) ≡ Some [] → find key_cmp (entry_key u i ds v) (row_pairs tables rows ++ others) ≡ Some []
entry_there tables [] others e u i ds v h found = absurd h
entry_there tables (f ∷ es) others e u i ds v h found =
    let q = entry_key u i ds v in
    let table = table_at tables f.0 in
    let own = entries_from f.0 1 table table.indexes f.1 in
    let rest = row_pairs tables es ++ others in
    ap (find key_cmp q) (append_assoc own (row_pairs tables es) others)
    ∙ find-or_else key_cmp q own rest
    ∙ elim (find key_cmp q own) as (λ o. find key_cmp q own ≡ o → or_else o (find key_cmp q rest) ≡ Some []) [
      | None ↦ λ none. elim h [
        | inl same ↦ absurd (none-some [] (sym none ∙ ap (λ (e : ℕ × List Value). find key_cmp q (pairs_of_row e.0 (table_at tables e.0) e.1)) same ∙ found))
        | inr j ↦ entry_there tables es others e u i ds v j found
      ]
      | Some w ↦ λ is. ap (λ (x : List ℕ). Some x) (entry_found f.0 1 table table.indexes f.1 q w is).empty
    ] refl

entry_own : (t i : ℕ) (table : Table) (indexes : List Index) (row : List Value) (q : List ℕ) (x : Option (List ℕ)) → ((u j : ℕ) (ds : List Dir) (v : List Value) → q ≡ entry_key u j ds v → find key_cmp q (entries_from t i table indexes row) ≡ Some [] → x ≡ Some []) → Present q x t i table indexes row
entry_own t i table [] row q x f = tt
entry_own t i table (index ∷ indexes) row q x f =
    let k = key_in t i table index row in
    let later = find key_cmp q (entries_from t (i + 1) table indexes row) in (
      λ is. f t i (dirs_of (index_sequence table index)) (values_of (index_sequence table index) row) is (ap (λ b. cond b (Some []) later) (ap (λ (q : List ℕ). eq_by_cmp key_cmp q k) is ∙ key_itself k)),
      entry_own t (i + 1) table indexes row q x (λ u j ds v is found. elim (eq_by_cmp key_cmp q k) as (λ b. eq_by_cmp key_cmp q k ≡ b → x ≡ Some []) [
        | true ↦ λ same. f u j ds v is (ap (λ b. cond b (Some []) later) same)
        | false ↦ λ other. f u j ds v is (ap (λ b. cond b (Some []) later) other ∙ found)
      ] refl),
    )

-- the changes of an update put the new row in the place of the old one
pub update_only : (tables : List Table) (rows : Rows) (others : List Pair) (t : ℕ) (old new : List Value) → In (t, old) rows → IsOnly tables rows t old → EachFits tables rows → AllFit (types_of (table_at tables t)) old → AreBeside others → key_of (table_at tables t) old ≡ key_of (table_at tables t) new → changed_content (update_changes t (table_at tables t) old new) (content_pairs tables rows others) ≡ content_pairs tables ((t, new) ∷ rows_without tables t (key_of (table_at tables t) old) rows) others
unfolding content_pairs
update_only tables rows others t old new there only each fits beside key =
    let table = table_at tables t in
    let c = content_pairs tables rows others in
    let ps = pairs_of_row t table old in
    let ns = pairs_of_row t table new in
    same_content (changed_content (update_changes t table old new) c) (changed_content (puts ns) (changed_content (removals ps) c)) (λ q.
    get-changed (update_changes t table old new) c q
    ∙ after-update_changes t table old new q (get c q) key (entry_own t 1 table table.indexes old q (get c q) (λ u j ds v is found.
    get-from_entries nat_list_cmp_total (row_pairs tables rows ++ others) q
    ∙ ap (λ (k : List ℕ). find key_cmp k (row_pairs tables rows ++ others)) is
    ∙ entry_there tables rows others (t, old) u j ds v there (sym (ap (λ (k : List ℕ). find key_cmp k (entries_from t 1 table table.indexes old)) is) ∙ found)))
    ∙ sym (after-puts ns q (cond (is_some (find key_cmp q ps)) None (get c q)) (pairs_apart t table new))
    ∙ ap (after (puts ns) q) (sym (after-removals ps q (get c q)) ∙ sym (get-changed (removals ps) c q))
    ∙ sym (get-changed (puts ns) (changed_content (removals ps) c) q))
    ∙ ap (changed_content (puts ns)) (delete_only tables rows others t old only each fits beside)
    ∙ insert_row tables (rows_without tables t (key_of table old) rows) others t new

-- an old row that is found by its key
pub update_row : (tables : List Table) (rows : Rows) (others : List Pair) (t : ℕ) (old new : List Value) → Keeps tables rows → AreBeside others → row_at tables rows t (key_of (table_at tables t) old) ≡ Some old → key_of (table_at tables t) old ≡ key_of (table_at tables t) new → changed_content (update_changes t (table_at tables t) old new) (content_pairs tables rows others) ≡ content_pairs tables ((t, new) ∷ rows_without tables t (key_of (table_at tables t) old) rows) others
update_row tables rows others t old new keeps beside found same =
    let of_old = row_found tables rows t (key_of (table_at tables t) old) old keeps found in
    update_only tables rows others t old new (in_from_contains rows (t, old) of_old.there) (only_row tables rows t old keeps.apart found) keeps.fit of_old.fits beside same
