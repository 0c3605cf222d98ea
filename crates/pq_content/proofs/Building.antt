-- A content in which an index is being filled: from a table without it to one with it.
use Rattle.std.proofs.Common.{◌≡◌, ℕ, zero, suc, ◌+◌, ◌-◌, Bool, true, false, cond, not, ◌&&◌, ◌||◌, ◌==◌, inl, inr, List, [], ◌∷◌, ◌++◌, length, Option, Some, None, refl, sym, ap, ◌∙◌, subst, arith, add-zero}
use Rattle.std.specs.Prelude.{slice_get, slice_index_or}
use Rattle.std.specs.Ordering.{eq_by_cmp}
use Rattle.std.specs.declared.cmp.Ordering.TheVariants.{Equal}
use Rattle.std.specs.Cmp.Lexicographic.{nat_list_cmp_total}
use Rattle.std.specs.FinMap.{find, get, get-entries, insert, retain_keys, entries, entries_sorted, get-insert, get-retain_keys, from_entries, get-from_entries}
use Rattle.std.specs.FinMap.Entries.{where_key, find-where_key, is_sorted-where_key, same_entries}
use Rattle.std.proofs.lemmas.Bool.{false≢true, eqb-true, eq-eqb, and_parts, cases_eq}
use Rattle.std.proofs.lemmas.List.{get_or-set_same, get_or-set_other, length-set}
use Rattle.std.proofs.lemmas.Option.{none-some, same_Some, slice_get_within}
use Rattle.pq_base.specs.declared.value.Value.{Value}
use Rattle.pq_schema.specs.declared.table.Index.{Index}
use Rattle.pq_schema.specs.declared.table.Table.{Table}
use Rattle.pq_schema.specs.Sequences.{index_sequence}
use Rattle.pq_schema.specs.Tables.{table_at, no_table}
use Rattle.pq_content.specs.Pairs.{Pair, AreBeside, row_pair, entry_pair, entries_from, pairs_of_row, row_pairs, content_pairs, is_of_rows}
use Rattle.pq_store.specs.Content.{key_cmp, Content, pairs_within}
use Rattle.pq_content.specs.Standing.{IsFilledPartOf, is_numbered, is_entry_of}
use Rattle.pq_content.specs.Tables.{Rows, dirs_of, values_of, IsTableNumber, Keeps, stored_code}
use Rattle.pq_content.proofs.Changes.{same_content, bytes_apart}
use Rattle.pq_content.proofs.Find.{find-or_else, or_else, find_front}
use Rattle.pq_content.proofs.Keys.{same_key, key_itself, not_beside}
use Rattle.pq_base.specs.Members.{In}
use Rattle.pq_content.proofs.MoreTables.{EachKnown}
use Rattle.pq_content.proofs.Owners.{IsEntry, entry_found, pair_found}
use Rattle.pq_content.proofs.Permuted.{found_piece}
use Rattle.pq_content.proofs.Ranges.{in_range}
use Rattle.pq_content.proofs.Shapes.{SameShapes, keeps-shape}
use Rattle.pq_content.proofs.Updates.{entry_there}
use Rattle.pq_key_code.specs.KeyCode.{code_of}
use Rattle.pq_content.proofs.Codes.{same_fillers_code}
use Rattle.pq_schema.specs.Schema.{with_wanted, with_new_index}

-- ---- a part of a content

alike : (f : List ℕ → Bool) (q x : List ℕ) → key_cmp q x ≡ Equal → f x ≡ f q
alike f q x e = ap f (sym (bytes_apart q x e))

get-retained : (p : Content) (keep : List ℕ → Bool) (q : List ℕ) → get (retain_keys p keep) q ≡ cond (keep q) (get p q) None
get-retained p keep q = get-retain_keys p keep q (alike keep q)

-- a pair of the whole is written
pub part_written : (may_miss : List ℕ → Bool) (p c : Content) (k v : List ℕ) → get p k ≡ Some v → IsFilledPartOf may_miss p c → IsFilledPartOf may_miss p (insert c k v)
part_written may_miss p c k v has part =
    let keep = λ (q : List ℕ). eq_by_cmp key_cmp q k || part.0 q in (
      keep,
      λ q h. ap (λ b. eq_by_cmp key_cmp q k || b) (part.1 q h) ∙ or_true (eq_by_cmp key_cmp q k),
      same_content (insert c k v) (retain_keys p keep) (λ q.
          get-insert nat_list_cmp_total c k v q
          ∙ ap (cond (eq_by_cmp key_cmp q k) (Some v)) (ap (λ (c : Content). get c q) part.2 ∙ get-retained p part.0 q)
          ∙ elim (eq_by_cmp key_cmp q k) as (λ b. eq_by_cmp key_cmp q k ≡ b → cond b (Some v) (cond (part.0 q) (get p q) None) ≡ cond (b || part.0 q) (get p q) None) [
            | true ↦ λ is. sym has ∙ ap (get p) (sym (same_key q k is))
            | false ↦ λ _. refl
          ] refl
          ∙ sym (get-retained p keep q)),
    )
  where
    or_true : (b : Bool) → (b || true) ≡ true
    or_true true = refl
    or_true false = refl

-- a key that may not be missing is looked up as in the whole
pub get_part : (may_miss : List ℕ → Bool) (p c : Content) (q : List ℕ) → IsFilledPartOf may_miss p c → may_miss q ≡ false → get c q ≡ get p q
get_part may_miss p c q part safe = ap (λ (c : Content). get c q) part.2 ∙ get-retained p part.0 q ∙ ap (λ b. cond b (get p q) None) (part.1 q safe)

-- where each pair of the whole is there, the part is the whole
pub part_whole : (may_miss : List ℕ → Bool) (p c : Content) → IsFilledPartOf may_miss p c → ((q v : List ℕ) → may_miss q ≡ true → get p q ≡ Some v → get c q ≡ Some v) → c ≡ p
part_whole may_miss p c part all = same_content c p (λ q.
    elim (may_miss q) as (λ b. may_miss q ≡ b → get c q ≡ get p q) [
      | true ↦ λ may. elim (get p q) as (λ o. get p q ≡ o → get c q ≡ o) [
        | None ↦ λ none. ap (λ (c : Content). get c q) part.2 ∙ get-retained p part.0 q ∙ ap (λ (o : Option (List ℕ)). cond (part.0 q) o None) none ∙ elim (part.0 q) as (λ b. cond {A = Option (List ℕ)} b None None ≡ None) [ true ↦ refl | false ↦ refl ]
        | Some v ↦ λ has. all q v may has
      ] refl
      | false ↦ λ safe. get_part may_miss p c q part safe
    ] refl)

-- a range of keys that may not be missing answers as in the whole
pub part_range : (may_miss : List ℕ → Bool) (p c : Content) (low high : List ℕ) → IsFilledPartOf may_miss p c → ((q : List ℕ) → in_range low high q ≡ true → may_miss q ≡ false) → pairs_within c low high ≡ pairs_within p low high
part_range may_miss p c low high part safe =
    let f = in_range low high in
    same_entries key_cmp nat_list_cmp_total bytes_apart (where_key key_cmp f (entries c)) (where_key key_cmp f (entries p)) (is_sorted-where_key key_cmp f (entries c) (entries_sorted c)) (is_sorted-where_key key_cmp f (entries p) (entries_sorted p)) (λ q.
    find-where_key key_cmp f q (alike f q) (entries c)
    ∙ elim (f q) as (λ b. f q ≡ b → cond b (find key_cmp q (entries c)) (find key_cmp q []) ≡ cond b (find key_cmp q (entries p)) (find key_cmp q [])) [
      | true ↦ λ is. sym (get-entries c q) ∙ get_part may_miss p c q part (safe q is) ∙ get-entries p q
      | false ↦ λ _. refl
    ] refl
    ∙ sym (find-where_key key_cmp f q (alike f q) (entries p)))

-- ---- tables with one more index

-- the tables, one of which has this index behind its others
abbrev with_index : List Table → ℕ → Index → List Table
with_index tables t index = with_wanted tables (Some (record { table = t; number = 1 + length (table_at tables t).indexes; index = index }))

table_at-own : (tables : List Table) (t : ℕ) (index : Index) → IsTableNumber tables t → table_at (with_index tables t index) t ≡ with_new_index (table_at tables t) index
table_at-own tables t index is = get_or-set_same tables (t - 1) (with_new_index (table_at tables t) index) no_table (let low = is.0 in let high = is.1 in omega arith)

table_at-other : (tables : List Table) (t u : ℕ) (index : Index) → (u - 1 ≡ t - 1 → ⊥) → table_at (with_index tables t index) u ≡ table_at tables u
table_at-other tables t u index other = get_or-set_other tables (t - 1) (u - 1) (with_new_index (table_at tables t) index) no_table other

same_shapes : (tables : List Table) (t : ℕ) (index : Index) → IsTableNumber tables t → SameShapes tables (with_index tables t index)
same_shapes tables t index is = record {
  many = sym (length-set tables (t - 1) (with_new_index (table_at tables t) index));
  each = λ u. elim (cases_eq (u - 1) (t - 1)) [
    | inl same ↦
        let one : table_at (with_index tables t index) u ≡ with_new_index (table_at tables t) index = ap (λ (n : ℕ). slice_index_or (with_index tables t index) n no_table) same ∙ table_at-own tables t index is in
        let old : table_at tables u ≡ table_at tables t = ap (λ (n : ℕ). slice_index_or tables n no_table) same in
        record {
          key = ap (λ (x : Table). x.key) old ∙ sym (ap (λ (x : Table). x.key) one);
          columns = ap (λ (x : Table). x.columns) old ∙ sym (ap (λ (x : Table). x.columns) one);
          fillers = ap (λ (x : Table). x.fillers) old ∙ sym (ap (λ (x : Table). x.fillers) one);
          limits = ap (λ (x : Table). x.limits) old ∙ sym (ap (λ (x : Table). x.limits) one);
          foreign = ap (λ (x : Table). x.foreign) old ∙ sym (ap (λ (x : Table). x.foreign) one);
        }
    | inr other ↦
        let one : table_at tables u ≡ table_at (with_index tables t index) u = sym (table_at-other tables t u index other) in
        record {
          key = ap (λ (x : Table). x.key) one;
          columns = ap (λ (x : Table). x.columns) one;
          fillers = ap (λ (x : Table). x.fillers) one;
          limits = ap (λ (x : Table). x.limits) one;
          foreign = ap (λ (x : Table). x.foreign) one;
        }
  ];
}

-- the same rows keep the tables
pub keeps-index : (tables : List Table) (rows : Rows) (t : ℕ) (index : Index) → IsTableNumber tables t → Keeps tables rows → Keeps (with_index tables t index) rows
keeps-index tables rows t index is keeps = keeps-shape tables (with_index tables t index) (same_shapes tables t index is) rows keeps

-- ---- the pairs of tables with one more index

slice_get_last : {X : Type 0} (xs : List X) (x : X) → slice_get (xs ++ x ∷ []) (length xs) ≡ Some x
slice_get_last [] x = refl
slice_get_last (y ∷ xs) x = slice_get_last xs x

entry_of_itself : (t i : ℕ) (code : List ℕ) → is_entry_of t i (3 ∷ t ∷ i ∷ code) ≡ true
entry_of_itself t i code = λ k. (eq-eqb t t refl k && eq-eqb i i refl k)

entry_numbers : (t i u j : ℕ) (code : List ℕ) → is_entry_of t i (3 ∷ u ∷ j ∷ code) ≡ true → (u ≡ t) × (j ≡ i)
entry_numbers t i u j code h = let parts = and_parts (u == t) (j == i) h in (eqb-true u t parts.0, eqb-true j i parts.1)

entry_space : (t i : ℕ) (q : List ℕ) → is_entry_of t i q ≡ true → is_of_rows q ≡ true
entry_space t i [] h = absurd (false≢true h)
entry_space t i (a ∷ q) h = ap (λ (x : ℕ). x == 2 || x == 3) (eqb-true a 3 (and_parts (a == 3) (is_numbered t i q) h).0)

-- a pair of a row at an entry's key is that of its index
entry_of_row : (t i u : ℕ) (table : Table) (row : List Value) (q v : List ℕ) → is_entry_of t i q ≡ true → find key_cmp q (pairs_of_row u table row) ≡ Some v → (u ≡ t) × (entry : IsEntry u 1 table table.indexes row q v) × (1 + entry.place ≡ i)
entry_of_row t i u table row q v of_index found =
    elim (pair_found u table row q v found) [
      | inl own ↦ absurd (false≢true (ap (is_entry_of t i) (sym own) ∙ of_index))
      | inr h ↦
          let entry = entry_found u 1 table table.indexes row q v h in
          let numbers = entry_numbers t i u (1 + entry.place) (code_of (dirs_of (index_sequence table entry.index)) (values_of (index_sequence table entry.index) row)) (ap (is_entry_of t i) (sym entry.key_is) ∙ of_index) in
          (numbers.0, entry, numbers.1)
    ]

-- each row has its entry in each index
own_entry : (t j place : ℕ) (table : Table) (indexes : List Index) (index : Index) (row : List Value) → slice_get indexes place ≡ Some index → find key_cmp (entry_pair t (j + place) (index_sequence table index) row).0 (entries_from t j table indexes row) ≡ Some []
own_entry t j place table [] index row has = absurd (none-some index has)
own_entry t j zero table (first ∷ indexes) index row has =
    let k = (entry_pair t j (index_sequence table first) row).0 in
    let at = (entry_pair t (j + zero) (index_sequence table index) row).0 in
    let one : index ≡ first = sym (same_Some first index has) in
    let same : at ≡ k = (λ x. (entry_pair t (add-zero j x) (index_sequence table (one x)) row).0) in
    ap (λ b. cond b (Some []) (find key_cmp at (entries_from t (j + 1) table indexes row))) (ap (λ (q : List ℕ). eq_by_cmp key_cmp q k) same ∙ key_itself k)
own_entry t j (suc place) table (first ∷ indexes) index row has =
    let k = (entry_pair t j (index_sequence table first) row).0 in
    let at = λ (n : ℕ). (entry_pair t n (index_sequence table index) row).0 in
    let next : j + 1 + place ≡ j + suc place = omega arith in
    let rest : find key_cmp (at (j + suc place)) (entries_from t (j + 1) table indexes row) ≡ Some [] = subst (λ (n : ℕ). find key_cmp (at n) (entries_from t (j + 1) table indexes row) ≡ Some []) next (own_entry t (j + 1) place table indexes index row has) in
    elim (eq_by_cmp key_cmp (at (j + suc place)) k) as (λ b. cond b (Some []) (find key_cmp (at (j + suc place)) (entries_from t (j + 1) table indexes row)) ≡ Some []) [ true ↦ refl | false ↦ rest ]

pub get_entry : (tables : List Table) (rows : Rows) (others : List Pair) (t place : ℕ) (index : Index) (row : List Value) → In (t, row) rows → slice_get (table_at tables t).indexes place ≡ Some index → get (content_pairs tables rows others) (entry_pair t (1 + place) (index_sequence (table_at tables t) index) row).0 ≡ Some []
unfolding content_pairs
get_entry tables rows others t place index row there has =
    let table = table_at tables t in
    let sequence = index_sequence table index in
    get-from_entries nat_list_cmp_total (row_pairs tables rows ++ others) _
    ∙ entry_there tables rows others (t, row) t (1 + place) (dirs_of sequence) (values_of sequence row) there (own_entry t 1 place table table.indexes index row has)

-- the entry of the last index
last_entry : (t u : ℕ) (table more : Table) (index : Index) (row : List Value) (q v : List ℕ) → u ≡ t → more ≡ with_new_index table index → (entry : IsEntry u 1 more more.indexes row q v) → 1 + entry.place ≡ 1 + length table.indexes → q ≡ (entry_pair t (1 + length table.indexes) (index_sequence table index) row).0
last_entry t u table more index row q v one table_is entry number =
    let place : entry.place ≡ length table.indexes = omega arith in
    let at : slice_get more.indexes entry.place ≡ slice_get (table.indexes ++ index ∷ []) (length table.indexes) = (λ i. slice_get (table_is i).indexes (place i)) in
    let last : entry.index ≡ index = same_Some entry.index index (sym entry.there ∙ at ∙ slice_get_last table.indexes index) in
    entry.key_is ∙ (λ i. (entry_pair (one i) (number i) (index_sequence (table_is i) (last i)) row).0)

module _ (tables : List Table) (t : ℕ) (index : Index) (is : IsTableNumber tables t) where
  abbrev number : ℕ
  number = 1 + length (table_at tables t).indexes

  more_entries : (j : ℕ) (indexes : List Index) (row : List Value) (q : List ℕ) → is_entry_of t (j + length indexes) q ≡ false → find key_cmp q (entries_from t j (table_at tables t) indexes row) ≡ find key_cmp q (entries_from t j (with_new_index (table_at tables t) index) (indexes ++ index ∷ []) row)
  more_entries j [] row q other =
      let k = (entry_pair t j (index_sequence (table_at tables t) index) row).0 in
      elim (eq_by_cmp key_cmp q k) as (λ b. eq_by_cmp key_cmp q k ≡ b → find {X = List ℕ} key_cmp q [] ≡ cond b (Some []) (find {X = List ℕ} key_cmp q [])) [
        | true ↦ λ same. absurd (false≢true (sym other ∙ ap (is_entry_of t (j + 0)) (same_key q k same) ∙ ap (λ (n : ℕ). (t == t) && (j == n)) (add-zero j) ∙ entry_of_itself t j []))
        | false ↦ λ _. refl
      ] refl
  more_entries j (first ∷ indexes) row q other =
      let k = (entry_pair t j (index_sequence (table_at tables t) first) row).0 in
      let next : j + suc (length indexes) ≡ j + 1 + length indexes = omega arith in
      ap (cond (eq_by_cmp key_cmp q k) (Some [])) (more_entries (j + 1) indexes row q (ap (λ (n : ℕ). is_entry_of t n q) (sym next) ∙ other))

  same_pairs : (rows : Rows) (q : List ℕ) → EachKnown tables rows → is_entry_of t number q ≡ false → find key_cmp q (row_pairs tables rows) ≡ find key_cmp q (row_pairs (with_index tables t index) rows)
  same_pairs [] q known other = refl
  same_pairs (e ∷ es) q known other =
      let own = λ (ts : List Table). find key_cmp q (pairs_of_row e.0 (table_at ts e.0) e.1) in
      let rest = λ (ts : List Table). find key_cmp q (row_pairs ts es) in
      let later : rest tables ≡ rest (with_index tables t index) = same_pairs es q known.1 other in
      let here : own tables ≡ own (with_index tables t index) = elim (cases_eq e.0 t) [
        | inl same ↦
            let P : ℕ → Type 0 = λ n. find key_cmp q (pairs_of_row n (table_at tables n) e.1) ≡ find key_cmp q (pairs_of_row n (table_at (with_index tables t index) n) e.1) in
            let old = table_at tables t in
            let k = (row_pair t old e.1).0 in
            let at : P t =
            ap (cond (eq_by_cmp key_cmp q k) (Some (stored_code old e.1))) (more_entries 1 old.indexes e.1 q other)
            ∙ ap (λ (code : List ℕ). cond (eq_by_cmp key_cmp q k) (Some code) (find key_cmp q (entries_from t 1 (with_new_index old index) (old.indexes ++ index ∷ []) e.1))) (same_fillers_code old (with_new_index old index) e.1 refl)
            ∙ ap (λ (x : Table). find key_cmp q (pairs_of_row t x e.1)) (sym (table_at-own tables t index is)) in
            subst P (sym same) at
        | inr apart ↦
            let low = known.0.0 in
            let low' = is.0 in
            let differs : e.0 - 1 ≡ t - 1 → ⊥ = λ same. apart (omega arith) in
            ap (λ (x : Table). find key_cmp q (pairs_of_row e.0 x e.1)) (sym (table_at-other tables t e.0 index differs))
      ] in
      find-or_else key_cmp q (pairs_of_row e.0 (table_at tables e.0) e.1) (row_pairs tables es)
      ∙ (λ i. or_else (here i) (later i))
      ∙ sym (find-or_else key_cmp q (pairs_of_row e.0 (table_at (with_index tables t index) e.0) e.1) (row_pairs (with_index tables t index) es))

  -- no entry of an index that is not there yet
  none_yet : (rows : Rows) (others : List Pair) (q : List ℕ) → AreBeside others → is_entry_of t number q ≡ true → find key_cmp q (row_pairs tables rows ++ others) ≡ None
  none_yet rows others q beside of_index =
      let g = λ (e : ℕ × List Value). pairs_of_row e.0 (table_at tables e.0) e.1 in
      let found = find key_cmp q (row_pairs tables rows) in
      let front : found ≡ None = elim found as (λ o. found ≡ o → o ≡ None) [
        | None ↦ λ _. refl
        | Some v ↦ λ h.
            let piece = found_piece g q v rows h in
            let own = entry_of_row t number piece.0.0 (table_at tables piece.0.0) piece.0.1 q v of_index piece.2 in
            let within = slice_get_within (table_at tables piece.0.0).indexes own.1.place own.1.index own.1.there in
            let long : length (table_at tables piece.0.0).indexes ≡ length (table_at tables t).indexes = ap (λ (n : ℕ). length (table_at tables n).indexes) own.0 in
            let same = own.2 in
            absurd (omega arith)
      ] refl in
      find-or_else key_cmp q (row_pairs tables rows) others
      ∙ (λ i. or_else (front i) (not_beside others q beside (entry_space t number q of_index) i))

  -- a content without the index is one with it, but that its entries are missing
  pub none_filled : (rows : Rows) (others : List Pair) → EachKnown tables rows → AreBeside others → IsFilledPartOf (is_entry_of t number) (content_pairs (with_index tables t index) rows others) (content_pairs tables rows others)
  unfolding content_pairs
  none_filled rows others known beside =
      let keep = λ (q : List ℕ). not (is_entry_of t number q) in
      let old = row_pairs tables rows in
      let new = row_pairs (with_index tables t index) rows in
      let whole = from_entries {R = key_cmp} (new ++ others) in (
        keep,
        λ q safe. ap not safe,
        same_content (from_entries {R = key_cmp} (old ++ others)) (retain_keys whole keep) (λ q.
            get-from_entries nat_list_cmp_total (old ++ others) q
            ∙ elim (is_entry_of t number q) as (λ b. is_entry_of t number q ≡ b → find key_cmp q (old ++ others) ≡ cond (not b) (find key_cmp q (new ++ others)) None) [
              | true ↦ λ of_index. none_yet rows others q beside of_index
              | false ↦ λ other.
                  find-or_else key_cmp q old others
                  ∙ ap (λ (o : Option (List ℕ)). or_else o (find key_cmp q others)) (same_pairs rows q known other)
                  ∙ sym (find-or_else key_cmp q new others)
            ] refl
            ∙ ap (λ (o : Option (List ℕ)). cond (keep q) o None) (sym (get-from_entries nat_list_cmp_total (new ++ others) q))
            ∙ sym (get-retained whole keep q)),
      )

  -- where each row's entry is there, the content is the whole
  pub all_filled : (rows : Rows) (others : List Pair) (c : Content) → AreBeside others → IsFilledPartOf (is_entry_of t number) (content_pairs (with_index tables t index) rows others) c → ((row : List Value) → In (t, row) rows → get c (entry_pair t number (index_sequence (table_at tables t) index) row).0 ≡ Some []) → c ≡ content_pairs (with_index tables t index) rows others
  unfolding content_pairs
  all_filled rows others c beside part filled =
      let more = with_index tables t index in
      let g = λ (e : ℕ × List Value). pairs_of_row e.0 (table_at more e.0) e.1 in
      let new = row_pairs more rows in
      part_whole (is_entry_of t number) (from_entries {R = key_cmp} (new ++ others)) c part (λ q v of_index has.
      let listed : find key_cmp q (new ++ others) ≡ Some v = sym (get-from_entries nat_list_cmp_total (new ++ others) q) ∙ has in
      let front : find key_cmp q new ≡ Some v = sym (find_front key_cmp q new others (not_beside others q beside (entry_space t number q of_index))) ∙ listed in
      let piece = found_piece g q v rows front in
      let own = entry_of_row t number piece.0.0 (table_at more piece.0.0) piece.0.1 q v of_index piece.2 in
      let table_is : table_at more piece.0.0 ≡ with_new_index (table_at tables t) index = ap (table_at more) own.0 ∙ table_at-own tables t index is in
      let key_is = last_entry t piece.0.0 (table_at tables t) (table_at more piece.0.0) index piece.0.1 q v own.0 table_is own.1 own.2 in
      let member : In (t, piece.0.1) rows = subst (λ (n : ℕ). In (n, piece.0.1) rows) own.0 piece.1 in
      let there : get c q ≡ Some [] = ap (get c) key_is ∙ filled piece.0.1 member in
      there ∙ ap (λ (x : List ℕ). Some x) (sym own.1.empty))
