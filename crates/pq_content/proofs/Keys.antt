-- Keys in the store: which keys are equal, and in which space they lie.
use Rattle.std.proofs.Common.{◌≡◌, ℕ, ◌+◌, ◌≤◌, true, false, cond, ◌&&◌, ◌==◌, nat_eq, List, [], ◌∷◌, ◌++◌, length, replicate, Some, None, refl, sym, ap, ◌∙◌, arith, not, ◌||◌, Bool}
use Rattle.std.specs.Ordering.{eq_by_cmp, ordering_then}
use Rattle.std.specs.Cmp.{Equal-is, tied_itself, nat_cmp_total, nat_eq_equiv, eq_by_cmp_equiv}
use Rattle.std.specs.Cmp.Lexicographic.{nat_list_cmp_total, pointwise, texts_ties}
use Rattle.std.specs.FinMap.{find}
use Rattle.std.proofs.lemmas.Bool.{false≢true, eqb-true, or_parts}
use Rattle.std.proofs.lemmas.List.{append-nil, length-replicate}
use Rattle.pq_base.specs.declared.value.ColType.{ColType}
use Rattle.pq_base.specs.declared.value.Dir.{Dir}
use Rattle.pq_base.specs.declared.value.Dir.TheVariants.{Asc}
use Rattle.pq_base.specs.declared.value.Value.{Value}
use Rattle.pq_schema.specs.declared.table.Index.{Index}
use Rattle.pq_schema.specs.declared.table.Table.{Table}
use Rattle.pq_schema.specs.Sequences.{index_sequence}
use Rattle.pq_schema.specs.Tables.{table_at}
use Rattle.pq_content.specs.Pairs.{Pair, is_in_space, AreCatalog, entry_pair, entries_from, pairs_of_row, row_pairs, AreBeside, is_of_rows, AreOfCounters, is_of_counters}
use Rattle.pq_key_code.specs.KeyCode.{row_key, code_of}
use Rattle.pq_store.specs.Content.{key_cmp}
use Rattle.pq_content.specs.Tables.{Rows, AllOfKinds, same_values, stored_code, key_of}
use Rattle.pq_content.proofs.Changes.{bytes_apart}
use Rattle.pq_content.proofs.Find.{find_rest}
use Rattle.pq_content.proofs.Values.{same_values_decides, same_from_test, both_ways, AreValues_from_kinds, SameKinds_from_kinds, length_from_kinds}
use Rattle.pq_key_code.proofs.Order.{codes_apart}

pub same_key : (q k : List ℕ) → eq_by_cmp key_cmp q k ≡ true → q ≡ k
same_key q k h = bytes_apart q k ((Equal-is (key_cmp q k)).0 h)

pub key_itself : (k : List ℕ) → eq_by_cmp key_cmp k k ≡ true
key_itself k = (eq_by_cmp_equiv nat_list_cmp_total).refl k

-- the part of keys behind a byte that they share
pub cmp-cons : (x : ℕ) (a b : List ℕ) → key_cmp (x ∷ a) (x ∷ b) ≡ key_cmp a b
cmp-cons x a b = ap (λ r. ordering_then r (key_cmp a b)) (tied_itself nat_cmp_total x)

-- ---- spaces

-- a key that fails a test is not one that passes it
pub apart_by : (test : List ℕ → Bool) (q k : List ℕ) → test k ≡ true → test q ≡ false → eq_by_cmp key_cmp q k ≡ false
apart_by test q k passes fails =
    elim (eq_by_cmp key_cmp q k) as (λ b. eq_by_cmp key_cmp q k ≡ b → b ≡ false) [
      | true ↦ λ is. absurd (false≢true (sym fails ∙ ap test (same_key q k is) ∙ passes))
      | false ↦ λ _. refl
    ] refl

-- a key of rows or entries is that of no pair beside them
pub not_beside : (others : List Pair) (q : List ℕ) → AreBeside others → is_of_rows q ≡ true → find key_cmp q others ≡ None
not_beside [] q h of_rows = refl
not_beside (e ∷ es) q h of_rows =
    ap (λ b. cond b (Some e.1) (find key_cmp q es)) (apart_by (λ k. not (is_of_rows k)) q e.0 (ap not h.0) (ap not of_rows)) ∙ not_beside es q h.1 of_rows

-- a key that isn't of the catalog is that of none of its pairs
pub not_in_catalog : (others : List Pair) (q : List ℕ) → AreCatalog others → is_in_space 1 q ≡ false → find key_cmp q others ≡ None
not_in_catalog [] q h apart = refl
not_in_catalog (e ∷ es) q h apart =
    ap (λ b. cond b (Some e.1) (find key_cmp q es)) (apart_by (is_in_space 1) q e.0 h.0 apart) ∙ not_in_catalog es q h.1 apart

-- a key of no counter is that of none of the counters' pairs
pub not_in_counters : (beside : List Pair) (q : List ℕ) → AreOfCounters beside → is_of_counters q ≡ false → find key_cmp q beside ≡ None
not_in_counters [] q h apart = refl
not_in_counters (e ∷ es) q h apart =
    ap (λ b. cond b (Some e.1) (find key_cmp q es)) (apart_by is_of_counters q e.0 h.0 apart) ∙ not_in_counters es q h.1 apart

-- the counters' pairs are beside those of the rows, and so are they before the catalog's
pub counters_beside : (beside : List Pair) → AreOfCounters beside → AreBeside beside
counters_beside [] h = tt
counters_beside (e ∷ es) h = (outside e.0 h.0, counters_beside es h.1)
  where
    outside : (k : List ℕ) → is_of_counters k ≡ true → is_of_rows k ≡ false
    outside [] is = refl
    outside (b ∷ bs) is = ap (λ (x : ℕ). x == 2 || x == 3) (eqb-true b 5 is)

pub both_beside : (beside catalog : List Pair) → AreBeside beside → AreBeside catalog → AreBeside (beside ++ catalog)
both_beside [] catalog h more = more
both_beside (e ∷ es) catalog h more = (h.0, both_beside es catalog h.1 more)

-- the catalog's pairs are beside those of the rows
pub catalog_beside : (others : List Pair) → AreCatalog others → AreBeside others
catalog_beside [] h = tt
catalog_beside (e ∷ es) h = (outside e.0 h.0, catalog_beside es h.1)
  where
    outside : (k : List ℕ) → is_in_space 1 k ≡ true → is_of_rows k ≡ false
    outside [] is = refl
    outside (b ∷ bs) is = ap (λ (x : ℕ). x == 2 || x == 3) (eqb-true b 1 is)

not_an_entry : (t i : ℕ) (table : Table) (indexes : List Index) (row : List Value) (q : List ℕ) → is_in_space 3 q ≡ false → find key_cmp q (entries_from t i table indexes row) ≡ None
not_an_entry t i table [] row q apart = refl
not_an_entry t i table (index ∷ indexes) row q apart =
    let e = entry_pair t i (index_sequence table index) row in
    ap (λ b. cond b (Some e.1) (find key_cmp q (entries_from t (i + 1) table indexes row))) (apart_by (is_in_space 3) q e.0 refl apart)
    ∙ not_an_entry t (i + 1) table indexes row q apart

-- a row's key is that of no entry
pub no_entry : (t u i : ℕ) (table : Table) (indexes : List Index) (row key : List Value) → find key_cmp (row_key t key) (entries_from u i table indexes row) ≡ None
no_entry t u i table indexes row key = not_an_entry u i table indexes row (row_key t key) refl

-- a key outside the spaces of rows and entries is that of no row's pair
pub not_in_rows : (tables : List Table) (rows : Rows) (q : List ℕ) → is_of_rows q ≡ false → find key_cmp q (row_pairs tables rows) ≡ None
not_in_rows tables [] q apart = refl
not_in_rows tables (e ∷ es) q apart =
    let own = pairs_of_row e.0 (table_at tables e.0) e.1 in
    find_rest key_cmp q own (row_pairs tables es) (here e.0 (table_at tables e.0) e.1)
    ∙ not_in_rows tables es q apart
  where
    here : (t : ℕ) (table : Table) (row : List Value) → find key_cmp q (pairs_of_row t table row) ≡ None
    here t table row = ap (λ b. cond b (Some (stored_code table row)) (find key_cmp q (entries_from t 1 table table.indexes row))) (apart_by (is_in_space 2) q (row_key t (key_of table row)) refl (or_parts (is_in_space 2 q) (is_in_space 3 q) apart).0) ∙ not_an_entry t 1 table table.indexes row q (or_parts (is_in_space 2 q) (is_in_space 3 q) apart).1

-- ---- codes of values of the same kinds
pub sequences_apart : (ts : List ColType) (ds : List Dir) (a b : List Value) → AllOfKinds ts a → AllOfKinds ts b → length a ≤ length ds → code_of ds a ≡ code_of ds b → a ≡ b
sequences_apart ts ds a b f g long e =
    (codes_apart ds a b [] [] (AreValues_from_kinds ts a f) (AreValues_from_kinds ts b g) (SameKinds_from_kinds ts a b f g) (length_from_kinds ts a f ∙ sym (length_from_kinds ts b g)) long (append-nil (code_of ds a) ∙ e ∙ sym (append-nil (code_of ds b)))).0

pub keys_apart : (ts : List ColType) (a b : List Value) → AllOfKinds ts a → AllOfKinds ts b → code_of (replicate (length a) Asc) a ≡ code_of (replicate (length b) Asc) b → a ≡ b
keys_apart ts a b f g e =
    let long : length a ≡ length b = length_from_kinds ts a f ∙ sym (length_from_kinds ts b g) in
    let enough : length a ≤ length (replicate (length a) Asc) = omega (arith, length-replicate (length a) Asc) in
    sequences_apart ts (replicate (length a) Asc) a b f g enough (e ∙ ap (λ (n : ℕ). code_of (replicate n Asc) b) (sym long))

key_ties : (ts : List ColType) (a b : List Value) → AllOfKinds ts a → AllOfKinds ts b → eq_by_cmp key_cmp (code_of (replicate (length a) Asc) a) (code_of (replicate (length b) Asc) b) ≡ same_values b a
key_ties ts a b f g =
    let code = λ (x : List Value). code_of (replicate (length x) Asc) x in
    both_ways (eq_by_cmp key_cmp (code a) (code b)) (same_values b a)
    (λ h. (same_values_decides b a).1 (sym (keys_apart ts a b f g (same_key (code a) (code b) h))))
    (λ h. ap (λ (x : List Value). eq_by_cmp key_cmp (code a) (code x)) (same_from_test b a h) ∙ key_itself (code a))

-- whether two rows' keys are equal
pub row_ties : (t u : ℕ) (ts : List ColType) (a b : List Value) → AllOfKinds ts a → (u ≡ t → AllOfKinds ts b) → eq_by_cmp key_cmp (row_key t a) (row_key u b) ≡ ((u == t) && same_values b a)
row_ties t u ts a b f g =
    let code = λ (x : List Value). code_of (replicate (length x) Asc) x in
    sym (texts_ties (row_key t a) (row_key u b))
    ∙ ap (λ c. c && pointwise nat_eq (code a) (code b)) (nat_eq_equiv.symm t u)
    ∙ elim (u == t) as (λ c. (u == t) ≡ c → (c && pointwise nat_eq (code a) (code b)) ≡ (c && same_values b a)) [
      | true ↦ λ is. texts_ties (code a) (code b) ∙ key_ties ts a b f (g (eqb-true u t is))
      | false ↦ λ _. refl
    ] refl
