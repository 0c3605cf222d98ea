-- Rows in a list, and the content that has their pairs.
use Rattle.std.proofs.Common.{◌≡◌, ℕ, suc, ◌+◌, ◌≤◌, ◌==◌, Bool, true, false, cond, ◌&&◌, ◌||◌, ◌⊎◌, inl, inr, List, [], ◌∷◌, ◌++◌, map, length, Option, Some, None, is_some, refl, sym, ap, ◌∙◌, subst, arith}
use Rattle.std.specs.Prelude.{option_map, filter}
use Rattle.std.specs.List.{AllByRecursion}
use Rattle.std.specs.List as lists
use Rattle.std.specs.FinMap.{find, get, get-from_entries}
use Rattle.std.specs.Cmp.Lexicographic.{nat_list_cmp_total}
use Rattle.std.proofs.lemmas.Bool.{false≢true, eqb-true, eq-eqb}
use Rattle.pq_base.specs.Members.{In}
use Rattle.pq_base.proofs.Members.{each_in}
use Rattle.pq_base.specs.Values.{AllFit}
use Rattle.pq_base.specs.declared.value.Value.{Value}
use Rattle.pq_key_code.specs.KeyCode.{row_key}
use Rattle.pq_schema.specs.declared.table.Index.{Index}
use Rattle.pq_schema.specs.declared.table.Table.{Table}
use Rattle.pq_schema.specs.Sequences.{index_sequence}
use Rattle.pq_schema.specs.Tables.{table_at}
use Rattle.pq_content.specs.Pairs.{Pair, is_in_space, is_of_rows, AreBeside, entry_pair, entries_from, pairs_of_row, row_pairs, content_pairs}
use Rattle.pq_content.specs.Tables.{Rows, IsTableNumber, AreApart, types_of, key_of, cells, agrees, has_key, rows_of, row_at, group_of, stored_code}
use Rattle.pq_content.proofs.Find.{find-or_else, or_else}
use Rattle.pq_content.proofs.Gets.{get_row}
use Rattle.pq_content.proofs.Keys.{same_key, key_itself, not_beside, not_in_rows}
use Rattle.pq_content.proofs.Owners.{pair_found}
use Rattle.pq_content.proofs.Values.{same_values_sym, same_values_itself, key_of_kinds}
use Rattle.pq_store.specs.Content.{Content, key_cmp}
use Rattle.pq_clients.specs.Flights.{has_entry, entry_keys}
use Rattle.pq_clients.specs.Invariant.{IsRowAt, Names, is_there, is_key, Different}
use Rattle.pq_clients.proofs.Basics.{neither_of, or_first, or_second, space_apart, not_both}

-- ---- entries that are found
pub record FoundEntry (t i : ℕ) (table : Table) (indexes : List Index) (row : List Value) (q v : List ℕ) : Type 0 where
  pub space : is_in_space 3 q ≡ true
  pub empty : v ≡ []
  pub among : has_entry q (map (λ pair. pair.0) (entries_from t i table indexes row)) ≡ true

entry_found : (t i : ℕ) (table : Table) (indexes : List Index) (row : List Value) (q v : List ℕ) → find key_cmp q (entries_from t i table indexes row) ≡ Some v → FoundEntry t i table indexes row q v
entry_found t i table [] row q v h = absurd (cc)
entry_found t i table (index ∷ indexes) row q v h =
    let k = (entry_pair t i (index_sequence table index) row).0 in
    let rest = find key_cmp q (entries_from t (i + 1) table indexes row) in
    elim (is_key q k) as (λ b. is_key q k ≡ b → cond b (Some []) rest ≡ Some v → FoundEntry t i table (index ∷ indexes) row q v) [
      | true ↦ λ is h. let same : ◌≡◌ {A = List ℕ} [] v = cc in record { space = subst (λ (q : List ℕ). is_in_space 3 q ≡ true) (sym (same_key q k is)) refl; empty = sym same; among = or_first (is_key q k) (has_entry q (map (λ pair. pair.0) (entries_from t (i + 1) table indexes row))) is }
      | false ↦ λ is h. let r = entry_found t (i + 1) table indexes row q v h in record { space = r.space; empty = r.empty; among = or_second (is_key q k) (has_entry q (map (λ pair. pair.0) (entries_from t (i + 1) table indexes row))) r.among }
    ] refl h

find_among : (t i : ℕ) (table : Table) (indexes : List Index) (row : List Value) (q : List ℕ) → has_entry q (map (λ pair. pair.0) (entries_from t i table indexes row)) ≡ true → is_some (find key_cmp q (entries_from t i table indexes row)) ≡ true
find_among t i table [] row q h = absurd (false≢true h)
find_among t i table (index ∷ indexes) row q h =
    let k = (entry_pair t i (index_sequence table index) row).0 in
    elim (is_key q k) as (λ b. (b || has_entry q (map (λ pair. pair.0) (entries_from t (i + 1) table indexes row))) ≡ true → is_some (cond b (Some []) (find key_cmp q (entries_from t (i + 1) table indexes row))) ≡ true) [
      | true ↦ λ _. refl
      | false ↦ λ rest. find_among t (i + 1) table indexes row q rest
    ] h

module _ (tables : List Table) where
  -- rows of their tables with different keys, whose codes are short
  pub record AreSound (rows : Rows) : Type 0 where
    pub known : AllByRecursion (λ e. IsTableNumber tables e.0) rows
    pub fit : AllByRecursion (λ e. AllFit (types_of (table_at tables e.0)) e.1) rows
    pub short : AllByRecursion (λ e. length (stored_code (table_at tables e.0) e.1) ≤ 4096) rows
    pub apart : AreApart tables rows

  abbrev pub key_at : ℕ × List Value → List ℕ
  key_at e = row_key e.0 (key_of (table_at tables e.0) e.1)

  abbrev pub code_at : ℕ × List Value → List ℕ
  code_at e = stored_code (table_at tables e.0) e.1

  unfoldable pub at_row : (rows : Rows) → AreSound rows → (e : ℕ × List Value) → In e rows → IsRowAt tables (key_at e) (code_at e)
  at_row rows h e i = record {
    table = e.0;
    row = e.1;
    number = each_in (λ (e : ℕ × List Value). IsTableNumber tables e.0) rows h.known e i;
    fits = each_in (λ (e : ℕ × List Value). AllFit (types_of (table_at tables e.0)) e.1) rows h.fit e i;
    short = each_in (λ (e : ℕ × List Value). length (stored_code (table_at tables e.0) e.1) ≤ 4096) rows h.short e i;
    code_is = refl;
    key_is = refl;
  }

  -- a pair of the rows is one of some row
  source : (rows : Rows) (q v : List ℕ) → find key_cmp q (row_pairs tables rows) ≡ Some v → (e : ℕ × List Value) × In e rows × (find key_cmp q (pairs_of_row e.0 (table_at tables e.0) e.1) ≡ Some v)
  source [] q v h = absurd (cc)
  source (e ∷ es) q v h = by (find key_cmp q (pairs_of_row e.0 (table_at tables e.0) e.1)) refl (λ rest. source es q v rest) (sym (find-or_else key_cmp q (pairs_of_row e.0 (table_at tables e.0) e.1) (row_pairs tables es)) ∙ h)
    where
      by : (o : Option (List ℕ)) → find key_cmp q (pairs_of_row e.0 (table_at tables e.0) e.1) ≡ o
          → (find key_cmp q (row_pairs tables es) ≡ Some v → (e' : ℕ × List Value) × In e' es × (find key_cmp q (pairs_of_row e'.0 (table_at tables e'.0) e'.1) ≡ Some v))
          → or_else (find key_cmp q (pairs_of_row e.0 (table_at tables e.0) e.1)) (find key_cmp q (row_pairs tables es)) ≡ Some v → (e' : ℕ × List Value) × In e' (e ∷ es) × (find key_cmp q (pairs_of_row e'.0 (table_at tables e'.0) e'.1) ≡ Some v)
      by None none later h = let r = later (sym (ap (λ o. or_else o (find key_cmp q (row_pairs tables es))) none) ∙ h) in (r.0, inr r.1, r.2)
      by (Some w) some later h = (e, inl refl, some ∙ sym (ap (λ o. or_else o (find key_cmp q (row_pairs tables es))) some) ∙ h)

  there_among : (rows : Rows) (e : ℕ × List Value) (q : List ℕ) → In e rows → is_some (find key_cmp q (pairs_of_row e.0 (table_at tables e.0) e.1)) ≡ true → is_some (find key_cmp q (row_pairs tables rows)) ≡ true
  there_among [] e q i h = absurd i
  there_among (x ∷ es) e q i h = ap is_some (find-or_else key_cmp q (pairs_of_row x.0 (table_at tables x.0) x.1) (row_pairs tables es)) ∙ by i (λ i. there_among es e q i h) (find key_cmp q (pairs_of_row x.0 (table_at tables x.0) x.1)) refl
    where
      by : In e (x ∷ es) → (In e es → is_some (find key_cmp q (row_pairs tables es)) ≡ true) → (o : Option (List ℕ)) → find key_cmp q (pairs_of_row x.0 (table_at tables x.0) x.1) ≡ o → is_some (or_else (find key_cmp q (pairs_of_row x.0 (table_at tables x.0) x.1)) (find key_cmp q (row_pairs tables es))) ≡ true
      by (inl same) later None none = absurd (false≢true (sym (ap is_some none) ∙ ap (λ (e : ℕ × List Value). is_some (find key_cmp q (pairs_of_row e.0 (table_at tables e.0) e.1))) same ∙ h))
      by (inr i) later None none = ap (λ o. is_some (or_else o (find key_cmp q (row_pairs tables es)))) none ∙ later i
      by i later (Some w) some = ap (λ o. is_some (or_else o (find key_cmp q (row_pairs tables es)))) some

  -- the row at a row's key is this row
  not_equal : (t : ℕ) (key : List ℕ) (x e : ℕ × List Value) → x.0 ≡ t → e.0 ≡ t → has_key tables x.0 (key_of (table_at tables x.0) x.1) e ≡ false → agrees (table_at tables t).key (key_of (table_at tables t) e.1) x.1 ≡ false
  not_equal t key x e xt et h =
      let number : (e.0 == x.0) ≡ true = eq-eqb e.0 x.0 (et ∙ sym xt) in
      let apart : agrees (table_at tables x.0).key (key_of (table_at tables x.0) x.1) e.1 ≡ false = sym (ap (λ b. b && agrees (table_at tables x.0).key (key_of (table_at tables x.0) x.1) e.1) number) ∙ h in
      same_values_sym (cells (table_at tables t).key x.1) (key_of (table_at tables t) e.1)
      ∙ subst (λ (t : ℕ). agrees (table_at tables t).key (key_of (table_at tables t) x.1) e.1 ≡ false) xt apart

  pub row_found_at : (rows : Rows) → AreApart tables rows → (e : ℕ × List Value) → In e rows → row_at tables rows e.0 (key_of (table_at tables e.0) e.1) ≡ Some e.1
  row_found_at [] apart e i = absurd i
  row_found_at (x ∷ es) apart e (inl same) = subst (λ (e : ℕ × List Value). row_at tables (x ∷ es) e.0 (key_of (table_at tables e.0) e.1) ≡ Some e.1) same
      (ap (λ b. find_row x (cond b (x.1 ∷ rows_of x.0 es) (rows_of x.0 es))) (eq-eqb x.0 x.0 refl)
      ∙ ap (λ b. cond b (Some x.1) (find_row x (rows_of x.0 es))) (same_values_itself (key_of (table_at tables x.0) x.1)))
    where
      find_row : (ℕ × List Value) → List (List Value) → Option (List Value)
      find_row x rows = lists.find (agrees (table_at tables x.0).key (key_of (table_at tables x.0) x.1)) rows
  row_found_at (x ∷ es) apart e (inr i) =
      let rest = row_found_at es apart.1 e i in
      elim (x.0 == e.0) as (λ b. (x.0 == e.0) ≡ b → lists.find (agrees (table_at tables e.0).key (key_of (table_at tables e.0) e.1)) (cond b (x.1 ∷ rows_of e.0 es) (rows_of e.0 es)) ≡ Some e.1) [
        | true ↦ λ is.
            let other = not_equal e.0 (key_at x) x e (eqb-true x.0 e.0 is) refl (each_in (λ (f : ℕ × List Value). has_key tables x.0 (key_of (table_at tables x.0) x.1) f ≡ false) es apart.0 e i) in
            ap (λ b. cond b (Some x.1) (lists.find (agrees (table_at tables e.0).key (key_of (table_at tables e.0) e.1)) (rows_of e.0 es))) other ∙ rest
        | false ↦ λ _. rest
      ] refl

  module _ (others : List Pair) (beside : AreBeside others) (rows : Rows) (h : AreSound rows) where
    abbrev pub their_content : Content
    their_content = content_pairs tables rows others

    pub get_pairs : (q : List ℕ) → get their_content q ≡ find key_cmp q (row_pairs tables rows ++ others)
    unfolding content_pairs
    get_pairs q = get-from_entries nat_list_cmp_total (row_pairs tables rows ++ others) q

    of_rows_found : (q v : List ℕ) → is_of_rows q ≡ true → get their_content q ≡ Some v → find key_cmp q (row_pairs tables rows) ≡ Some v
    of_rows_found q v space is = sym (behind (find key_cmp q (row_pairs tables rows)) (find key_cmp q others) (not_beside others q beside space)) ∙ sym (find-or_else key_cmp q (row_pairs tables rows) others) ∙ sym (get_pairs q) ∙ is
      where
        behind : (a b : Option (List ℕ)) → b ≡ None → or_else a b ≡ a
        behind None b none = none
        behind (Some x) b none = refl

    pub get_own : (e : ℕ × List Value) → In e rows → get their_content (key_at e) ≡ Some (code_at e)
    get_own e i = get_row tables rows others e.0 (key_of (table_at tables e.0) e.1) h.fit (key_of_kinds (table_at tables e.0) e.1 (each_in (λ (e : ℕ × List Value). AllFit (types_of (table_at tables e.0)) e.1) rows h.fit e i)) beside ∙ ap (option_map (stored_code (table_at tables e.0))) (row_found_at rows h.apart e i)

    -- a pair in the space of rows is a row's own
    pub row_pair_is : (k v : List ℕ) → is_in_space 2 k ≡ true → get their_content k ≡ Some v → (e : ℕ × List Value) × In e rows × (k ≡ key_at e) × (v ≡ code_at e)
    row_pair_is k v space is =
        let from = source rows k v (of_rows_found k v (or_first (is_in_space 2 k) (is_in_space 3 k) space) is) in
        let e = from.0 in
        elim (pair_found e.0 (table_at tables e.0) e.1 k v from.2) [
          | inl own ↦ (e, from.1, own, same_some v (code_at e) (sym is ∙ ap (get their_content) own ∙ get_own e from.1))
          | inr entry ↦ absurd (space_apart 2 k k space (not_both k (entry_found e.0 1 (table_at tables e.0) (table_at tables e.0).indexes e.1 k v entry).space) refl)
        ]
      where
        same_some : (a b : List ℕ) → ◌≡◌ {A = Option (List ℕ)} (Some a) (Some b) → a ≡ b
        same_some a b e = cc

    -- a pair in the space of entries is one of a row's entries
    pub entry_pair_is : (q v : List ℕ) → is_in_space 3 q ≡ true → get their_content q ≡ Some v → (e : ℕ × List Value) × In e rows × Names tables (key_at e) q × (v ≡ []) × (has_entry q (entry_keys e.0 (table_at tables e.0) e.1) ≡ true)
    unfolding entry_keys at_row
    entry_pair_is q v space is =
        let from = source rows q v (of_rows_found q v (or_second (is_in_space 2 q) (is_in_space 3 q) space) is) in
        let e = from.0 in
        let at = at_row rows h e from.1 in
        elim (pair_found e.0 (table_at tables e.0) e.1 q v from.2) [
          | inl own ↦ absurd (space_apart 2 q q (subst (λ (q : List ℕ). is_in_space 2 q ≡ true) (sym own) (two e.0 (key_of (table_at tables e.0) e.1))) (not_both q space) refl)
          | inr entry ↦
              let f = entry_found e.0 1 (table_at tables e.0) (table_at tables e.0).indexes e.1 q v entry in
              (e, from.1, record { table = e.0; row = e.1; number = at.number; fits = at.fits; key_is = refl; among = f.among }, f.empty, f.among)
        ]
      where
        two : (t : ℕ) (key : List Value) → is_in_space 2 (row_key t key) ≡ true
        two t key = refl

    -- the entries of each row are there
    pub entries_there : (e : ℕ × List Value) → In e rows → (q : List ℕ) → has_entry q (entry_keys e.0 (table_at tables e.0) e.1) ≡ true → is_there their_content q ≡ true
    unfolding entry_keys
    entries_there e i q among =
        ap is_some (get_pairs q ∙ find-or_else key_cmp q (row_pairs tables rows) others)
        ∙ either (find key_cmp q (row_pairs tables rows)) (find key_cmp q others) (there_among rows e q i (pair_there (find_among e.0 1 (table_at tables e.0) (table_at tables e.0).indexes e.1 q among)))
      where
        either : (a b : Option (List ℕ)) → is_some a ≡ true → is_some (or_else a b) ≡ true
        either None b h = absurd (false≢true h)
        either (Some x) b h = refl

        pair_there : is_some (find key_cmp q (entries_from e.0 1 (table_at tables e.0) (table_at tables e.0).indexes e.1)) ≡ true → is_some (find key_cmp q (pairs_of_row e.0 (table_at tables e.0) e.1)) ≡ true
        pair_there h = elim (is_key q (key_at e)) as (λ b. is_some (cond b (Some (code_at e)) (find key_cmp q (entries_from e.0 1 (table_at tables e.0) (table_at tables e.0).indexes e.1))) ≡ true) [ true ↦ refl | false ↦ h ]

    pub beside_same : (q : List ℕ) → is_of_rows q ≡ false → get their_content q ≡ find key_cmp q others
    beside_same q out = get_pairs q ∙ find-or_else key_cmp q (row_pairs tables rows) others ∙ ap (λ o. or_else o (find key_cmp q others)) (not_in_rows tables rows q out)

  -- ---- different keys of rows of a group are at most as many as the group has
  abbrev pub OfGroup : ℕ → List ℕ → List Value → List ℕ → Rows → Type 0
  OfGroup t cols values k rows = (e : ℕ × List Value) × In e rows × (e.0 ≡ t) × (agrees cols values e.1 ≡ true) × (k ≡ key_at e)

  abbrev pub AllOfGroup : ℕ → List ℕ → List Value → List (List ℕ) → Rows → Type 0
  AllOfGroup t cols values [] rows = Unit {0}
  AllOfGroup t cols values (k ∷ ks) rows = OfGroup t cols values k rows × AllOfGroup t cols values ks rows

  module _ (t : ℕ) (cols : List ℕ) (values : List Value) where
    -- none of the keys is that of the first row
    all_later : (x : ℕ × List Value) (es : Rows) (ks : List (List ℕ)) → has_entry (key_at x) ks ≡ false → AllOfGroup t cols values ks (x ∷ es) → AllOfGroup t cols values ks es
    all_later x es [] none h = tt
    all_later x es (k ∷ ks) none h =
        let parts = neither_of (is_key (key_at x) k) (has_entry (key_at x) ks) none in
        (later k parts.0 h.0, all_later x es ks parts.1 h.1)
      where
        later : (k : List ℕ) → is_key (key_at x) k ≡ false → OfGroup t cols values k (x ∷ es) → OfGroup t cols values k es
        later k apart (e, i, at, agree, key) = elim i [
          | inl same ↦ absurd (false≢true (sym apart ∙ ap (is_key (key_at x)) (key ∙ ap key_at (sym same)) ∙ key_itself (key_at x)))
          | inr i ↦ (e, i, at, agree, key)
        ]

    record Fewer (x : ℕ × List Value) (es : Rows) (ks : List (List ℕ)) : Type 0 where
      pub left : List (List ℕ)
      pub different : Different left
      pub all : AllOfGroup t cols values left es
      pub kept : (k : List ℕ) → has_entry k ks ≡ false → has_entry k left ≡ false
      pub long : (length ks ≡ length left) ⊎ ((length ks ≡ suc (length left)) × (x.0 ≡ t) × (agrees cols values x.1 ≡ true))

    fewer_of : (x : ℕ × List Value) (es : Rows) (ks : List (List ℕ)) → Different ks → AllOfGroup t cols values ks (x ∷ es) → Fewer x es ks
    fewer_of x es [] d h = record { left = []; different = tt; all = tt; kept = λ k none. none; long = inl refl }
    fewer_of x es (k ∷ ks) d h = by h.0 (fewer_of x es ks d.1 h.1)
      where
        by : OfGroup t cols values k (x ∷ es) → Fewer x es ks → Fewer x es (k ∷ ks)
        by (e, i, at, agree, key) rest = elim i [
          | inl same ↦
              let here : k ≡ key_at x = key ∙ ap key_at (sym same) in
              record {
                left = ks;
                different = d.1;
                all = all_later x es ks (subst (λ (k : List ℕ). has_entry k ks ≡ false) here d.0) h.1;
                kept = λ q none. (neither_of (is_key q k) (has_entry q ks) none).1;
                long = inr (refl, ap (λ (e : ℕ × List Value). e.0) same ∙ at, ap (λ (e : ℕ × List Value). agrees cols values e.1) same ∙ agree);
              }
          | inr i ↦ record {
            left = k ∷ rest.left;
            different = (rest.kept k d.0, rest.different);
            all = ((e, i, at, agree, key), rest.all);
            kept = λ q none. let parts = neither_of (is_key q k) (has_entry q ks) none in ap (λ b. b || has_entry q rest.left) parts.0 ∙ rest.kept q parts.1;
            long = elim rest.long [ inl same ↦ inl (ap suc same) | inr more ↦ inr (ap suc more.0, more.1, more.2) ];
          }
        ]

    pub group_holds : (rows : Rows) (ks : List (List ℕ)) → Different ks → AllOfGroup t cols values ks rows → length ks ≤ length (group_of t cols values rows)
    group_holds [] [] d h = omega arith
    group_holds [] (k ∷ ks) d h = absurd h.0.1
    group_holds (x ∷ es) ks d h =
        let f = fewer_of x es ks d h in
        let rest = group_holds es f.left f.different f.all in
        by f.left rest f.long
      where
        rest_same : (b : Bool) → length (group_of t cols values es) ≤ length (filter (agrees cols values) (cond b (x.1 ∷ rows_of t es) (rows_of t es)))
        rest_same true = elim (agrees cols values x.1) as (λ b. length (group_of t cols values es) ≤ length (cond b (x.1 ∷ group_of t cols values es) (group_of t cols values es))) [ true ↦ omega arith | false ↦ omega arith ]
        rest_same false = omega arith

        by : (left : List (List ℕ)) → length left ≤ length (group_of t cols values es) → (length ks ≡ length left) ⊎ ((length ks ≡ suc (length left)) × (x.0 ≡ t) × (agrees cols values x.1 ≡ true)) → length ks ≤ length (group_of t cols values (x ∷ es))
        by left rest (inl same) = let more = rest_same (x.0 == t) in omega arith
        by left rest (inr (same, number, agree)) =
            let there : length (group_of t cols values (x ∷ es)) ≡ suc (length (group_of t cols values es)) =
            ap (λ b. length (filter (agrees cols values) (cond b (x.1 ∷ rows_of t es) (rows_of t es)))) (eq-eqb x.0 t number)
            ∙ ap (λ b. length (cond b (x.1 ∷ group_of t cols values es) (group_of t cols values es))) agree in
            omega arith
