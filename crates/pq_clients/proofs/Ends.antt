-- The present tables at each moment: they are kept, and at rest the content is theirs.
use Rattle.std.proofs.Common.{◌≡◌, ℕ, zero, suc, ◌+◌, ◌≤◌, ◌<◌, ◌==◌, nat_lt, Bool, true, false, cond, not, ◌&&◌, ◌||◌, ◌⊎◌, inl, inr, List, [], ◌∷◌, ◌++◌, map, length, Option, Some, None, is_some, refl, sym, ap, ◌∙◌, subst, arith}
use Rattle.std.specs.Prelude.{option_and_then, filter, T, slice_index_or}
use Rattle.std.specs.List.{AllByRecursion}
use Rattle.std.specs.FinMap.{get, find, entries, entries_sorted, get-entries}
use Rattle.std.specs.FinMap.Entries.{is_sorted, below_all}
use Rattle.std.specs.Ordering.{is_lt}
use Rattle.std.specs.declared.cmp.Ordering.{Ordering}
use Rattle.std.specs.Cmp.{tied_itself}
use Rattle.std.specs.Cmp.Lexicographic.{nat_list_cmp_total}
use Rattle.std.proofs.lemmas.Bool.Decides.{nat_tests}
use Rattle.pq_schema.specs.declared.table.Index.{Index}
use Rattle.pq_schema.specs.Sequences.{index_sequence}
use Rattle.pq_schema.specs.Candidates.{no_limit}
use Rattle.pq_index_keep.proofs.Inserting.{each_by}
use Rattle.pq_clients.proofs.Owners.{entry_space}
use Rattle.std.proofs.lemmas.Bool.{false≢true, eqb-true, eq-eqb}
use Rattle.pq_base.specs.Members.{In}
use Rattle.pq_base.specs.Values.{AllFit, has_null}
use Rattle.pq_base.specs.declared.value.Value.{Value}
use Rattle.pq_key_code.specs.KeyCode.{row_key}
use Rattle.pq_schema.specs.declared.table.Table.{Table}
use Rattle.pq_schema.specs.Tables.{table_at}
use Rattle.pq_content.specs.Pairs.{Pair, is_in_space, is_of_rows, AreBeside, entry_pair, entries_from, content_pairs}
use Rattle.pq_content.specs.Tables.{Rows, AllOfKinds, row_at, IsTableNumber, AreApart, IsWithinLimit, types_of, key_types, key_of, agrees, same_values, has_key, rows_of, group_of, stored_code}
use Rattle.pq_content.proofs.Changes.{same_content}
use Rattle.pq_content.proofs.Keys.{same_key, key_itself, row_ties}
use Rattle.pq_content.proofs.Values.{same_from_test, key_of_kinds}
use Rattle.pq_store.specs.Content.{Content, key_cmp}
use Rattle.pq_index_keep.specs.Effects.{limit_at}
use Rattle.pq_index_keep.specs.Sound.{AreWritable}
use Rattle.pq_clients.specs.Held.{Cell, Free, Held, cell_of, present_in, present_row, decoded_row}
use Rattle.pq_clients.specs.Flights.{has_entry, entry_keys}
use Rattle.pq_clients.specs.Present.{present_at, as_row, rows_in, rows_among, present_rows}
use Rattle.pq_clients.specs.Promises.{HasEntries, KeepsPresent}
use Rattle.pq_clients.specs.Invariant.{IsRowAt, MayStandAt, Names, has_code_entry, Group, is_limit, row_in_group, in_group, Stance, Idle, cell_at, present_at_cell, is_there, is_key, Each, Different, claims, Good, IsShaped, IsHolder, HeldWell, extra_at, extra_by, shares}
use Rattle.pq_clients.proofs.Basics.{and_of, either_of, nothing_more, or_first, or_second, cell_is, key_apart}
use Rattle.pq_clients.proofs.Cells.{row_decodes}
use Rattle.pq_clients.proofs.Coded.{no_entries, entry_of_code, group_of_code, names_code}
use Rattle.pq_clients.proofs.BeginRows.{AreSound, key_at, code_at, at_row, their_content, get_own, row_pair_is, entry_pair_is, entries_there, beside_same}
use Rattle.pq_clients.proofs.Shaped.{free_is}

in_front : {A : Type 0} (x : A) (xs ys : List A) → In x xs → In x (xs ++ ys)
in_front x [] ys i = absurd i
in_front x (y ∷ xs) ys (inl same) = inl same
in_front x (y ∷ xs) ys (inr i) = inr (in_front x xs ys i)

in_behind : {A : Type 0} (x : A) (xs ys : List A) → In x ys → In x (xs ++ ys)
in_behind x [] ys i = i
in_behind x (y ∷ xs) ys i = inr (in_behind x xs ys i)

pub all_from : {A : Type 0} (P : A → Type 0) (xs : List A) → ((x : A) → In x xs → P x) → AllByRecursion P xs
all_from P [] h = tt
all_from P (x ∷ xs) h = (h x (inl refl), all_from P xs (λ y i. h y (inr i)))

and_first : (a b : Bool) → T (a && b) → T a
and_first true b h = tt
and_first false b h = absurd h

and_second : (a b : Bool) → T (a && b) → T b
and_second true b h = h
and_second false b h = absurd h

and_back : (a b : Bool) → a ≡ true → b ≡ true → (a && b) ≡ true
and_back a b p q = ap (λ a. a && b) p ∙ q

inside_test : (a b : ℕ) → a < b → nat_lt a b ≡ true
inside_test a b h = grind (arith, nat_tests)

same_default : {A : Type 0} (xs : List A) (i : ℕ) (a b : A) → i < length xs → slice_index_or xs i a ≡ slice_index_or xs i b
same_default [] i a b h = absurd (omega arith)
same_default (x ∷ xs) zero a b h = refl
same_default (x ∷ xs) (suc i) a b h = same_default xs i a b (omega arith)

length-keys : {A B : Type 0} (f : A → B) (xs : List A) → length (map f xs) ≡ length xs
length-keys f [] = refl
length-keys f (x ∷ xs) = ap suc (length-keys f xs)

in_entries : (t i : ℕ) (table : Table) (indexes : List Index) (row : List Value) (pair : Pair) → In pair (entries_from t i table indexes row) → (has_entry pair.0 (map (λ pair. pair.0) (entries_from t i table indexes row)) ≡ true) × (pair.1 ≡ [])
in_entries t i table [] row pair h = absurd h
in_entries t i table (index ∷ indexes) row pair (inl same) =
    let k = (entry_pair t i (index_sequence table index) row).0 in
    (or_first (is_key pair.0 k) _ (ap (λ (p : Pair). is_key p.0 k) (sym same) ∙ key_itself k), ap (λ (p : Pair). p.1) (sym same))
in_entries t i table (index ∷ indexes) row pair (inr there) =
    let r = in_entries t (i + 1) table indexes row pair there in
    (or_second (is_key pair.0 (entry_pair t i (index_sequence table index) row).0) _ r.0, r.1)

module _ (tables : List Table) (sound : AreWritable tables) where
  -- keys of the rows of a table that pass a test
  abbrev AllFitting : Rows → Type 0
  AllFitting rows = AllByRecursion (λ (e : ℕ × List Value). AllFit (types_of (table_at tables e.0)) e.1) rows

  keys_none : (x : ℕ × List Value) (t : ℕ) (p : List Value → Bool) (rows : Rows) → x.0 ≡ t → AllFit (types_of (table_at tables t)) x.1 → AllFitting rows → AllByRecursion (λ (f : ℕ × List Value). has_key tables x.0 (key_of (table_at tables x.0) x.1) f ≡ false) rows
      → has_entry (row_key t (key_of (table_at tables t) x.1)) (map (λ row. row_key t (key_of (table_at tables t) row)) (filter p (rows_of t rows))) ≡ false
  keys_none x t p [] at fits all apart = refl
  keys_none x t p (f ∷ rows) at fits all apart =
      let kx = row_key t (key_of (table_at tables t) x.1) in
      let rest = keys_none x t p rows at fits all.1 apart.1 in
      elim (f.0 == t) as (λ b. (f.0 == t) ≡ b → has_entry kx (map (λ row. row_key t (key_of (table_at tables t) row)) (filter p (cond b (f.1 ∷ rows_of t rows) (rows_of t rows)))) ≡ false) [
        | true ↦ λ is. elim (p f.1) as (λ b. has_entry kx (map (λ row. row_key t (key_of (table_at tables t) row)) (cond b (f.1 ∷ filter p (rows_of t rows)) (filter p (rows_of t rows)))) ≡ false) [
          | true ↦ ap (λ b. b || has_entry kx (map (λ row. row_key t (key_of (table_at tables t) row)) (filter p (rows_of t rows)))) (differs is) ∙ rest
          | false ↦ rest
        ]
        | false ↦ λ _. rest
      ] refl
    where
      differs : (f.0 == t) ≡ true → is_key (row_key t (key_of (table_at tables t) x.1)) (row_key t (key_of (table_at tables t) f.1)) ≡ false
      differs is =
          let number : f.0 ≡ t = eqb-true f.0 t is in
          let f_fits = subst (λ (t : ℕ). AllFit (types_of (table_at tables t)) f.1) number all.0 in
          let same : (f.0 == x.0) ≡ true = eq-eqb f.0 x.0 (number ∙ sym at) in
          let apart_here : agrees (table_at tables x.0).key (key_of (table_at tables x.0) x.1) f.1 ≡ false = sym (ap (λ b. b && agrees (table_at tables x.0).key (key_of (table_at tables x.0) x.1) f.1) same) ∙ apart.0 in
          row_ties t t (key_types (table_at tables t)) (key_of (table_at tables t) x.1) (key_of (table_at tables t) f.1) (key_of_kinds (table_at tables t) x.1 fits) (λ _. key_of_kinds (table_at tables t) f.1 f_fits)
          ∙ ap (λ b. b && same_values (key_of (table_at tables t) f.1) (key_of (table_at tables t) x.1)) (eq-eqb t t refl)
          ∙ subst (λ (t : ℕ). same_values (key_of (table_at tables t) f.1) (key_of (table_at tables t) x.1) ≡ false) at apart_here

  keys_differ : (t : ℕ) (p : List Value → Bool) (rows : Rows) → AllFitting rows → AreApart tables rows → Different (map (λ row. row_key t (key_of (table_at tables t) row)) (filter p (rows_of t rows)))
  keys_differ t p [] all apart = tt
  keys_differ t p (x ∷ rows) all apart =
      let rest = keys_differ t p rows all.1 apart.1 in
      elim (x.0 == t) as (λ b. (x.0 == t) ≡ b → Different (map (λ row. row_key t (key_of (table_at tables t) row)) (filter p (cond b (x.1 ∷ rows_of t rows) (rows_of t rows))))) [
        | true ↦ λ is. elim (p x.1) as (λ b. Different (map (λ row. row_key t (key_of (table_at tables t) row)) (cond b (x.1 ∷ filter p (rows_of t rows)) (filter p (rows_of t rows))))) [
          | true ↦ (keys_none x t p rows (eqb-true x.0 t is) (subst (λ (t : ℕ). AllFit (types_of (table_at tables t)) x.1) (eqb-true x.0 t is) all.0) all.1 apart.0, rest)
          | false ↦ rest
        ]
        | false ↦ λ _. rest
      ] refl

  keys_claim : (t : ℕ) (p : List Value → Bool) (claim : List ℕ → Bool) (rows : Rows) → ((row : List Value) → In (t, row) rows → p row ≡ true → claim (row_key t (key_of (table_at tables t) row)) ≡ true) → Each claim (map (λ row. row_key t (key_of (table_at tables t) row)) (filter p (rows_of t rows)))
  keys_claim t p claim [] h = tt
  keys_claim t p claim (x ∷ rows) h =
      let rest = keys_claim t p claim rows (λ row i is. h row (inr i) is) in
      elim (x.0 == t) as (λ b. (x.0 == t) ≡ b → Each claim (map (λ row. row_key t (key_of (table_at tables t) row)) (filter p (cond b (x.1 ∷ rows_of t rows) (rows_of t rows))))) [
        | true ↦ λ is. elim (p x.1) as (λ b. p x.1 ≡ b → Each claim (map (λ row. row_key t (key_of (table_at tables t) row)) (cond b (x.1 ∷ filter p (rows_of t rows)) (filter p (rows_of t rows))))) [
          | true ↦ λ passes. (h x.1 (inl (λ i. (eqb-true x.0 t is i, x.1))) passes, rest)
          | false ↦ λ _. rest
        ] refl
        | false ↦ λ _. rest
      ] refl

  -- a pair of a row with a row present gives this row
  pub record ShownRow (k v : List ℕ) (e : ℕ × List Value) : Type 0 where
    pub code : present_in (cell_of v) ≡ Some (code_at tables e)
    pub key : k ≡ key_at tables e
    pub number : IsTableNumber tables e.0
    pub fits : AllFit (types_of (table_at tables e.0)) e.1
    pub short : length (code_at tables e) ≤ 4096

  abbrev Stands : List ℕ × List ℕ → Type 0
  Stands pair = is_in_space 2 pair.0 ≡ true → MayStandAt tables pair.0 (present_in (cell_of pair.1))

  -- the row is decoded from the code under its own key
  rows_at_key : (t : ℕ) (key : List Value) (v code : List ℕ) (row : List Value) → present_in (cell_of v) ≡ Some code → decoded_row (table_at tables t) code ≡ Some row → rows_in tables (row_key t key) v ≡ (t, row) ∷ []
  rows_at_key t key v code row present decoded = ap (λ (o : Option (List ℕ)). as_row t (option_and_then (decoded_row (table_at tables t)) o)) present ∙ ap (as_row t) decoded

  rows_none : (k v : List ℕ) → present_in (cell_of v) ≡ None → rows_in tables k v ≡ []
  rows_none [] v none = refl
  rows_none (space ∷ []) v none = refl
  rows_none (space ∷ t ∷ code) v none =
      elim (space == 2) as (λ b. cond b (as_row t (present_row (table_at tables t) (Some v))) [] ≡ []) [
        | true ↦ ap (λ (o : Option (List ℕ)). as_row t (option_and_then (decoded_row (table_at tables t)) o)) none
        | false ↦ refl
      ]

  rows_elsewhere : (k v : List ℕ) → is_in_space 2 k ≡ false → rows_in tables k v ≡ []
  rows_elsewhere [] v out = refl
  rows_elsewhere (space ∷ []) v out = refl
  rows_elsewhere (space ∷ t ∷ code) v out = ap (λ b. cond b (as_row t (present_row (table_at tables t) (Some v))) []) out

  shown_by_code : (k v code : List ℕ) → present_in (cell_of v) ≡ Some code → (at : IsRowAt tables k code) → ShownRow k v (at.table, at.row) × (rows_in tables k v ≡ (at.table, at.row) ∷ [])
  shown_by_code k v code present at = (
    record { code = present ∙ ap Some (sym at.code_is); key = sym at.key_is; number = at.number; fits = at.fits; short = at.short },
    subst (λ (k : List ℕ). rows_in tables k v ≡ (at.table, at.row) ∷ []) at.key_is
        (rows_at_key at.table (key_of (table_at tables at.table) at.row) v code at.row present
        (subst (λ (code : List ℕ). decoded_row (table_at tables at.table) code ≡ Some at.row) at.code_is (row_decodes tables at.table at.row sound at.number at.fits))),
  )

  pair_rows : (pair : List ℕ × List ℕ) → Stands pair → (rows_in tables pair.0 pair.1 ≡ []) ⊎ ((e : ℕ × List Value) × ShownRow pair.0 pair.1 e × (rows_in tables pair.0 pair.1 ≡ e ∷ []))
  pair_rows (k, v) stands =
      elim (is_in_space 2 k) as (λ b. is_in_space 2 k ≡ b → (rows_in tables k v ≡ []) ⊎ ((e : ℕ × List Value) × ShownRow k v e × (rows_in tables k v ≡ e ∷ []))) [
        | true ↦ λ space. by (present_in (cell_of v)) refl (stands space)
        | false ↦ λ out. inl (rows_elsewhere k v out)
      ] refl
    where
      by : (p : Option (List ℕ)) → present_in (cell_of v) ≡ p → MayStandAt tables k p → (rows_in tables k v ≡ []) ⊎ ((e : ℕ × List Value) × ShownRow k v e × (rows_in tables k v ≡ e ∷ []))
      by None none at = inl (rows_none k v none)
      by (Some code) some at = let r = shown_by_code k v code some at in inr ((at.table, at.row), r.0, r.1)

  -- each row among the pairs is shown by one of them
  shown : (pairs : List Pair) → AllByRecursion Stands pairs → (e : ℕ × List Value) → In e (rows_among tables pairs) → (pair : Pair) × In pair pairs × ShownRow pair.0 pair.1 e
  shown [] all e i = absurd i
  shown (pair ∷ pairs) all e i = by (pair_rows pair all.0) (λ i. shown pairs all.1 e i) i
    where
      by : (rows_in tables pair.0 pair.1 ≡ []) ⊎ ((e : ℕ × List Value) × ShownRow pair.0 pair.1 e × (rows_in tables pair.0 pair.1 ≡ e ∷ []))
          → (In e (rows_among tables pairs) → (p : Pair) × In p pairs × ShownRow p.0 p.1 e)
          → In e (rows_in tables pair.0 pair.1 ++ rows_among tables pairs) → (p : Pair) × In p (pair ∷ pairs) × ShownRow p.0 p.1 e
      by (inl none) later i = let r = later (subst (λ (rows : Rows). In e (rows ++ rows_among tables pairs)) none i) in (r.0, inr r.1, r.2)
      by (inr (x, row, is)) later i = one x row (subst (λ (rows : Rows). In e (rows ++ rows_among tables pairs)) is i)
        where
          one : (x : ℕ × List Value) → ShownRow pair.0 pair.1 x → In e (x ∷ rows_among tables pairs) → (p : Pair) × In p (pair ∷ pairs) × ShownRow p.0 p.1 e
          one x row (inl same) = (pair, inl refl, subst (λ (e : ℕ × List Value). ShownRow pair.0 pair.1 e) same row)
          one x row (inr i) = let r = later i in (r.0, inr r.1, r.2)

  head : (pair : Pair) → Stands pair → (code : List ℕ) → is_in_space 2 pair.0 ≡ true → present_in (cell_of pair.1) ≡ Some code → (e : ℕ × List Value) × ShownRow pair.0 pair.1 e × (rows_in tables pair.0 pair.1 ≡ e ∷ [])
  head (k, v) stands code space present =
      let at : IsRowAt tables k code = subst (λ (p : Option (List ℕ)). MayStandAt tables k p) present (stands space) in
      let r = shown_by_code k v code present at in ((at.table, at.row), r.0, r.1)

  -- and each pair that shows a row has it among them
  among : (pairs : List Pair) → AllByRecursion Stands pairs → (pair : Pair) → In pair pairs → (code : List ℕ) → is_in_space 2 pair.0 ≡ true → present_in (cell_of pair.1) ≡ Some code → (e : ℕ × List Value) × In e (rows_among tables pairs) × ShownRow pair.0 pair.1 e
  among [] all pair i code space present = absurd i
  among (x ∷ pairs) all pair (inl same) code space present =
      let r = head x (λ in_space. all.0 in_space) code (ap (λ (p : Pair). is_in_space 2 p.0) same ∙ space) (ap (λ (p : Pair). present_in (cell_of p.1)) same ∙ present) in
      (r.0, in_front r.0 (rows_in tables x.0 x.1) (rows_among tables pairs) (subst (λ (rows : Rows). In r.0 rows) (sym r.2) (inl refl)), subst (λ (p : Pair). ShownRow p.0 p.1 r.0) same r.1)
  among (x ∷ pairs) all pair (inr i) code space present =
      let r = among pairs all.1 pair i code space present in
      (r.0, in_behind r.0 (rows_in tables x.0 x.1) (rows_among tables pairs) r.1, r.2)

  -- ---- pairs of a content

  below_none : (x : List ℕ) (pairs : List Pair) → T (below_all key_cmp x pairs) → (pair : Pair) → In pair pairs → x ≡ pair.0 → ⊥
  below_none x [] below pair i same = i
  below_none x (y ∷ pairs) below pair (inl e) same = not_below x (and_first (is_lt (key_cmp x y.0)) (below_all key_cmp x pairs) below) (same ∙ ap (λ (p : Pair). p.0) (sym e))
    where
      not_below : (x : List ℕ) → T (is_lt (key_cmp x y.0)) → x ≡ y.0 → ⊥
      not_below x lt e = subst (λ (o : Ordering). T (is_lt o)) (ap (λ (k : List ℕ). key_cmp k y.0) e ∙ tied_itself nat_list_cmp_total y.0) lt
  below_none x (y ∷ pairs) below pair (inr i) same = below_none x pairs (and_second (is_lt (key_cmp x y.0)) (below_all key_cmp x pairs) below) pair i same

  found_in : (pairs : List Pair) → T (is_sorted key_cmp pairs) → (pair : Pair) → In pair pairs → find key_cmp pair.0 pairs ≡ Some pair.1
  found_in [] sorted pair i = absurd i
  found_in (x ∷ pairs) sorted pair (inl same) = subst (λ (p : Pair). find key_cmp p.0 (x ∷ pairs) ≡ Some p.1) same (ap (λ b. cond b (Some x.1) (find key_cmp x.0 pairs)) (key_itself x.0))
  found_in (x ∷ pairs) sorted pair (inr i) =
      ap (λ b. cond b (Some x.1) (find key_cmp pair.0 pairs)) (key_apart pair.0 x.0 (λ e. below_none x.0 pairs (and_first (below_all key_cmp x.0 pairs) (is_sorted key_cmp pairs) sorted) pair i (sym e)))
      ∙ found_in pairs (and_second (below_all key_cmp x.0 pairs) (is_sorted key_cmp pairs) sorted) pair i

  in_found : (pairs : List Pair) (q v : List ℕ) → find key_cmp q pairs ≡ Some v → In (q, v) pairs
  in_found [] q v h = absurd (cc)
  in_found (x ∷ pairs) q v h =
      elim (is_key q x.0) as (λ b. is_key q x.0 ≡ b → cond b (Some x.1) (find key_cmp q pairs) ≡ Some v → In (q, v) (x ∷ pairs)) [
        | true ↦ λ is e. let value : x.1 ≡ v = cc in inl (λ i. (sym (same_key q x.0 is) i, value i))
        | false ↦ λ _ e. inr (in_found pairs q v e)
      ] refl h

  module _ (c : Content) (others : List ℕ → Option (List ℕ)) (shape : IsShaped tables c others) where
    stands_all : AllByRecursion Stands (entries c)
    stands_all = all_from Stands (entries c) (λ pair i space. shape.rows pair.0 pair.1 space (get-entries c pair.0 ∙ found_in (entries c) (entries_sorted c) pair i))

    -- a present row has its pair
    pub row_shown : (e : ℕ × List Value) → In e (present_rows tables c) → (v : List ℕ) × (get c (key_at tables e) ≡ Some v) × ShownRow (key_at tables e) v e
    unfolding present_rows
    row_shown e i =
        let r = shown (entries c) stands_all e i in
        let pair = r.0 in
        (pair.1, subst (λ (k : List ℕ). get c k ≡ Some pair.1) r.2.key (get-entries c pair.0 ∙ found_in (entries c) (entries_sorted c) pair r.1), subst (λ (k : List ℕ). ShownRow k pair.1 e) r.2.key r.2)

    -- and a pair that shows a row has it present
    pub shows_row : (k v code : List ℕ) → is_in_space 2 k ≡ true → get c k ≡ Some v → present_in (cell_of v) ≡ Some code → (e : ℕ × List Value) × In e (present_rows tables c) × ShownRow k v e
    unfolding present_rows
    shows_row k v code space is present = among (entries c) stands_all (k, v) (in_found (entries c) k v (sym (get-entries c k) ∙ is)) code space present

    pub shown_cell : (e : ℕ × List Value) → In e (present_rows tables c) → present_at_cell (cell_at c (key_at tables e)) ≡ Some (code_at tables e)
    shown_cell e i = let r = row_shown e i in ap present_at_cell (cell_is c (key_at tables e) (Some r.0) refl r.1) ∙ r.2.code

    rows_apart : (pairs : List Pair) → T (is_sorted key_cmp pairs) → AllByRecursion Stands pairs → AreApart tables (rows_among tables pairs)
    rows_apart [] sorted all = tt
    rows_apart (pair ∷ pairs) sorted all =
        let later = rows_apart pairs (and_second (below_all key_cmp pair.0 pairs) (is_sorted key_cmp pairs) sorted) all.1 in
        elim (pair_rows pair all.0) [
          | inl none ↦ subst (λ (rows : Rows). AreApart tables (rows ++ rows_among tables pairs)) (sym none) later
          | inr (x, row, is) ↦ subst (λ (rows : Rows). AreApart tables (rows ++ rows_among tables pairs)) (sym is)
              (all_from (λ (f : ℕ × List Value). has_key tables x.0 (key_of (table_at tables x.0) x.1) f ≡ false) (rows_among tables pairs) (λ f i. apart x row f (shown pairs all.1 f i)), later)
        ]
      where
        apart : (x : ℕ × List Value) → ShownRow pair.0 pair.1 x → (f : ℕ × List Value) → (p : Pair) × In p pairs × ShownRow p.0 p.1 f → has_key tables x.0 (key_of (table_at tables x.0) x.1) f ≡ false
        apart x row f (p, i, later) = by (has_key tables x.0 (key_of (table_at tables x.0) x.1) f) refl
          where
            by : (b : Bool) → has_key tables x.0 (key_of (table_at tables x.0) x.1) f ≡ b → b ≡ false
            by false is = refl
            by true is =
                let parts = and_of (f.0 == x.0) (agrees (table_at tables x.0).key (key_of (table_at tables x.0) x.1) f.1) is in
                let number : f.0 ≡ x.0 = eqb-true f.0 x.0 parts.0 in
                let key : key_of (table_at tables x.0) f.1 ≡ key_of (table_at tables x.0) x.1 = same_from_test (key_of (table_at tables x.0) f.1) (key_of (table_at tables x.0) x.1) parts.1 in
                let same : key_at tables f ≡ key_at tables x = ap (λ (t : ℕ). row_key t (key_of (table_at tables t) f.1)) number ∙ ap (row_key x.0) key in
                absurd (below_none pair.0 pairs (and_first (below_all key_cmp pair.0 pairs) (is_sorted key_cmp pairs) sorted) p i (row.key ∙ sym same ∙ sym later.key))

    -- the present rows are rows of their tables with different keys
    pub present_sound : AreSound tables (present_rows tables c)
    unfolding present_rows
    present_sound = record {
      known = all_from (λ (e : ℕ × List Value). IsTableNumber tables e.0) (present_rows tables c) (λ e i. (row_shown e i).2.number);
      fit = all_from (λ (e : ℕ × List Value). AllFit (types_of (table_at tables e.0)) e.1) (present_rows tables c) (λ e i. (row_shown e i).2.fits);
      short = all_from (λ (e : ℕ × List Value). length (stored_code (table_at tables e.0) e.1) ≤ 4096) (present_rows tables c) (λ e i. (row_shown e i).2.short);
      apart = rows_apart (entries c) (entries_sorted c) stands_all;
    }

    present_at_row : (e : ℕ × List Value) → In e (present_rows tables c) → IsRowAt tables (key_at tables e) (code_at tables e)
    present_at_row e i = at_row tables (present_rows tables c) present_sound e i

    own_entries : (e : ℕ × List Value) → In e (present_rows tables c) → (q : List ℕ) → has_code_entry tables (key_at tables e) (Some (code_at tables e)) q ≡ has_entry q (entry_keys e.0 (table_at tables e.0) e.1)
    unfolding at_row present_at_row
    own_entries e i q = entry_of_code tables sound (key_at tables e) (code_at tables e) q (present_at_row e i)

    own_group : (e : ℕ × List Value) → In e (present_rows tables c) → (γ : Group) → in_group tables γ (key_at tables e) (Some (code_at tables e)) ≡ row_in_group tables γ e.0 (Some e.1)
    unfolding at_row present_at_row
    own_group e i γ = group_of_code tables sound γ (key_at tables e) (code_at tables e) (present_at_row e i)

    module _ (stances : ℕ → Stance) (g : Good tables c stances) where
      -- each present row has its entries
      entry_there : (e : ℕ × List Value) → In e (present_rows tables c) → (q : List ℕ) → has_entry q (entry_keys e.0 (table_at tables e.0) e.1) ≡ true → get c q ≡ Some []
      entry_there e i q among =
          let has = own_entries e i q ∙ among in
          let names = names_code tables sound (key_at tables e) (Some (code_at tables e)) q (present_at_row e i) has in
          let there = (g.keys (key_at tables e)).lower q names (or_first (has_code_entry tables (key_at tables e) (present_at_cell (cell_at c (key_at tables e))) q) _ (ap (λ (p : Option (List ℕ)). has_code_entry tables (key_at tables e) p q) (shown_cell e i) ∙ has)) in
          by (get c q) refl there (entry_space tables (key_at tables e) q names)
        where
          by : (o : Option (List ℕ)) → get c q ≡ o → is_some o ≡ true → is_in_space 3 q ≡ true → get c q ≡ Some []
          by None is there space = absurd (false≢true there)
          by (Some w) is there space = is ∙ ap Some (shape.entries q w space is).1

      has_entries : (e : ℕ × List Value) → In e (present_rows tables c) → HasEntries tables c e
      unfolding entry_keys
      has_entries e i = all_from (λ (pair : Pair). get c pair.0 ≡ Some pair.1) (entries_from e.0 1 (table_at tables e.0) (table_at tables e.0).indexes e.1)
          (λ pair there. let r = in_entries e.0 1 (table_at tables e.0) (table_at tables e.0).indexes e.1 pair there in entry_there e i pair.0 r.0 ∙ ap Some (sym r.1))

      -- a present row of a group claims it
      row_claims : (γ : Group) (e : ℕ × List Value) → In e (present_rows tables c) → row_in_group tables γ e.0 (Some e.1) ≡ true → claims tables c stances γ (key_at tables e) ≡ true
      row_claims γ e i h = or_first (in_group tables γ (key_at tables e) (present_at_cell (cell_at c (key_at tables e)))) _ (ap (in_group tables γ (key_at tables e)) (shown_cell e i) ∙ own_group e i γ ∙ h)

      within_limit : (t : ℕ) (place : ℕ) → place < length (table_at tables t).limits → IsWithinLimit t (present_rows tables c) (limit_at (table_at tables t) place)
      within_limit t place inside values plain =
          let γ : Group = record { table = t; place = place; values = values } in
          let cols = (limit_at (table_at tables t) place).cols in
          let rows = group_of t cols values (present_rows tables c) in
          let key = λ (row : List Value). row_key t (key_of (table_at tables t) row) in
          let most = g.limits γ (map key rows) (keys_differ t (agrees cols values) (present_rows tables c) present_sound.fit present_sound.apart) (keys_claim t (agrees cols values) (claims tables c stances γ) (present_rows tables c) (λ row i agree. row_claims γ (t, row) i (and_back (t == t) _ (eq-eqb t t refl) (and_back (is_limit tables γ) (shares cols values row) (inside_test place (length (table_at tables t).limits) inside) (and_back (not (has_null values)) (agrees cols values row) (ap not plain) agree))))) in
          let long : length (map key rows) ≡ length rows = length-keys key rows in
          omega arith

      pub keeps_present : ((t : ℕ) (key : List Value) → IsTableNumber tables t → AllOfKinds (key_types (table_at tables t)) key → row_at tables (present_rows tables c) t key ≡ present_at tables c t key) → KeepsPresent tables c
      keeps_present coded = record {
        coded = coded;
        known = present_sound.known;
        fit = present_sound.fit;
        short = present_sound.short;
        apart = present_sound.apart;
        entries = all_from (HasEntries tables c) (present_rows tables c) has_entries;
        limits = λ t number. each_by (IsWithinLimit t (present_rows tables c)) (table_at tables t).limits (λ place d inside. subst (IsWithinLimit t (present_rows tables c)) (same_default (table_at tables t).limits place no_limit d inside) (within_limit t place inside));
      }

      -- ---- at rest
      abbrev AllIdle : Type 0
      AllIdle = (i : ℕ) → stances i ≡ Idle

      -- a pair of a row is free, and its row is present
      free_row : AllIdle → (k v : List ℕ) → is_in_space 2 k ≡ true → get c k ≡ Some v → (e : ℕ × List Value) × In e (present_rows tables c) × (k ≡ key_at tables e) × (v ≡ code_at tables e)
      free_row idle k v space is = by (cell_of v) refl
        where
          by : (x : Cell) → cell_of v ≡ x → (e : ℕ × List Value) × In e (present_rows tables c) × (k ≡ key_at tables e) × (v ≡ code_at tables e)
          by (Free code) cell =
              let r = shows_row k v code space is (ap present_in cell) in
              let same : ◌≡◌ {A = Option (List ℕ)} (Some code) (Some (code_at tables r.0)) = sym (ap present_in cell) ∙ r.2.code in
              let codes : code ≡ code_at tables r.0 = cc in
              (r.0, r.1, r.2.key, sym (free_is v code cell) ∙ codes)
          by (Held i m p) cell =
              let x = cell_is c k (Some v) space is ∙ ap (λ (x : Cell). Some x) cell in
              let held = subst (λ (x : Option Cell). HeldWell x stances k) x (g.keys k).held in
              absurd (subst (λ (s : Stance). IsHolder s k m p) (idle i) held)

      extra_none : AllIdle → (x : Option Cell) (q : List ℕ) → extra_at x stances q ≡ false
      extra_none idle None q = refl
      extra_none idle (Some (Free code)) q = refl
      extra_none idle (Some (Held i m p)) q = ap (λ (s : Stance). extra_by s q) (idle i)

      module _ (pairs : List Pair) (beside : AreBeside pairs) (same_beside : (q : List ℕ) → is_of_rows q ≡ false → others q ≡ find key_cmp q pairs) where
        abbrev d : Content
        d = their_content tables pairs beside (present_rows tables c) present_sound

        two : AllIdle → (q : List ℕ) → is_in_space 2 q ≡ true → get c q ≡ get d q
        two idle q space = by (get c q) refl (get d q) refl
          where
            by : (a : Option (List ℕ)) → get c q ≡ a → (b : Option (List ℕ)) → get d q ≡ b → get c q ≡ get d q
            by None none None none' = none ∙ sym none'
            by None none (Some v) some =
                let own = row_pair_is tables pairs beside (present_rows tables c) present_sound q v space some in
                let shown = row_shown own.0 own.1 in
                let wrong : ◌≡◌ {A = Option (List ℕ)} None (Some shown.0) = sym none ∙ ap (get c) own.2 ∙ shown.1 in absurd (cc)
            by (Some v) some b is =
                let r = free_row idle q v space some in
                some ∙ ap Some r.3 ∙ sym (ap (get d) r.2 ∙ get_own tables pairs beside (present_rows tables c) present_sound r.0 r.1)

        three : AllIdle → (q : List ℕ) → is_in_space 3 q ≡ true → get c q ≡ get d q
        three idle q space = by (get c q) refl (get d q) refl
          where
            empty_there : is_there d q ≡ true → get d q ≡ Some []
            empty_there there = by_get (get d q) refl there
              where
                by_get : (o : Option (List ℕ)) → get d q ≡ o → is_some o ≡ true → get d q ≡ Some []
                by_get None is there = absurd (false≢true there)
                by_get (Some w) is there = is ∙ ap Some (entry_pair_is tables pairs beside (present_rows tables c) present_sound q w space is).3

            present_there : (k : List ℕ) → Names tables k q → (p : Option (List ℕ)) → present_at_cell (cell_at c k) ≡ p → has_code_entry tables k p q ≡ true → is_there d q ≡ true
            present_there k names None none has = absurd (false≢true (sym (no_entries tables k q) ∙ has))
            present_there k names (Some code) some has = by_get (get c k) refl
              where
                k_space : is_in_space 2 k ≡ true
                k_space = subst (λ (k : List ℕ). is_in_space 2 k ≡ true) names.key_is refl

                by_get : (o : Option (List ℕ)) → get c k ≡ o → is_there d q ≡ true
                by_get None is = let wrong : ◌≡◌ {A = Option (List ℕ)} None (Some code) = sym (ap present_at_cell (cell_is c k None k_space is)) ∙ some in absurd (cc)
                by_get (Some v) is =
                    let r = shows_row k v code k_space is (sym (ap present_at_cell (cell_is c k (Some v) k_space is)) ∙ some) in
                    let codes : ◌≡◌ {A = Option (List ℕ)} (Some code) (Some (code_at tables r.0)) = sym (sym (ap present_at_cell (cell_is c k (Some v) k_space is)) ∙ some) ∙ r.2.code in
                    entries_there tables pairs beside (present_rows tables c) present_sound r.0 r.1 q
                    (sym (own_entries r.0 r.1 q) ∙ ap (λ (p : Option (List ℕ)). has_code_entry tables (key_at tables r.0) p q) (sym codes) ∙ ap (λ (k : List ℕ). has_code_entry tables k (Some code) q) (sym r.2.key) ∙ has)

            by : (a : Option (List ℕ)) → get c q ≡ a → (b : Option (List ℕ)) → get d q ≡ b → get c q ≡ get d q
            by None none None none' = none ∙ sym none'
            by None none (Some v) some =
                let own = entry_pair_is tables pairs beside (present_rows tables c) present_sound q v space some in
                let wrong : ◌≡◌ {A = Option (List ℕ)} None (Some []) = sym none ∙ entry_there own.0 own.1 q own.4 in absurd (cc)
            by (Some w) some b is =
                let entry = shape.entries q w space some in
                let k = entry.0.0 in
                let names = entry.0.1 in
                let may = (g.keys k).upper q names (ap is_some some) in
                let has = nothing_more (has_code_entry tables k (present_at_cell (cell_at c k)) q) (sym (ap (λ b. has_code_entry tables k (present_at_cell (cell_at c k)) q || b) (extra_none idle (cell_at c k) q)) ∙ may) in
                some ∙ ap Some entry.1 ∙ sym (empty_there (present_there k names (present_at_cell (cell_at c k)) refl has))

        pub settled_again : AllIdle → c ≡ content_pairs tables (present_rows tables c) pairs
        settled_again idle = same_content c d (λ q. elim (is_of_rows q) as (λ b. is_of_rows q ≡ b → get c q ≡ get d q) [
          | true ↦ λ of_rows. elim (either_of (is_in_space 2 q) (is_in_space 3 q) of_rows) [ inl space ↦ two idle q space | inr space ↦ three idle q space ]
          | false ↦ λ out. shape.beside q out ∙ same_beside q out ∙ sym (beside_same tables pairs beside (present_rows tables c) present_sound q out)
        ] refl)
