-- A row of a group has a pair in the range where the group is counted.
use Rattle.std.proofs.Common.{◌≡◌, ℕ, zero, suc, ◌+◌, ◌≤◌, ◌<◌, ◌==◌, nat_lt, min, true, false, cond, ◌&&◌, ◌⊎◌, inl, inr, List, [], ◌∷◌, ◌++◌, map, length, take, replicate, count_ones, Option, Some, None, refl, sym, ap, ◌∙◌, subst, arith}
use Rattle.std.specs.Prelude.{IsSome, slice_get}
use Rattle.std.proofs.lemmas.Bool.{false≢true, eqb-true, eq-eqb}
use Rattle.std.proofs.lemmas.Bool.Decides.{nat_tests}
use Rattle.std.proofs.lemmas.List.{length-map, length-take, take_min, take-map}
use Rattle.pq_base.specs.Columns.{set_of}
use Rattle.pq_base.specs.Values.{AllFit}
use Rattle.pq_base.specs.declared.value.ColType.{ColType}
use Rattle.pq_base.specs.declared.value.Dir.{Dir}
use Rattle.pq_base.specs.declared.value.Dir.TheVariants.{Asc}
use Rattle.pq_base.specs.declared.value.Value.{Value}
use Rattle.pq_key_code.specs.KeyCode.{code_of, row_key, entry_key}
use Rattle.pq_key_code.proofs.StoreKeys.{code_of-ascending}
use Rattle.pq_schema.specs.declared.table.Access.{Access}
use Rattle.pq_schema.specs.declared.table.Access.TheVariants.{Primary, Secondary}
use Rattle.pq_schema.specs.declared.table.Index.{Index}
use Rattle.pq_schema.specs.declared.table.KeyPart.{KeyPart}
use Rattle.pq_schema.specs.declared.table.Table.{Table}
use Rattle.pq_schema.specs.Sequences.{columns_of, primary_sequence, index_sequence, index_numbered, begins_with, group_access}
use Rattle.pq_schema.specs.Tables.{table_at}
use Rattle.pq_content.specs.Pairs.{is_in_space, entries_from}
use Rattle.pq_content.specs.Tables.{AllOfKinds, types_of, types_at, value_of, cells, values_of, key_of, dirs_of, same_values, first_columns}
use Rattle.pq_content.proofs.Keys.{key_itself}
use Rattle.pq_content.proofs.Prefixes.{in_prefix}
use Rattle.pq_content.proofs.Ranges.{in_range, range-cons}
use Rattle.pq_content.proofs.Scans.{columns_of-primary}
use Rattle.pq_content.proofs.Sequence.{agree_by_set}
use Rattle.pq_content.proofs.TableRows.{values_of-primary, dirs_of-primary, sequence_kinds}
use Rattle.pq_content.proofs.Values.{same_from_test, same_values_itself, values_of-columns_of}
use Rattle.pq_calls.specs.Keys.{sequence_key}
use Rattle.pq_index_keep.specs.Effects.{limit_at}
use Rattle.pq_row_keys.specs.Groups.{access_of, first_values, group_key}
use Rattle.pq_index_keep.specs.Sound.{AreWritable, IsWritable}
use Rattle.pq_schema.specs.Keys.{given_value}
use Rattle.pq_index_keep.proofs.Counted.{given_at, access_found}
use Rattle.pq_index_keep.proofs.Inserting.{writable_at}
use Rattle.pq_schema.specs.Candidates.{no_limit}
use Rattle.pq_clients.specs.Flights.{has_entry, entry_keys}
use Rattle.pq_clients.specs.Invariant.{code_row, key_table, row_in_group, is_limit, has_code_entry, MayStandAt, Names, Group, in_group, front_of_group, shares}
use Rattle.pq_clients.proofs.Basics.{and_of, or_first, or_second, shared_of}
use Rattle.pq_clients.proofs.Coded.{group_of_code, entry_of_code}
use Rattle.pq_clients.proofs.Counting.{is_under}

-- ---- a row's values in a sequence lie in the range of the first of them

prefix_kinds : (m : ℕ) (ts : List ColType) (xs : List Value) → AllOfKinds ts xs → AllOfKinds (take m ts) (take m xs)
prefix_kinds zero ts xs h = tt
prefix_kinds (suc m) [] [] h = tt
prefix_kinds (suc m) [] (x ∷ xs) h = absurd h
prefix_kinds (suc m) (t ∷ ts) [] h = absurd h
prefix_kinds (suc m) (t ∷ ts) (x ∷ xs) h = (h.0, prefix_kinds m ts xs h.1)

module _ (table : Table) (row : List Value) (fits : AllFit (types_of table) row) where
  first_long : (sequence : List KeyPart) (n : ℕ) → length (cells (take n (columns_of sequence)) row) ≡ min n (length (columns_of sequence))
  first_long sequence n = length-map (take n (columns_of sequence)) (value_of row) ∙ length-take n (columns_of sequence)

  in_first : (sequence : List KeyPart) (n : ℕ) → in_range (code_of (dirs_of sequence) (cells (take n (columns_of sequence)) row)) (code_of (dirs_of sequence) (cells (take n (columns_of sequence)) row) ++ 32 ∷ []) (code_of (dirs_of sequence) (values_of sequence row)) ≡ true
  in_first sequence n =
      let all = columns_of sequence in
      let ps = cells (take n all) row in
      let long = first_long sequence n in
      let taken : take (length ps) all ≡ take n all = ap (λ (k : ℕ). take k all) long ∙ take_min n all in
      let own : AllOfKinds (types_at table.columns all) (cells all row) = subst (λ (xs : List Value). AllOfKinds (types_at table.columns all) xs) (values_of-columns_of sequence row) (sequence_kinds table sequence row fits) in
      let front : take (length ps) (cells all row) ≡ ps = take-map (value_of row) (length ps) all ∙ ap (λ (cs : List ℕ). cells cs row) taken in
      let kinds : AllOfKinds (take (length ps) (types_at table.columns all)) ps = subst (λ (xs : List Value). AllOfKinds (take (length ps) (types_at table.columns all)) xs) front (prefix_kinds (length ps) (types_at table.columns all) (cells all row) own) in
      let columns : length all ≡ length sequence = length-map sequence (λ (part : KeyPart). part.col) in
      in_prefix table sequence ps row kinds (omega (arith, long, columns)) fits
      ∙ ap (λ (cs : List ℕ). same_values (cells cs row) ps) taken ∙ same_values_itself ps

  -- the values that the first columns are given are the row's
  first_given : (sequence : List KeyPart) (cols : List ℕ) → begins_with sequence (set_of cols) ≡ true → map (given_value cols (cells cols row)) (first_columns sequence cols) ≡ cells (first_columns sequence cols) row
  first_given sequence cols begins = agree_by_set cols (first_columns sequence cols) (given_value cols (cells cols row)) (value_of row) (sym (eqb-true (set_of (first_columns sequence cols)) (set_of cols) begins)) (given_at cols row)

  module _ (t : ℕ) (tables : List Table) where
    under_primary : (cols : List ℕ) → begins_with (primary_sequence table) (set_of cols) ≡ true → is_under tables (sequence_key t table Primary (first_values table Primary cols (cells cols row))) (row_key t (key_of table row)) ≡ true
    under_primary cols begins =
        let sequence = primary_sequence table in
        let n = count_ones (set_of cols) in
        let ps = cells (take n (columns_of sequence)) row in
        let given = first_given sequence cols begins in
        let columns : columns_of sequence ≡ table.key = columns_of-primary table.key in
        let short : length ps ≤ length table.key = omega (arith, first_long sequence n, ap (λ (cs : List ℕ). length cs) columns) in
        let code_front : code_of (replicate (length ps) Asc) ps ≡ code_of (dirs_of sequence) ps = sym (code_of-ascending (length table.key) ps short) ∙ ap (λ (ds : List Dir). code_of ds ps) (sym (dirs_of-primary table.key)) in
        let code_key : code_of (replicate (length (key_of table row)) Asc) (key_of table row) ≡ code_of (dirs_of sequence) (values_of sequence row) =
        ap (λ (n : ℕ). code_of (replicate n Asc) (key_of table row)) (length-map table.key (value_of row)) ∙ ap (λ (ds : List Dir). code_of ds (key_of table row)) (sym (dirs_of-primary table.key)) ∙ ap (code_of (dirs_of sequence)) (sym (values_of-primary table.key row)) in
        ap (λ (vs : List Value). is_under tables (row_key t vs) (row_key t (key_of table row))) given
        ∙ behind t (code_of (replicate (length ps) Asc) ps) (code_of (replicate (length (key_of table row)) Asc) (key_of table row))
        ∙ ap (λ (front : List ℕ). in_range front (front ++ 32 ∷ []) (code_of (replicate (length (key_of table row)) Asc) (key_of table row))) code_front
        ∙ ap (in_range (code_of (dirs_of sequence) ps) (code_of (dirs_of sequence) ps ++ 32 ∷ [])) code_key
        ∙ in_first sequence n
      where
        behind : (t : ℕ) (front key : List ℕ) → is_under tables (2 ∷ t ∷ front) (2 ∷ t ∷ key) ≡ in_range front (front ++ 32 ∷ []) key
        behind t front key = range-cons 2 2 (t ∷ front) (t ∷ front ++ 32 ∷ []) (t ∷ key) ∙ range-cons t t front (front ++ 32 ∷ []) key ∙ ap (λ b. b && in_range front (front ++ 32 ∷ []) key) (eq-eqb t t refl)

    under_index : (cols : List ℕ) (place : ℕ) (index : Index) → index ≡ index_numbered table (place + 1) → begins_with (index_sequence table index) (set_of cols) ≡ true → is_under tables (sequence_key t table (Secondary (place + 1)) (first_values table (Secondary (place + 1)) cols (cells cols row))) (entry_key t (place + 1) (dirs_of (index_sequence table index)) (values_of (index_sequence table index) row)) ≡ true
    under_index cols place index is begins =
        let sequence = index_sequence table index in
        let n = count_ones (set_of cols) in
        let ps = cells (take n (columns_of sequence)) row in
        ap (λ (index : Index). is_under tables (entry_key t (place + 1) (dirs_of (index_sequence table index)) (map (given_value cols (cells cols row)) (first_columns (index_sequence table index) cols))) (entry_key t (place + 1) (dirs_of sequence) (values_of sequence row))) (sym is)
        ∙ ap (λ (vs : List Value). is_under tables (entry_key t (place + 1) (dirs_of sequence) vs) (entry_key t (place + 1) (dirs_of sequence) (values_of sequence row))) (first_given sequence cols begins)
        ∙ behind t (place + 1) (code_of (dirs_of sequence) ps) (code_of (dirs_of sequence) (values_of sequence row))
        ∙ in_first sequence n
      where
        behind : (t i : ℕ) (front key : List ℕ) → is_under tables (3 ∷ t ∷ i ∷ front) (3 ∷ t ∷ i ∷ key) ≡ in_range front (front ++ 32 ∷ []) key
        behind t i front key = range-cons 3 3 (t ∷ i ∷ front) (t ∷ i ∷ front ++ 32 ∷ []) (t ∷ i ∷ key) ∙ range-cons t t (i ∷ front) (i ∷ front ++ 32 ∷ []) (i ∷ key)
            ∙ ap (λ b. b && in_range (i ∷ front) (i ∷ front ++ 32 ∷ []) (i ∷ key)) (eq-eqb t t refl) ∙ range-cons i i front (front ++ 32 ∷ []) key ∙ ap (λ b. b && in_range front (front ++ 32 ∷ []) key) (eq-eqb i i refl)

    among_from : (i place : ℕ) (indexes : List Index) (index : Index) → slice_get indexes place ≡ Some index → has_entry (entry_key t (i + place) (dirs_of (index_sequence table index)) (values_of (index_sequence table index) row)) (map (λ pair. pair.0) (entries_from t i table indexes row)) ≡ true
    among_from i place [] index h = absurd (cc)
    among_from i zero (x ∷ indexes) index h =
        let same : x ≡ index = cc in
        let number : i + 0 ≡ i = omega arith in
        let key = λ (n : ℕ) (index : Index). entry_key t n (dirs_of (index_sequence table index)) (values_of (index_sequence table index) row) in
        subst (λ (index : Index). has_entry (key (i + 0) index) (map (λ pair. pair.0) (entries_from t i table (x ∷ indexes) row)) ≡ true) same
        (subst (λ (n : ℕ). has_entry (key n x) (map (λ pair. pair.0) (entries_from t i table (x ∷ indexes) row)) ≡ true) (sym number)
        (or_first _ (has_entry (key i x) (map (λ pair. pair.0) (entries_from t (i + 1) table indexes row))) (key_itself (key i x))))
    among_from i (suc place) (x ∷ indexes) index h =
        let key = λ (n : ℕ). entry_key t n (dirs_of (index_sequence table index)) (values_of (index_sequence table index) row) in
        let number : i + 1 + place ≡ i + suc place = omega arith in
        or_second _ _ (subst (λ (n : ℕ). has_entry (key n) (map (λ pair. pair.0) (entries_from t (i + 1) table indexes row)) ≡ true) number (among_from (i + 1) place indexes index h))

    abbrev SeenRow : List ℕ → Type 0
    SeenRow front = (is_under tables front (row_key t (key_of table row)) ≡ true) ⊎ ((e : List ℕ) × (has_entry e (entry_keys t table row) ≡ true) × (is_under tables front e ≡ true))

    by_access : (cols : List ℕ) (access : Access)
        → ((access ≡ Primary) × (begins_with (primary_sequence table) (set_of cols) ≡ true)) ⊎ ((place : ℕ) × (access ≡ Secondary (place + 1)) × (slice_get table.indexes place ≡ Some (index_numbered table (place + 1))) × (begins_with (index_sequence table (index_numbered table (place + 1))) (set_of cols) ≡ true))
        → SeenRow (sequence_key t table access (first_values table access cols (cells cols row)))
    unfolding entry_keys
    by_access cols access (inl primary) = subst (λ (a : Access). SeenRow (sequence_key t table a (first_values table a cols (cells cols row)))) (sym primary.0) (inl (under_primary cols primary.1))
    by_access cols access (inr index) =
        let place = index.0 in
        let own = index_numbered table (place + 1) in
        let number : 1 + place ≡ place + 1 = omega arith in
        let key = λ (n : ℕ). entry_key t n (dirs_of (index_sequence table own)) (values_of (index_sequence table own) row) in
        subst (λ (a : Access). SeenRow (sequence_key t table a (first_values table a cols (cells cols row)))) (sym index.1)
        (inr (key (place + 1), subst (λ (n : ℕ). has_entry (key n) (map (λ pair. pair.0) (entries_from t 1 table table.indexes row)) ≡ true) number (among_from 1 place table.indexes own index.2), under_index cols place own refl index.3))

    seen_row : (cols : List ℕ) → IsSome (group_access table (set_of cols)) → SeenRow (group_key t table cols (cells cols row))
    unfolding group_key
    seen_row cols there = by_access cols (access_of table cols) (access_found table cols there)

module _ (tables : List Table) where
  abbrev pub Seen : List ℕ → Option (List ℕ) → Group → Type 0
  Seen k code g = ((is_in_space 2 k ≡ true) × (is_under tables (front_of_group tables g) k ≡ true))
      ⊎ ((e : List ℕ) × Names tables k e × (is_under tables (front_of_group tables g) e ≡ true) × (has_code_entry tables k code e ≡ true))

  pub nothing_grouped : (g : Group) (k : List ℕ) → in_group tables g k None ≡ false
  unfolding in_group code_row
  nothing_grouped g k = elim (is_in_space 2 k) as (λ b. row_in_group tables g (key_table k) (cond b None None) ≡ false) [ true ↦ refl | false ↦ refl ]

  less_than : (a b : ℕ) → nat_lt a b ≡ true → a < b
  less_than a b h = grind (arith, nat_tests)

  row_space : (t : ℕ) (key : List Value) → is_in_space 2 (row_key t key) ≡ true
  row_space t key = refl

  pub seen : AreWritable tables → (k : List ℕ) (code : Option (List ℕ)) (g : Group) → MayStandAt tables k code → in_group tables g k code ≡ true → Seen k code g
  seen sound k None g stands grouped = absurd (false≢true (sym (nothing_grouped g k) ∙ grouped))
  seen sound k (Some code) g at grouped =
      let t = at.table in
      let table = table_at tables t in
      let row = at.row in
      let w : IsWritable tables table = writable_at tables t sound at.number in
      let in_row : row_in_group tables g t (Some row) ≡ true = sym (group_of_code tables sound g k code at) ∙ grouped in
      let cols_of = λ (t : ℕ). (limit_at (table_at tables t) g.place).cols in
      let parts = and_of (t == g.table) (is_limit tables g && shares (cols_of g.table) g.values row) in_row in
      let same : t ≡ g.table = eqb-true t g.table parts.0 in
      let inner = and_of (is_limit tables g) (shares (cols_of g.table) g.values row) parts.1 in
      let shared = shared_of (cols_of g.table) g.values row inner.1 in
      let inside : g.place < length table.limits = subst (λ (t : ℕ). g.place < length (table_at tables t).limits) (sym same) (less_than g.place (length (table_at tables g.table).limits) inner.0) in
      let values : cells (cols_of g.table) row ≡ g.values = same_from_test (cells (cols_of g.table) row) g.values shared.1 in
      let front : group_key t table (cols_of t) (cells (cols_of t) row) ≡ front_of_group tables g =
      ap (λ (t : ℕ). group_key t (table_at tables t) (cols_of t) (cells (cols_of t) row)) same ∙ ap (group_key g.table (table_at tables g.table) (cols_of g.table)) values in
      elim (seen_row table row at.fits t tables (cols_of t) (w.made.limit_groups g.place no_limit inside)) [
        | inl own ↦ inl (
          subst (λ (k : List ℕ). is_in_space 2 k ≡ true) at.key_is (row_space t (key_of table row)),
          subst (λ (k : List ℕ). is_under tables (front_of_group tables g) k ≡ true) at.key_is (subst (λ (front : List ℕ). is_under tables front (row_key t (key_of table row)) ≡ true) front own),
        )
        | inr entry ↦ inr (
          entry.0,
          record { table = t; row = row; number = at.number; fits = at.fits; key_is = at.key_is; among = entry.1 },
          subst (λ (front : List ℕ). is_under tables front entry.0 ≡ true) front entry.2,
          entry_of_code tables sound k code entry.0 at ∙ entry.1,
        )
      ]
