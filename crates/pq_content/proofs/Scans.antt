-- What ranges of a content under some first values answer, by the codes of the store.
use Rattle.std.proofs.Common.{◌≡◌, ℕ, ◌+◌, ◌≤◌, true, List, [], ◌∷◌, length, map, replicate, min, Some, refl, sym, ap, ◌∙◌, subst, arith}
use Rattle.std.specs.Prelude.{filter, take, slice_get, count_ones}
use Rattle.std.proofs.lemmas.Bool.{eqb-true}
use Rattle.std.proofs.lemmas.List.{length-map, length-take, take_min}
use Rattle.std.proofs.lemmas.List.Elements.{filter_agree}
use Rattle.pq_base.specs.Columns.{set_of}
use Rattle.pq_base.specs.declared.value.Dir.{Dir}
use Rattle.pq_base.specs.declared.value.Dir.TheVariants.{Asc}
use Rattle.pq_base.specs.declared.value.Value.{Value}
use Rattle.pq_base.specs.Order.{position_cmp}
use Rattle.pq_key_code.specs.KeyCode.{code_of, past_code, row_key, entry_key}
use Rattle.pq_key_code.proofs.StoreKeys.{code_of-ascending}
use Rattle.pq_schema.specs.declared.table.Index.{Index}
use Rattle.pq_schema.specs.declared.table.KeyPart.{KeyPart}
use Rattle.pq_schema.specs.declared.table.Table.{Table}
use Rattle.pq_schema.specs.Sequences.{ascending_part, columns_of, primary_sequence, index_sequence, begins_with}
use Rattle.pq_schema.specs.Tables.{table_at}
use Rattle.pq_content.specs.Pairs.{Pair, AreBeside, row_pair, entry_pair, content_pairs}
use Rattle.pq_store.specs.Content.{pairs_within}
use Rattle.pq_base.specs.Sorting.{sort_by}
use Rattle.pq_content.specs.Tables.{Rows, AllOfKinds, rows_of, types_at, value_of, key_of, values_of, dirs_of, group_of, first_columns, AreApart}
use Rattle.pq_content.proofs.EntryRanges.{entry_range, entry_count}
use Rattle.pq_content.proofs.Gets.{EachFits}
use Rattle.pq_content.proofs.Prefixes.{within_prefix, group_by_set}
use Rattle.pq_content.proofs.Ranges.{in_range}
use Rattle.pq_content.proofs.RowRanges.{row_range, row_count, key_bytes}
use Rattle.pq_content.proofs.TableRows.{rows_are, values_of-primary, dirs_of-primary}

pub columns_of-primary : (key : List ℕ) → columns_of (map ascending_part key) ≡ key
columns_of-primary [] = refl
columns_of-primary (col ∷ key) = ap (λ (cols : List ℕ). col ∷ cols) (columns_of-primary key)

-- ---- rows

-- the code of first values of a key is that in the directions of the whole
primary_code : (table : Table) (ps : List Value) → length ps ≤ length table.key → code_of (replicate (length ps) Asc) ps ≡ code_of (dirs_of (primary_sequence table)) ps
primary_code table ps short = sym (code_of-ascending (length table.key) ps short) ∙ ap (λ (ds : List Dir). code_of ds ps) (sym (dirs_of-primary table.key))

primary_bytes : (table : Table) (row : List Value) → key_bytes 0 [] [] table row ≡ code_of (dirs_of (primary_sequence table)) (values_of (primary_sequence table) row)
primary_bytes table row =
    ap (λ (n : ℕ). code_of (replicate n Asc) (key_of table row)) (length-map table.key (value_of row))
    ∙ (λ i. code_of (sym (dirs_of-primary table.key) i) (sym (values_of-primary table.key row) i))

module _ (tables : List Table) (rows : Rows) (others : List Pair) (fits : EachFits tables rows) (apart : AreApart tables rows) (beside : AreBeside others) (t : ℕ) where
  rows_in_prefix : (ps : List Value) → AllOfKinds (take (length ps) (types_at (table_at tables t).columns (table_at tables t).key)) ps → length ps ≤ length (table_at tables t).key → filter (λ row. in_range (code_of (replicate (length ps) Asc) ps) (past_code (code_of (replicate (length ps) Asc) ps)) (key_bytes 0 [] [] (table_at tables t) row)) (rows_of t rows) ≡ group_of t (take (length ps) (table_at tables t).key) ps rows
  rows_in_prefix ps kinds short =
      let table = table_at tables t in
      let sequence = primary_sequence table in
      let cols : columns_of sequence ≡ table.key = columns_of-primary table.key in
      let whole : AllOfKinds (take (length ps) (types_at table.columns (columns_of sequence))) ps = subst (λ (cs : List ℕ). AllOfKinds (take (length ps) (types_at table.columns cs)) ps) (sym cols) kinds in
      let enough : length ps ≤ length sequence = omega (arith, length-map table.key ascending_part) in
      let code = primary_code table ps short in
      filter_agree _ _ (λ row. (λ i. in_range (code i) (past_code (code i)) (primary_bytes table row i))) (rows_of t rows)
      ∙ within_prefix table sequence ps (rows_of t rows) whole enough (rows_are tables rows t fits apart)
      ∙ ap (λ (cs : List ℕ). group_of t (take (length ps) cs) ps rows) cols

  -- a range of rows under first values of the key: the group that has them, in the order of the key
  pub rows_under : (ps : List Value) → AllOfKinds (take (length ps) (types_at (table_at tables t).columns (table_at tables t).key)) ps → length ps ≤ length (table_at tables t).key → pairs_within (content_pairs tables rows others) (row_key t ps) (past_code (row_key t ps)) ≡ map (row_pair t (table_at tables t)) (sort_by (position_cmp (dirs_of (primary_sequence (table_at tables t)))) (values_of (primary_sequence (table_at tables t))) (group_of t (take (length ps) (table_at tables t).key) ps rows))
  rows_under ps kinds short =
      let table = table_at tables t in
      let code = code_of (replicate (length ps) Asc) ps in
      row_range t code (past_code code) tables rows others fits apart beside
      ∙ ap (λ (rs : List (List Value)). map (row_pair t table) (sort_by (position_cmp (dirs_of (primary_sequence table))) (values_of (primary_sequence table)) rs)) (rows_in_prefix ps kinds short)

  pub rows_counted : (ps : List Value) → AllOfKinds (take (length ps) (types_at (table_at tables t).columns (table_at tables t).key)) ps → length ps ≤ length (table_at tables t).key → length (pairs_within (content_pairs tables rows others) (row_key t ps) (past_code (row_key t ps))) ≡ length (group_of t (take (length ps) (table_at tables t).key) ps rows)
  rows_counted ps kinds short =
      let code = code_of (replicate (length ps) Asc) ps in
      row_count t code (past_code code) tables rows others fits apart beside
      ∙ ap (λ (rs : List (List Value)). length rs) (rows_in_prefix ps kinds short)

  -- ---- entries

  module _ (place : ℕ) (index : Index) (has : slice_get (table_at tables t).indexes place ≡ Some index) (i : ℕ) (number : 1 + place ≡ i) where
    -- a range of entries under first values of the index: the entries of the group that has them, in its order
    pub entries_under : (ps : List Value) → AllOfKinds (take (length ps) (types_at (table_at tables t).columns (columns_of (index_sequence (table_at tables t) index)))) ps → length ps ≤ length (index_sequence (table_at tables t) index) → pairs_within (content_pairs tables rows others) (entry_key t i (dirs_of (index_sequence (table_at tables t) index)) ps) (past_code (entry_key t i (dirs_of (index_sequence (table_at tables t) index)) ps)) ≡ map (entry_pair t i (index_sequence (table_at tables t) index)) (sort_by (position_cmp (dirs_of (index_sequence (table_at tables t) index))) (values_of (index_sequence (table_at tables t) index)) (group_of t (take (length ps) (columns_of (index_sequence (table_at tables t) index))) ps rows))
    entries_under ps kinds short =
        let sequence = index_sequence (table_at tables t) index in
        let code = code_of (dirs_of sequence) ps in
        entry_range t i code (past_code code) tables place index has number rows others fits apart beside
        ∙ ap (λ (rs : List (List Value)). map (entry_pair t i sequence) (sort_by (position_cmp (dirs_of sequence)) (values_of sequence) rs)) (within_prefix (table_at tables t) sequence ps (rows_of t rows) kinds short (rows_are tables rows t fits apart))

    pub entries_counted : (ps : List Value) → AllOfKinds (take (length ps) (types_at (table_at tables t).columns (columns_of (index_sequence (table_at tables t) index)))) ps → length ps ≤ length (index_sequence (table_at tables t) index) → length (pairs_within (content_pairs tables rows others) (entry_key t i (dirs_of (index_sequence (table_at tables t) index)) ps) (past_code (entry_key t i (dirs_of (index_sequence (table_at tables t) index)) ps))) ≡ length (group_of t (take (length ps) (columns_of (index_sequence (table_at tables t) index))) ps rows)
    entries_counted ps kinds short =
        let sequence = index_sequence (table_at tables t) index in
        let code = code_of (dirs_of sequence) ps in
        entry_count t i code (past_code code) tables place index has number rows others fits apart beside
        ∙ ap (λ (rs : List (List Value)). length rs) (within_prefix (table_at tables t) sequence ps (rows_of t rows) kinds short (rows_are tables rows t fits apart))

-- ---- the group of a set of columns, by the first columns of a sequence

pub group_by_first : (sequence : List KeyPart) (cols : List ℕ) (assign : ℕ → Value) (t : ℕ) (rows : Rows) → begins_with sequence (set_of cols) ≡ true → group_of t (take (length (map assign (first_columns sequence cols))) (columns_of sequence)) (map assign (first_columns sequence cols)) rows ≡ group_of t cols (map assign cols) rows
group_by_first sequence cols assign t rows begins =
    let n = count_ones (set_of cols) in
    let first = first_columns sequence cols in
    let long : length (map assign first) ≡ min n (length (columns_of sequence)) = length-map first assign ∙ length-take n (columns_of sequence) in
    let taken : take (length (map assign first)) (columns_of sequence) ≡ first = ap (λ (k : ℕ). take k (columns_of sequence)) long ∙ take_min n (columns_of sequence) in
    ap (λ (cs : List ℕ). group_of t cs (map assign first) rows) taken
    ∙ group_by_set t first cols assign rows (eqb-true (set_of first) (set_of cols) begins)
