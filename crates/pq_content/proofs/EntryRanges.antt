-- What a range of an index's entries answers, and how many pairs it has.
use Rattle.std.proofs.Common.{◌≡◌, ℕ, zero, suc, ◌+◌, ◌<◌, Bool, true, false, cond, ◌&&◌, ◌==◌, List, [], ◌∷◌, ◌++◌, length, map, flat_map, Some, refl, ap, ◌∙◌, arith}
use Rattle.std.specs.Prelude.{filter, slice_get}
use Rattle.std.specs.FinMap.{entries, from_entries}
use Rattle.std.specs.FinMap.Entries.{where_key}
use Rattle.std.proofs.lemmas.Bool.{eqb-true, eq-eqb, ne_eqb}
use Rattle.std.proofs.lemmas.List.{append-nil, length-map}
use Rattle.std.proofs.lemmas.List.Elements.{filter-append}
use Rattle.std.proofs.lemmas.Option.{none-some, same_Some}
use Rattle.pq_base.specs.declared.value.Value.{Value}
use Rattle.pq_base.specs.Order.{position_cmp}
use Rattle.pq_schema.specs.declared.table.Index.{Index}
use Rattle.pq_schema.specs.declared.table.Table.{Table}
use Rattle.pq_schema.specs.Sequences.{index_sequence}
use Rattle.pq_schema.specs.Tables.{table_at}
use Rattle.pq_content.specs.Pairs.{Pair, AreBeside, entry_pair, entries_from, pairs_of_row, row_pairs, content_pairs}
use Rattle.pq_store.specs.Content.{key_cmp, pairs_within}
use Rattle.pq_base.specs.Sorting.{sort_by}
use Rattle.pq_content.specs.Tables.{Rows, rows_of, values_of, dirs_of, AreApart}
use Rattle.pq_content.proofs.Gets.{EachFits}
use Rattle.pq_content.proofs.Ranges.{where_from, where-flat_map, in_range, range-cons}
use Rattle.pq_content.proofs.RowRanges.{sorted_pairs, beside_outside}
use Rattle.pq_base.proofs.Sorts.{length-sort_by}
use Rattle.pq_content.proofs.TableRows.{AreRows-filter, rows_are, index_determines}
use Rattle.pq_key_code.specs.KeyCode.{code_of}

module _ (t i : ℕ) (low high : List ℕ) where
  -- the code of a row in an index
  abbrev pub entry_bytes : Table → Index → List Value → List ℕ
  entry_bytes table index row = code_of (dirs_of (index_sequence table index)) (values_of (index_sequence table index) row)

  abbrev in_entries : List ℕ → Bool
  in_entries = in_range (3 ∷ t ∷ i ∷ low) (3 ∷ t ∷ i ∷ high)

  in_entries_entry : (u j : ℕ) (code : List ℕ) → in_entries (3 ∷ u ∷ j ∷ code) ≡ ((u == t) && ((j == i) && in_range low high code))
  in_entries_entry u j code =
      range-cons 3 3 (t ∷ i ∷ low) (t ∷ i ∷ high) (u ∷ j ∷ code)
      ∙ range-cons t u (i ∷ low) (i ∷ high) (j ∷ code)
      ∙ ap (λ b. (u == t) && b) (range-cons i j low high code)

  -- one entry in front of others
  step : (u j : ℕ) (table : Table) (index : Index) (indexes : List Index) (row : List Value) (b : Bool) → ((u == t) && ((j == i) && in_range low high (entry_bytes table index row))) ≡ b → where_key key_cmp in_entries (entries_from u j table (index ∷ indexes) row) ≡ cond b (entry_pair u j (index_sequence table index) row ∷ where_key key_cmp in_entries (entries_from u (j + 1) table indexes row)) (where_key key_cmp in_entries (entries_from u (j + 1) table indexes row))
  step u j table index indexes row b h =
      let l = where_key key_cmp in_entries (entries_from u (j + 1) table indexes row) in
      ap (λ b. cond b (entry_pair u j (index_sequence table index) row ∷ l) l) (in_entries_entry u j (entry_bytes table index row) ∙ h)

  other_table : (u j : ℕ) (table : Table) (indexes : List Index) (row : List Value) → (u == t) ≡ false → where_key key_cmp in_entries (entries_from u j table indexes row) ≡ []
  other_table u j table [] row h = refl
  other_table u j table (index ∷ indexes) row h =
      step u j table index indexes row false (ap (λ b. b && ((j == i) && in_range low high (entry_bytes table index row))) h)
      ∙ other_table u (j + 1) table indexes row h

  other_index : (u j : ℕ) (b : Bool) → (j ≡ i → ⊥) → ((u == t) && ((j == i) && b)) ≡ false
  other_index u j b apart = ap (λ c. (u == t) && (c && b)) (ne_eqb j i apart) ∙ elim (u == t) as (λ c. (c && false) ≡ false) [ true ↦ refl | false ↦ refl ]

  later_index : (u j : ℕ) (table : Table) (indexes : List Index) (row : List Value) → i < j → where_key key_cmp in_entries (entries_from u j table indexes row) ≡ []
  later_index u j table [] row h = refl
  later_index u j table (index ∷ indexes) row h =
      let apart : j ≡ i → ⊥ = λ e. absurd (omega arith) in
      step u j table index indexes row false (other_index u j (in_range low high (entry_bytes table index row)) apart)
      ∙ later_index u (j + 1) table indexes row (omega arith)

  own_index : (j n : ℕ) (table : Table) (index : Index) (indexes : List Index) (row : List Value) → slice_get indexes n ≡ Some index → j + n ≡ i → where_key key_cmp in_entries (entries_from t j table indexes row) ≡ cond (in_range low high (entry_bytes table index row)) (entry_pair t i (index_sequence table index) row ∷ []) []
  own_index j n table index [] row h e = absurd (none-some index h)
  own_index j zero table index (first ∷ indexes) row h e =
      let here : j ≡ i = omega arith in
      let same : first ≡ index = same_Some first index h in
      let test : ((t == t) && ((j == i) && in_range low high (entry_bytes table first row))) ≡ in_range low high (entry_bytes table first row) = (λ k. eq-eqb t t refl k && (eq-eqb j i here k && in_range low high (entry_bytes table first row))) in
      step t j table first indexes row _ test
      ∙ ap (λ l. cond (in_range low high (entry_bytes table first row)) (entry_pair t j (index_sequence table first) row ∷ l) l) (later_index t (j + 1) table indexes row (omega arith))
      ∙ (λ k. cond (in_range low high (entry_bytes table (same k) row)) (entry_pair t (here k) (index_sequence table (same k)) row ∷ []) [])
  own_index j (suc n) table index (first ∷ indexes) row h e =
      let apart : j ≡ i → ⊥ = λ same. absurd (omega arith) in
      step t j table first indexes row false (other_index t j (in_range low high (entry_bytes table first row)) apart)
      ∙ own_index (j + 1) n table index indexes row h (omega arith)

  module _ (tables : List Table) (place : ℕ) (index : Index) (has : slice_get (table_at tables t).indexes place ≡ Some index) (number : 1 + place ≡ i) where
    -- the rows of the table whose codes in the index are in the range
    abbrev pub entries_within : Rows → List (List Value)
    entries_within rows = filter (λ row. in_range low high (entry_bytes (table_at tables t) index row)) (rows_of t rows)

    own_entry : (e : ℕ × List Value) → where_key key_cmp in_entries (pairs_of_row e.0 (table_at tables e.0) e.1) ≡ cond ((e.0 == t) && in_range low high (entry_bytes (table_at tables t) index e.1)) (entry_pair t i (index_sequence (table_at tables t) index) e.1 ∷ []) []
    own_entry e =
        elim (e.0 == t) as (λ b. (e.0 == t) ≡ b → where_key key_cmp in_entries (entries_from e.0 1 (table_at tables e.0) (table_at tables e.0).indexes e.1) ≡ cond (b && in_range low high (entry_bytes (table_at tables t) index e.1)) (entry_pair t i (index_sequence (table_at tables t) index) e.1 ∷ []) []) [
          | true ↦ λ is. ap (λ (n : ℕ). where_key key_cmp in_entries (entries_from n 1 (table_at tables n) (table_at tables n).indexes e.1)) (eqb-true e.0 t is) ∙ own_index 1 place (table_at tables t) index (table_at tables t).indexes e.1 has number
          | false ↦ λ is. other_table e.0 1 (table_at tables e.0) (table_at tables e.0).indexes e.1 is
        ] refl

    flat_entries : (rows : Rows) → flat_map (λ (e : ℕ × List Value). where_key key_cmp in_entries (pairs_of_row e.0 (table_at tables e.0) e.1)) rows ≡ map (entry_pair t i (index_sequence (table_at tables t) index)) (entries_within rows)
    flat_entries [] = refl
    flat_entries (e ∷ es) =
        let f = entry_pair t i (index_sequence (table_at tables t) index) in
        let test = λ (row : List Value). in_range low high (entry_bytes (table_at tables t) index row) in
        (λ k. own_entry e k ++ flat_entries es k)
        ∙ elim (e.0 == t) as (λ b. cond (b && test e.1) (f e.1 ∷ []) [] ++ map f (entries_within es) ≡ map f (filter test (cond b (e.1 ∷ rows_of t es) (rows_of t es)))) [
          | true ↦ elim (test e.1) as (λ b. cond b (f e.1 ∷ []) [] ++ map f (entries_within es) ≡ map f (cond b (e.1 ∷ entries_within es) (entries_within es))) [ true ↦ refl | false ↦ refl ]
          | false ↦ refl
        ]

    listed : (rows : Rows) (others : List Pair) → AreBeside others → where_key key_cmp in_entries (row_pairs tables rows ++ others) ≡ map (entry_pair t i (index_sequence (table_at tables t) index)) (entries_within rows)
    listed rows others beside =
        let g = λ (e : ℕ × List Value). pairs_of_row e.0 (table_at tables e.0) e.1 in
        filter-append (λ (x : Pair). in_entries x.0) (flat_map g rows) others
        ∙ (λ k. (where-flat_map in_entries g rows ∙ flat_entries rows) k ++ beside_outside 3 (t ∷ i ∷ low) (t ∷ i ∷ high) others refl beside k)
        ∙ append-nil _

    -- a range of an index's entries has those of the rows whose codes lie in it, in the order of the index
    pub entry_range : (rows : Rows) (others : List Pair) → EachFits tables rows → AreApart tables rows → AreBeside others → pairs_within (content_pairs tables rows others) (3 ∷ t ∷ i ∷ low) (3 ∷ t ∷ i ∷ high) ≡ map (entry_pair t i (index_sequence (table_at tables t) index)) (sort_by (position_cmp (dirs_of (index_sequence (table_at tables t) index))) (values_of (index_sequence (table_at tables t) index)) (entries_within rows))
    unfolding content_pairs
    entry_range rows others fits apart beside =
        let table = table_at tables t in
        where_from in_entries (row_pairs tables rows ++ others)
        ∙ ap (λ (l : List Pair). entries (from_entries {R = key_cmp} l)) (listed rows others beside)
        ∙ sorted_pairs table (index_sequence table index) (index_determines table index) (3 ∷ t ∷ i ∷ []) (λ _. []) (entries_within rows) (AreRows-filter table (λ row. in_range low high (entry_bytes table index row)) (rows_of t rows) (rows_are tables rows t fits apart))

    pub entry_count : (rows : Rows) (others : List Pair) → EachFits tables rows → AreApart tables rows → AreBeside others → length (pairs_within (content_pairs tables rows others) (3 ∷ t ∷ i ∷ low) (3 ∷ t ∷ i ∷ high)) ≡ length (entries_within rows)
    entry_count rows others fits apart beside =
        let sequence = index_sequence (table_at tables t) index in
        let sorted = sort_by (position_cmp (dirs_of sequence)) (values_of sequence) (entries_within rows) in
        ap (λ (l : List Pair). length l) (entry_range rows others fits apart beside)
        ∙ length-map sorted (entry_pair t i sequence)
        ∙ length-sort_by (position_cmp (dirs_of sequence)) (values_of sequence) (entries_within rows)
