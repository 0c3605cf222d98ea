-- The keys and values of the changes of a write are short.
use Rattle.std.proofs.Common.{◌≡◌, ℕ, ◌+◌, ◌*◌, ◌≤◌, zero, suc, true, false, cond, List, [], ◌∷◌, ◌++◌, length, replicate, Option, Some, None, sym, ap, subst, ◌∙◌, arith}
use Rattle.std.specs.Prelude.{All, IfNone}
use Rattle.std.specs.List.{AllByRecursion}
use Rattle.std.proofs.lemmas.List.{length-map}
use Rattle.std.proofs.Math.Nat.{mul-le-mul_right}
use Rattle.pq_base.specs.declared.refusal.Refusal.{Refusal}
use Rattle.pq_base.specs.declared.value.Dir.TheVariants.{Asc}
use Rattle.pq_base.specs.declared.value.Value.{Value}
use Rattle.pq_base.specs.Values.{AllFit}
use Rattle.pq_base.proofs.TypeFits.{length_from_fits}
use Rattle.pq_key_code.specs.KeyCode.{row_key}
use Rattle.pq_row_code.specs.RowCode.{IsShort}
use Rattle.pq_schema.specs.Sound.{IsSized}
use Rattle.pq_schema.specs.declared.table.Column.{Column}
use Rattle.pq_schema.specs.declared.table.Index.{Index}
use Rattle.pq_schema.specs.declared.table.KeyPart.{KeyPart}
use Rattle.pq_schema.specs.declared.table.Table.{Table}
use Rattle.pq_schema.specs.Sequences.{index_sequence}
use Rattle.pq_content.specs.Pairs.{Change, entry_pair, entries_from, entry_changes, pairs_of_row, puts, removals}
use Rattle.pq_content.specs.Tables.{types_of, type_at, key_types, key_of, value_of, values_of, dirs_of, same_values, stored_code}
use Rattle.pq_content.proofs.Lengths.{IsWithinLength, length-code_of}
use Rattle.pq_content.proofs.Values.{key_fits}
use Rattle.pq_index_keep.specs.Promises.{IsShortChange}
use Rattle.pq_index_keep.specs.Sound.{IsWritable}
use Rattle.pq_index_keep.proofs.Coding.{shorts, within_short, key_within, narrow_sequence}
use Rattle.pq_index_keep.proofs.Inserting.{each_is, each_by}

value_within : (row : List Value) (col : ℕ) → AllByRecursion IsShort row → IsWithinLength 1000 (value_of row col)
value_within [] col h = tt
value_within (x ∷ row) zero h = within_short x h.0
value_within (x ∷ row) (suc col) h = value_within row col h.1

values_within : (parts : List KeyPart) (row : List Value) → AllByRecursion IsShort row → AllByRecursion (IsWithinLength 1000) (values_of parts row)
values_within [] row h = tt
values_within (part ∷ parts) row h = (value_within row part.col h, values_within parts row h)

abbrev AreShort : List Change → Type 0
AreShort changes = AllByRecursion IsShortChange changes

module _ (tables : List Table) (table : Table) (w : IsWritable tables table) (t : ℕ) where
  key_short : (key : List Value) → AllFit (key_types table) key → length (row_key t key) ≤ 81000
  key_short key fits =
      let sized = each_by (λ (column : Column). IsSized column.ty) table.columns w.made.sized in
      let most = length-code_of 1000 (replicate (length key) Asc) key (key_within table table.key key sized fits) in
      let long : length key ≡ length table.key = length_from_fits (key_types table) key fits ∙ length-map table.key (type_at table.columns) in
      let few = w.made.key.few in
      omega arith

  narrows : AllByRecursion (λ (index : Index). length index.cols ≤ 36) table.indexes
  narrows = each_by (λ (index : Index). length index.cols ≤ 36) table.indexes w.narrow

  entry_short : (row : List Value) → AllFit (types_of table) row → (i : ℕ) (index : Index) → length index.cols ≤ 36 → length (entry_pair t i (index_sequence table index) row).0 ≤ 81000
  entry_short row fits i index narrow =
      let sequence = index_sequence table index in
      let xs = values_of sequence row in
      let most = length-code_of 1000 (dirs_of sequence) xs (values_within sequence row (shorts tables table w row fits)) in
      let same : length xs ≡ length sequence = length-map sequence (λ (part : KeyPart). value_of row part.col) in
      let few : length xs ≤ 40 = subst (λ (n : ℕ). n ≤ 40) (sym same) (narrow_sequence tables table w t index narrow) in
      let product : length xs * 2009 ≤ 40 * 2009 = mul-le-mul_right 2009 few in
      omega (arith, most, product)

  module _ (row : List Value) (fits : AllFit (types_of table) row) where
    puts_short : (i : ℕ) (indexes : List Index) → AllByRecursion (λ (index : Index). length index.cols ≤ 36) indexes → AreShort (puts (entries_from t i table indexes row))
    puts_short i [] h = tt
    puts_short i (x ∷ xs) h = (record { key = entry_short row fits i x h.0; value = omega arith }, puts_short (i + 1) xs h.1)

    removals_short : (i : ℕ) (indexes : List Index) → AllByRecursion (λ (index : Index). length index.cols ≤ 36) indexes → AreShort (removals (entries_from t i table indexes row))
    removals_short i [] h = tt
    removals_short i (x ∷ xs) h = (record { key = entry_short row fits i x h.0; value = tt }, removals_short (i + 1) xs h.1)

    pub insert_short : (changes : List Change) → length (stored_code table row) ≤ 4096 → changes ≡ puts (pairs_of_row t table row) → All IsShortChange changes
    insert_short changes value made =
        subst (All IsShortChange) (sym made)
        (each_is IsShortChange (puts (pairs_of_row t table row)) (record { key = key_short (key_of table row) (key_fits table row fits); value = value }, puts_short 1 table.indexes narrows))

    pub delete_short : (key : List Value) (at : List ℕ) → AllFit (key_types table) key → at ≡ row_key t key → (changes : List Change) → changes ≡ (at, None) ∷ removals (entries_from t 1 table table.indexes row) → All IsShortChange changes
    delete_short key at fits_key is changes made =
        let rest = removals (entries_from t 1 table table.indexes row) in
        subst (All IsShortChange) (sym (made ∙ ap (λ (k : List ℕ). (k, None) ∷ rest) is))
        (each_is IsShortChange ((row_key t key, None) ∷ rest) (record { key = key_short key fits_key; value = tt }, removals_short 1 table.indexes narrows))

    module _ (new : List Value) (fits_new : AllFit (types_of table) new) where
      moves_short : (i : ℕ) (indexes : List Index) → AllByRecursion (λ (index : Index). length index.cols ≤ 36) indexes → AreShort (entry_changes t i table indexes row new)
      moves_short i [] h = tt
      moves_short i (x ∷ xs) h =
          elim (same_values (values_of (index_sequence table x) row) (values_of (index_sequence table x) new)) as (λ b. AreShort ((cond b [] (((entry_pair t i (index_sequence table x) row).0, None) ∷ ((entry_pair t i (index_sequence table x) new).0, Some []) ∷ [])) ++ entry_changes t (i + 1) table xs row new)) [
            | true ↦ moves_short (i + 1) xs h.1
            | false ↦ (record { key = entry_short row fits i x h.0; value = tt }, (record { key = entry_short new fits_new i x h.0; value = omega arith }, moves_short (i + 1) xs h.1))
          ]

      pub update_short : (key : List Value) (at : List ℕ) → AllFit (key_types table) key → at ≡ row_key t key → length (stored_code table new) ≤ 4096
          → (changes : List Change) → changes ≡ (at, Some (stored_code table new)) ∷ entry_changes t 1 table table.indexes row new → All IsShortChange changes
      update_short key at fits_key is value changes made =
          let rest = entry_changes t 1 table table.indexes row new in
          subst (All IsShortChange) (sym (made ∙ ap (λ (k : List ℕ). (k, Some (stored_code table new)) ∷ rest) is))
          (each_is IsShortChange ((row_key t key, Some (stored_code table new)) ∷ rest) (record { key = key_short key fits_key; value = value }, moves_short 1 table.indexes narrows))

-- what holds where nothing is found
pub none_short : (found : Option Refusal) (length : ℕ) → found ≡ None → IfNone found (length ≤ 4096) → length ≤ 4096
none_short None length is h = h
none_short (Some why) length is h = absurd (cc)
