-- The entries of a row are different keys.
use Rattle.std.proofs.Common.{◌≡◌, ℕ, ◌+◌, ◌<◌, Bool, true, false, cond, not, ◌&&◌, ◌||◌, List, [], ◌∷◌, map, Option, Some, None, refl, ap, ◌∙◌, arith}
use Rattle.pq_base.specs.declared.value.Value.{Value}
use Rattle.pq_schema.specs.declared.table.Index.{Index}
use Rattle.pq_schema.specs.declared.table.Table.{Table}
use Rattle.pq_schema.specs.Sequences.{index_sequence}
use Rattle.pq_content.specs.Pairs.{entries_from}
use Rattle.pq_content.specs.Tables.{dirs_of, values_of}
use Rattle.pq_key_code.specs.KeyCode.{entry_key}
use Rattle.pq_clients.specs.Flights.{Flight, table_number, flight_table, old_row, new_row, entry_keys, keys_of_row, old_entries, new_entries, has_entry, left_out, fresh_entries, stale_entries}
use Rattle.pq_clients.specs.Invariant.{is_key, Different}
use Rattle.pq_clients.proofs.Basics.{key_apart, has-left_out}

neither : (a b : Bool) → a ≡ false → b ≡ false → (a || b) ≡ false
neither true b h k = h
neither false b h k = k

-- the number of the index in an entry's key
abbrev index_of : List ℕ → ℕ
index_of (space ∷ t ∷ i ∷ rest) = i
index_of other = 0

abbrev keys_from : ℕ → ℕ → Table → List Index → List Value → List (List ℕ)
keys_from t i table indexes row = map (λ pair. pair.0) (entries_from t i table indexes row)

module _ (t : ℕ) (table : Table) (row : List Value) where
  abbrev own_key : ℕ → Index → List ℕ
  own_key i index = entry_key t i (dirs_of (index_sequence table index)) (values_of (index_sequence table index) row)

  none_later : (q : List ℕ) (j : ℕ) (indexes : List Index) → index_of q < j → has_entry q (keys_from t j table indexes row) ≡ false
  none_later q j [] less = refl
  none_later q j (index ∷ indexes) less =
      neither (is_key q (own_key j index)) (has_entry q (keys_from t (j + 1) table indexes row))
      (key_apart q (own_key j index) (λ e. let same : index_of q ≡ j = ap index_of e in absurd (omega (arith, less, same))))
      (none_later q (j + 1) indexes (omega (arith, less)))

  keys_different : (i : ℕ) (indexes : List Index) → Different (keys_from t i table indexes row)
  keys_different i [] = tt
  keys_different i (index ∷ indexes) = (none_later (own_key i index) (i + 1) indexes (omega arith), keys_different (i + 1) indexes)

different_out : (xs ys : List (List ℕ)) → Different xs → Different (left_out xs ys)
different_out [] ys d = tt
different_out (x ∷ xs) ys d =
    elim (not (has_entry x ys)) as (λ b. Different (cond b (x ∷ left_out xs ys) (left_out xs ys))) [
      | true ↦ (has-left_out x xs ys ∙ ap (λ b. b && not (has_entry x ys)) d.0, different_out xs ys d.1)
      | false ↦ different_out xs ys d.1
    ]

row_different : (t : ℕ) (table : Table) (row : Option (List Value)) → Different (keys_of_row t table row)
unfolding entry_keys
row_different t table None = tt
row_different t table (Some row) = keys_different t table row 1 table.indexes

pub fresh_different : (tables : List Table) (f : Flight) → Different (fresh_entries tables f)
unfolding new_entries
fresh_different tables f = different_out (new_entries tables f) (old_entries tables f) (row_different (table_number f.write) (flight_table tables f) (new_row tables f))

pub stale_different : (tables : List Table) (f : Flight) → Different (stale_entries tables f)
unfolding old_entries
stale_different tables f = different_out (old_entries tables f) (new_entries tables f) (row_different (table_number f.write) (flight_table tables f) (old_row tables f))
