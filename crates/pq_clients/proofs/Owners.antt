-- An entry tells the key of its row.
use Rattle.std.proofs.Common.{◌≡◌, ℕ, ◌+◌, true, false, cond, ◌||◌, inl, inr, List, [], ◌∷◌, map, Some, refl, sym, ap, ◌∙◌, subst}
use Rattle.std.specs.FinMap.{find}
use Rattle.std.proofs.lemmas.Bool.{false≢true}
use Rattle.pq_base.specs.declared.value.Value.{Value}
use Rattle.pq_key_code.specs.KeyCode.{row_key}
use Rattle.pq_schema.specs.declared.table.Index.{Index}
use Rattle.pq_schema.specs.declared.table.Table.{Table}
use Rattle.pq_schema.specs.Sequences.{index_sequence}
use Rattle.pq_schema.specs.Tables.{table_at}
use Rattle.pq_content.specs.Pairs.{is_in_space, entry_pair, entries_from, pairs_of_row}
use Rattle.pq_content.specs.Tables.{key_of, stored_code}
use Rattle.pq_content.proofs.Keys.{same_key}
use Rattle.pq_content.proofs.Owners.{pairs_share}
use Rattle.pq_store.specs.Content.{key_cmp}
use Rattle.pq_clients.specs.Flights.{has_entry, entry_keys}
use Rattle.pq_clients.specs.Invariant.{Names, is_key}
use Rattle.pq_clients.proofs.Basics.{either_of, space_apart}

-- among a row's entries, a key is found with no value, and lies in the space of entries
found_among : (t i : ℕ) (table : Table) (indexes : List Index) (row : List Value) (e : List ℕ) → has_entry e (map (λ pair. pair.0) (entries_from t i table indexes row)) ≡ true → find key_cmp e (entries_from t i table indexes row) ≡ Some []
found_among t i table [] row e h = absurd (false≢true h)
found_among t i table (index ∷ indexes) row e h =
    let q = (entry_pair t i (index_sequence table index) row).0 in
    elim (is_key e q) as (λ b. (b || has_entry e (map (λ pair. pair.0) (entries_from t (i + 1) table indexes row))) ≡ true → cond b (Some []) (find key_cmp e (entries_from t (i + 1) table indexes row)) ≡ Some []) [
      | true ↦ λ _. refl
      | false ↦ λ rest. found_among t (i + 1) table indexes row e rest
    ] h

space_among : (t i : ℕ) (table : Table) (indexes : List Index) (row : List Value) (e : List ℕ) → has_entry e (map (λ pair. pair.0) (entries_from t i table indexes row)) ≡ true → is_in_space 3 e ≡ true
space_among t i table [] row e h = absurd (false≢true h)
space_among t i table (index ∷ indexes) row e h =
    let q = (entry_pair t i (index_sequence table index) row).0 in
    elim (either_of (is_key e q) (has_entry e (map (λ pair. pair.0) (entries_from t (i + 1) table indexes row))) h) [
      | inl is ↦ subst (λ (e : List ℕ). is_in_space 3 e ≡ true) (sym (same_key e q is)) refl
      | inr rest ↦ space_among t (i + 1) table indexes row e rest
    ]

pub row_entry_space : (t : ℕ) (table : Table) (row : List Value) (e : List ℕ) → has_entry e (entry_keys t table row) ≡ true → is_in_space 3 e ≡ true
unfolding entry_keys
row_entry_space t table row e h = space_among t 1 table table.indexes row e h

pub row_entry_found : (t : ℕ) (table : Table) (row : List Value) (e : List ℕ) → has_entry e (entry_keys t table row) ≡ true → find key_cmp e (entries_from t 1 table table.indexes row) ≡ Some []
unfolding entry_keys
row_entry_found t table row e h = found_among t 1 table table.indexes row e h

module _ (tables : List Table) where
  pub entry_space : (k e : List ℕ) → Names tables k e → is_in_space 3 e ≡ true
  entry_space k e n = row_entry_space n.table (table_at tables n.table) n.row e n.among

  in_pairs : (k e : List ℕ) (n : Names tables k e) → find key_cmp e (pairs_of_row n.table (table_at tables n.table) n.row) ≡ Some []
  in_pairs k e n =
      let table = table_at tables n.table in
      let own = row_key n.table (key_of table n.row) in
      elim (is_key e own) as (λ b. is_key e own ≡ b → cond b (Some (stored_code table n.row)) (find key_cmp e (entries_from n.table 1 table table.indexes n.row)) ≡ Some []) [
        | true ↦ λ is. absurd (space_apart 3 e own (entry_space k e n) refl (same_key e own is))
        | false ↦ λ _. row_entry_found n.table table n.row e n.among
      ] refl

  -- one entry is of rows of one key
  pub one_owner : (k other e : List ℕ) → Names tables k e → Names tables other e → k ≡ other
  one_owner k other e a b =
      let shared = pairs_share a.table b.table (table_at tables a.table) (table_at tables b.table) a.row b.row e [] [] (ap (table_at tables)) a.fits b.fits (in_pairs k e a) (in_pairs other e b) in
      sym a.key_is ∙ ap (λ (t : ℕ). row_key t (key_of (table_at tables a.table) a.row)) shared.0 ∙ ap (row_key b.table) shared.1 ∙ b.key_is
