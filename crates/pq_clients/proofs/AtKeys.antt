-- The row present at a key is the one coded in the key's pair.
use Rattle.std.proofs.Common.{◌≡◌, ℕ, List, ◌∷◌, length, replicate, Option, Some, None, refl, sym, ap, ◌∙◌, subst}
use Rattle.std.specs.Prelude.{option_and_then}
use Rattle.std.specs.FinMap.{get}
use Rattle.pq_base.specs.Members.{In}
use Rattle.pq_base.specs.Values.{AllFit}
use Rattle.pq_base.specs.declared.value.Dir.TheVariants.{Asc}
use Rattle.pq_base.specs.declared.value.Value.{Value}
use Rattle.pq_key_code.specs.KeyCode.{row_key, code_of}
use Rattle.pq_schema.specs.declared.table.Table.{Table}
use Rattle.pq_schema.specs.Tables.{table_at}
use Rattle.pq_content.specs.Tables.{Rows, AllOfKinds, IsTableNumber, key_types, key_of, types_of, row_at}
use Rattle.pq_content.proofs.Keeping.{found_among}
use Rattle.pq_content.proofs.Keys.{keys_apart}
use Rattle.pq_content.proofs.Values.{key_of_kinds}
use Rattle.pq_store.specs.Content.{Content}
use Rattle.pq_index_keep.specs.Sound.{AreWritable}
use Rattle.pq_clients.specs.Held.{present_code, decoded_row}
use Rattle.pq_clients.specs.Present.{present_at, present_rows}
use Rattle.pq_clients.specs.Invariant.{key_table, IsShaped}
use Rattle.pq_clients.proofs.Cells.{row_decodes}
use Rattle.pq_clients.proofs.Effects.{found_own}
use Rattle.pq_clients.proofs.BeginRows.{code_at, row_found_at}
use Rattle.pq_clients.proofs.Ends.{row_shown, shows_row, present_sound, all_from}

module _ (tables : List Table) (sound : AreWritable tables) (others : List ℕ → Option (List ℕ)) where
  abbrev pub row_of : ℕ → Option (List ℕ) → Option (List Value)
  row_of t code = option_and_then (decoded_row (table_at tables t)) code

  -- ---- the present rows by their keys
  pub present_row_at : (c : Content) (shape : IsShaped tables c others) (t : ℕ) (key : List Value) → AllOfKinds (key_types (table_at tables t)) key → row_at tables (present_rows tables c) t key ≡ row_of t (present_code (get c (row_key t key)))
  present_row_at c shape t key kinds = by (row_at tables (present_rows tables c) t key) refl (present_code (get c (row_key t key))) refl
    where
      rows : Rows
      rows = present_rows tables c

      shown_code : (row : List Value) → row_at tables (present_rows tables c) t key ≡ Some row → (present_code (get c (row_key t key)) ≡ Some (code_at tables (t, row))) × IsTableNumber tables t × AllFit (types_of (table_at tables t)) row
      shown_code row is =
          let found = found_among (λ (e : ℕ × List Value). In e (present_rows tables c)) tables (present_rows tables c) t key row (all_from (λ (e : ℕ × List Value). In e (present_rows tables c)) (present_rows tables c) (λ e i. i)) is in
          let r = row_shown tables sound c others shape (t, row) found.0 in
          let own : key_of (table_at tables t) row ≡ key = own_key row is in
          (ap present_code (ap (λ (k : List Value). get c (row_key t k)) (sym own) ∙ r.1) ∙ r.2.code, r.2.number, r.2.fits)
        where
          own_key : (row : List Value) → row_at tables (present_rows tables c) t key ≡ Some row → key_of (table_at tables t) row ≡ key
          own_key row is = found_own tables t key (present_rows tables c) t key row is

      by : (o : Option (List Value)) → row_at tables (present_rows tables c) t key ≡ o → (p : Option (List ℕ)) → present_code (get c (row_key t key)) ≡ p → row_at tables (present_rows tables c) t key ≡ row_of t (present_code (get c (row_key t key)))
      by (Some row) is p code =
          let r = shown_code row is in
          is ∙ sym (ap (row_of t) r.0 ∙ row_decodes tables t row sound r.1 r.2)
      by None is None none = is ∙ ap (row_of t) (sym none)
      by None is (Some code) some = absurd (by_get (get c (row_key t key)) refl)
        where
          by_get : (g : Option (List ℕ)) → get c (row_key t key) ≡ g → ⊥
          by_get None none = let wrong : ◌≡◌ {A = Option (List ℕ)} None (Some code) = sym (ap present_code none) ∙ some in cc
          by_get (Some v) there =
              let r = shows_row tables sound c others shape (row_key t key) v code refl there (sym (ap present_code there) ∙ some) in
              let e = r.0 in
              let number : t ≡ e.0 = ap key_table r.2.key in
              let codes : code_of (replicate (length key) Asc) key ≡ code_of (replicate (length (key_of (table_at tables e.0) e.1)) Asc) (key_of (table_at tables e.0) e.1) = tail_same t e.0 _ _ r.2.key in
              let values : key ≡ key_of (table_at tables e.0) e.1 = keys_apart (key_types (table_at tables e.0)) key (key_of (table_at tables e.0) e.1) (subst (λ (t : ℕ). AllOfKinds (key_types (table_at tables t)) key) number kinds) (key_of_kinds (table_at tables e.0) e.1 r.2.fits) codes in
              let wrong : ◌≡◌ {A = Option (List Value)} None (Some e.1) = sym is ∙ ap (λ (t : ℕ). row_at tables (present_rows tables c) t key) number ∙ ap (row_at tables (present_rows tables c) e.0) values ∙ row_found_at tables (present_rows tables c) (present_sound tables sound c others shape).apart e r.1 in
              cc
            where
              tail_same : (t u : ℕ) (xs ys : List ℕ) → ◌≡◌ {A = List ℕ} (2 ∷ t ∷ xs) (2 ∷ u ∷ ys) → xs ≡ ys
              tail_same t u xs ys e = cc

  pub present_coded : (c : Content) (shape : IsShaped tables c others) (t : ℕ) (key : List Value) → AllOfKinds (key_types (table_at tables t)) key → row_at tables (present_rows tables c) t key ≡ present_at tables c t key
  unfolding present_at
  present_coded c shape t key kinds = present_row_at c shape t key kinds
