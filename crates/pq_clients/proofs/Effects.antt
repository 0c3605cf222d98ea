-- What writes make of the row at one key.
use Rattle.std.proofs.Common.{◌≡◌, ℕ, ◌==◌, Bool, true, false, cond, not, ◌&&◌, List, [], ◌∷◌, ◌++◌, Option, Some, None, refl, sym, ap, ◌∙◌, subst}
use Rattle.std.specs.Prelude.{filter, option_map}
use Rattle.std.specs.List as lists
use Rattle.std.specs.List.{AllByRecursion}
use Rattle.std.proofs.lemmas.Bool.{eqb-true, eq-eqb, ne_eqb, eqb-false}
use Rattle.pq_base.specs.declared.value.Value.{Value}
use Rattle.pq_key_code.specs.KeyCode.{row_key}
use Rattle.pq_schema.specs.declared.table.Table.{Table}
use Rattle.pq_schema.specs.Tables.{table_at}
use Rattle.pq_schema.proofs.TypeKinds.{kinds_from_fit}
use Rattle.pq_content.specs.Tables.{Rows, AllOfKinds, key_types, key_of, agrees, same_values, rows_of, row_at, rows_without}
use Rattle.pq_content.proofs.Keys.{row_ties}
use Rattle.pq_content.proofs.KeepingWrites.{rows_of-without, row_at-without}
use Rattle.pq_content.proofs.Values.{same_from_test, same_values_sym, key_of_kinds}
use Rattle.pq_index_keep.specs.declared.write.Write.{Write}
use Rattle.pq_index_keep.specs.declared.write.Write.TheVariants as write
use Rattle.pq_index_keep.specs.Sound.{IsWrite}
use Rattle.pq_index_keep.specs.Tested.{with_sets}
use Rattle.pq_index_keep.proofs.Updating.{kept_key}
use Rattle.pq_clients.specs.Flights.{table_number, key_written, pair_key, row_made}
use Rattle.pq_clients.specs.Present.{rows_after, rows_after_all, updated_row}
use Rattle.pq_clients.specs.Invariant.{is_key}
use Rattle.pq_clients.proofs.Basics.{and_of}

-- the key of a write's row is of the kinds of its table's key
pub own_kinds : (tables : List Table) (w : Write) → IsWrite tables w → AllOfKinds (key_types (table_at tables (table_number w))) (key_written tables w)
own_kinds tables (write.Insert u new) h = key_of_kinds (table_at tables u) new h.fits
own_kinds tables (write.Update u k sets conds) h = kinds_from_fit (key_types (table_at tables u)) k h.fits
own_kinds tables (write.Delete u k conds) h = kinds_from_fit (key_types (table_at tables u)) k h.fits

module _ (tables : List Table) (t : ℕ) (key : List Value) where
  -- whether a row of a table with a key is the one that is looked at
  abbrev pub is_same : ℕ → List Value → Bool
  is_same u k = (u == t) && same_values k key

  abbrev pub is_at : Write → Bool
  is_at w = is_same (table_number w) (key_written tables w)

  abbrev pub effect_of : Write → Option (List Value) → Option (List Value)
  effect_of w o = cond (is_at w) (row_made w o) o

  abbrev pub effects : List Write → Option (List Value) → Option (List Value)
  effects [] o = o
  effects (w ∷ ws) o = effects ws (effect_of w o)

  pub effects-append : (xs ys : List Write) (o : Option (List Value)) → effects (xs ++ ys) o ≡ effects ys (effects xs o)
  effects-append [] ys o = refl
  effects-append (w ∷ xs) ys o = effects-append xs ys (effect_of w o)

  -- ---- rows in a list
  turned : (u : ℕ) (k : List Value) → is_same u k ≡ ((t == u) && same_values key k)
  turned u k = elim (u == t) as (λ b. (u == t) ≡ b → (b && same_values k key) ≡ ((t == u) && same_values key k)) [
    | true ↦ λ is. same_values_sym k key ∙ ap (λ b. b && same_values key k) (sym (eq-eqb t u (sym (eqb-true u t is))))
    | false ↦ λ is. ap (λ b. b && same_values key k) (sym (ne_eqb t u (λ e. eqb-false u t is (sym e))))
  ] refl

  none_left : (rows : List (List Value)) → lists.find (agrees (table_at tables t).key key) (filter (λ row. not ((t == t) && agrees (table_at tables t).key key row)) rows) ≡ None
  none_left [] = refl
  none_left (x ∷ rows) =
      elim (agrees (table_at tables t).key key x) as (λ b. agrees (table_at tables t).key key x ≡ b → lists.find (agrees (table_at tables t).key key) (cond (not ((t == t) && b)) (x ∷ filter (λ row. not ((t == t) && agrees (table_at tables t).key key row)) rows) (filter (λ row. not ((t == t) && agrees (table_at tables t).key key row)) rows)) ≡ None) [
        | true ↦ λ is. ap (λ b. lists.find (agrees (table_at tables t).key key) (cond (not (b && true)) (x ∷ filter (λ row. not ((t == t) && agrees (table_at tables t).key key row)) rows) (filter (λ row. not ((t == t) && agrees (table_at tables t).key key row)) rows))) (eq-eqb t t refl) ∙ none_left rows
        | false ↦ λ is. ap (λ b. lists.find (agrees (table_at tables t).key key) (cond (not b) (x ∷ filter (λ row. not ((t == t) && agrees (table_at tables t).key key row)) rows) (filter (λ row. not ((t == t) && agrees (table_at tables t).key key row)) rows))) (and_false (t == t))
            ∙ ap (λ b. cond b (Some x) (lists.find (agrees (table_at tables t).key key) (filter (λ row. not ((t == t) && agrees (table_at tables t).key key row)) rows))) is ∙ none_left rows
      ] refl
    where
      and_false : (a : Bool) → (a && false) ≡ false
      and_false true = refl
      and_false false = refl

  removed_row : (rows : Rows) (u : ℕ) (k : List Value) → row_at tables (rows_without tables u k rows) t key ≡ cond (is_same u k) None (row_at tables rows t key)
  removed_row rows u k =
      elim (is_same u k) as (λ b. is_same u k ≡ b → row_at tables (rows_without tables u k rows) t key ≡ cond b None (row_at tables rows t key)) [
        | true ↦ λ is.
            let parts = and_of (u == t) (same_values k key) is in
            let number : u ≡ t = eqb-true u t parts.0 in
            let same : k ≡ key = same_from_test k key parts.1 in
            ap (λ (u : ℕ). row_at tables (rows_without tables u k rows) t key) number ∙ ap (λ (k : List Value). row_at tables (rows_without tables t k rows) t key) same
            ∙ ap (lists.find (agrees (table_at tables t).key key)) (rows_of-without tables rows t t key) ∙ none_left (rows_of t rows)
        | false ↦ λ is. row_at-without tables rows u t k key (sym (turned u k) ∙ is)
      ] refl

  put_row : (rows : Rows) (u : ℕ) (k new : List Value) → key_of (table_at tables u) new ≡ k → row_at tables ((u, new) ∷ rows_without tables u k rows) t key ≡ cond (is_same u k) (Some new) (row_at tables rows t key)
  put_row rows u k new own =
      elim (u == t) as (λ b. (u == t) ≡ b → lists.find (agrees (table_at tables t).key key) (cond b (new ∷ rows_of t (rows_without tables u k rows)) (rows_of t (rows_without tables u k rows))) ≡ cond (b && same_values k key) (Some new) (row_at tables rows t key)) [
        | true ↦ λ is.
            let number : u ≡ t = eqb-true u t is in
            let test : agrees (table_at tables t).key key new ≡ same_values k key = ap (λ (t : ℕ). same_values (key_of (table_at tables t) new) key) (sym number) ∙ ap (λ (xs : List Value). same_values xs key) own in
            elim (same_values k key) as (λ b. same_values k key ≡ b → cond (agrees (table_at tables t).key key new) (Some new) (row_at tables (rows_without tables u k rows) t key) ≡ cond b (Some new) (row_at tables rows t key)) [
              | true ↦ λ e. ap (λ b. cond b (Some new) (row_at tables (rows_without tables u k rows) t key)) (test ∙ e)
              | false ↦ λ e. ap (λ b. cond b (Some new) (row_at tables (rows_without tables u k rows) t key)) (test ∙ e) ∙ removed_row rows u k ∙ ap (λ b. cond (b && same_values k key) None (row_at tables rows t key)) is ∙ ap (λ b. cond b None (row_at tables rows t key)) e
            ] refl
        | false ↦ λ is. removed_row rows u k ∙ ap (λ b. cond (b && same_values k key) None (row_at tables rows t key)) is
      ] refl

  found_in_list : (u : ℕ) (k old : List Value) (rows : List (List Value)) → lists.find (agrees (table_at tables u).key k) rows ≡ Some old → key_of (table_at tables u) old ≡ k
  found_in_list u k old [] h = absurd (cc)
  found_in_list u k old (x ∷ rows) h =
      elim (agrees (table_at tables u).key k x) as (λ b. agrees (table_at tables u).key k x ≡ b → cond b (Some x) (lists.find (agrees (table_at tables u).key k) rows) ≡ Some old → key_of (table_at tables u) old ≡ k) [
        | true ↦ λ e h. let same : x ≡ old = cc in subst (λ (x : List Value). key_of (table_at tables u) x ≡ k) same (same_from_test (key_of (table_at tables u) x) k e)
        | false ↦ λ _ h. found_in_list u k old rows h
      ] refl h

  pub found_own : (rows : Rows) (u : ℕ) (k old : List Value) → row_at tables rows u k ≡ Some old → key_of (table_at tables u) old ≡ k
  found_own rows u k old is = found_in_list u k old (rows_of u rows) is

  looked_same : (rows : Rows) (u : ℕ) (k : List Value) → is_same u k ≡ true → row_at tables rows t key ≡ row_at tables rows u k
  looked_same rows u k is =
      let parts = and_of (u == t) (same_values k key) is in
      ap (λ (t : ℕ). row_at tables rows t key) (sym (eqb-true u t parts.0)) ∙ ap (row_at tables rows u) (sym (same_from_test k key parts.1))

  -- the row at the key after a write
  pub row_after : (rows : Rows) (w : Write) → IsWrite tables w → row_at tables (rows_after tables rows w) t key ≡ effect_of w (row_at tables rows t key)
  row_after rows (write.Insert u new) h = put_row rows u (key_of (table_at tables u) new) new refl
  row_after rows (write.Update u k sets conds) h = by (row_at tables rows u k) refl
    where
      by : (o : Option (List Value)) → row_at tables rows u k ≡ o → row_at tables (updated_row tables u k sets rows o) t key ≡ cond (is_same u k) (option_map (with_sets sets) (row_at tables rows t key)) (row_at tables rows t key)
      by None none = elim (is_same u k) as (λ b. is_same u k ≡ b → row_at tables rows t key ≡ cond b (option_map (with_sets sets) (row_at tables rows t key)) (row_at tables rows t key)) [
        | true ↦ λ is. looked_same rows u k is ∙ none ∙ ap (option_map (with_sets sets)) (sym (looked_same rows u k is ∙ none))
        | false ↦ λ _. refl
      ] refl
      by (Some old) some =
          put_row rows u k (with_sets sets old) (kept_key (table_at tables u) sets old h.each ∙ found_own rows u k old some)
          ∙ elim (is_same u k) as (λ b. is_same u k ≡ b → cond b (Some (with_sets sets old)) (row_at tables rows t key) ≡ cond b (option_map (with_sets sets) (row_at tables rows t key)) (row_at tables rows t key)) [
            | true ↦ λ is. ap (option_map (with_sets sets)) (sym (looked_same rows u k is ∙ some))
            | false ↦ λ _. refl
          ] refl
  row_after rows (write.Delete u k conds) h = removed_row rows u k

  -- the keys' bytes
  pub same_bytes : AllOfKinds (key_types (table_at tables t)) key → (w : Write) → IsWrite tables w → is_key (row_key t key) (pair_key tables w) ≡ is_at w
  unfolding pair_key
  same_bytes kinds w h = row_ties t (table_number w) (key_types (table_at tables t)) key (key_written tables w) kinds (λ e. subst (λ (u : ℕ). AllOfKinds (key_types (table_at tables u)) (key_written tables w)) e (own_kinds tables w h))

  pub rows_after_effects : (ws : List Write) (rows : Rows) → AllByRecursion (IsWrite tables) ws → row_at tables (rows_after_all tables rows ws) t key ≡ effects ws (row_at tables rows t key)
  rows_after_effects [] rows all = refl
  rows_after_effects (w ∷ ws) rows all = rows_after_effects ws (rows_after tables rows w) all.1 ∙ ap (effects ws) (row_after rows w all.0)
