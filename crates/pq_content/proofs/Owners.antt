-- Which row a pair is of.
use Rattle.std.proofs.Common.{◌≡◌, ℕ, suc, ◌+◌, ◌≤◌, true, false, cond, ◌⊎◌, inl, inr, List, [], ◌∷◌, length, Some, None, refl, sym, ap, ◌∙◌, subst, arith, add-zero}
use Rattle.std.specs.Prelude.{slice_get}
use Rattle.std.specs.Ordering.{eq_by_cmp}
use Rattle.std.specs.FinMap.{find}
use Rattle.std.proofs.lemmas.List.{length-map}
use Rattle.std.proofs.lemmas.Option.{same_Some, none-some}
use Rattle.pq_base.specs.declared.value.Value.{Value}
use Rattle.pq_base.specs.Values.{AllFit}
use Rattle.pq_schema.specs.declared.table.Index.{Index}
use Rattle.pq_schema.specs.declared.table.KeyPart.{KeyPart}
use Rattle.pq_schema.specs.declared.table.Table.{Table}
use Rattle.pq_schema.specs.Sequences.{columns_of, index_sequence}
use Rattle.pq_content.specs.Pairs.{Pair, AreBeside, entries_from, pairs_of_row, is_of_rows}
use Rattle.pq_key_code.specs.KeyCode.{row_key, entry_key, code_of}
use Rattle.pq_store.specs.Content.{key_cmp}
use Rattle.pq_content.specs.Tables.{AllOfKinds, key_of, key_types, types_of, types_at, value_of, values_of, dirs_of, stored_code}
use Rattle.pq_content.proofs.Keys.{same_key, keys_apart, sequences_apart, not_beside}
use Rattle.pq_content.proofs.Sequence.{key_from_sequence}
use Rattle.pq_schema.proofs.TypeKinds.{kinds_from_fit}
use Rattle.pq_content.proofs.Values.{key_of_kinds, sequence_fits}

-- where an entry of a row is found, it is that of some index
pub record IsEntry (t i : ℕ) (table : Table) (indexes : List Index) (row : List Value) (q v : List ℕ) : Type 0 where
  pub place : ℕ
  pub index : Index
  pub there : slice_get indexes place ≡ Some index
  pub key_is : q ≡ entry_key t (i + place) (dirs_of (index_sequence table index)) (values_of (index_sequence table index) row)
  pub empty : v ≡ []

pub entry_found : (t i : ℕ) (table : Table) (indexes : List Index) (row : List Value) (q v : List ℕ) → find key_cmp q (entries_from t i table indexes row) ≡ Some v → IsEntry t i table indexes row q v
entry_found t i table [] row q v h = absurd (none-some v h)
entry_found t i table (index ∷ indexes) row q v h =
    let k = entry_key t i (dirs_of (index_sequence table index)) (values_of (index_sequence table index) row) in
    let G : Type 0 = IsEntry t i table (index ∷ indexes) row q v in
    elim (eq_by_cmp key_cmp q k) as (λ b. eq_by_cmp key_cmp q k ≡ b → cond b (Some []) (find key_cmp q (entries_from t (i + 1) table indexes row)) ≡ Some v → G) [
      | true ↦ λ is h. record {
        place = 0;
        index = index;
        there = refl;
        key_is = same_key q k is ∙ ap (λ n. entry_key t n (dirs_of (index_sequence table index)) (values_of (index_sequence table index) row)) (sym (add-zero i));
        empty = sym (same_Some [] v h);
      }
      | false ↦ λ is h.
          let r = entry_found t (i + 1) table indexes row q v h in
          record {
            place = suc r.place;
            index = r.index;
            there = r.there;
            key_is = r.key_is ∙ ap (λ n. entry_key t n (dirs_of (index_sequence table r.index)) (values_of (index_sequence table r.index) row)) (omega arith);
            empty = r.empty;
          }
    ] refl h

-- where a pair of a row is found, it is the row's own or an entry's
pub pair_found : (t : ℕ) (table : Table) (row : List Value) (q v : List ℕ) → find key_cmp q (pairs_of_row t table row) ≡ Some v → (q ≡ row_key t (key_of table row)) ⊎ (find key_cmp q (entries_from t 1 table table.indexes row) ≡ Some v)
pair_found t table row q v h =
    let k = row_key t (key_of table row) in
    let es = entries_from t 1 table table.indexes row in
    elim (eq_by_cmp key_cmp q k) as (λ b. eq_by_cmp key_cmp q k ≡ b → cond b (Some (stored_code table row)) (find key_cmp q es) ≡ Some v → (q ≡ k) ⊎ (find key_cmp q es ≡ Some v)) [
      | true ↦ λ is _. inl (same_key q k is)
      | false ↦ λ _ h. inr h
    ] refl h

-- the key of a row's pair is that of none beside the rows
pub beside_apart : (others : List Pair) (t : ℕ) (table : Table) (row : List Value) (q v : List ℕ) → AreBeside others → find key_cmp q (pairs_of_row t table row) ≡ Some v → find key_cmp q others ≡ None
beside_apart others t table row q v beside h =
    let of_rows : is_of_rows q ≡ true = elim (pair_found t table row q v h) [
      | inl own ↦ ap is_of_rows own
      | inr entry ↦ ap is_of_rows (entry_found t 1 table table.indexes row q v entry).key_is
    ] in
    not_beside others q beside of_rows

-- entries of two rows at one key are of rows with one key
entries_share : (t u : ℕ) (table other : Table) (row row' : List Value) (q v w : List ℕ) → (t ≡ u → table ≡ other) → AllFit (types_of table) row → AllFit (types_of other) row' → find key_cmp q (entries_from t 1 table table.indexes row) ≡ Some v → find key_cmp q (entries_from u 1 other other.indexes row') ≡ Some w → (t ≡ u) × (key_of table row ≡ key_of other row')
entries_share t u table other row row' q v w one fits fits' g h =
    let a = entry_found t 1 table table.indexes row q v g in
    let b = entry_found u 1 other other.indexes row' q w h in
    let sequence = λ (x : Table) (index : Index). index_sequence x index in
    let key = λ (n : ℕ) (i : ℕ) (parts : List KeyPart) (r : List Value). entry_key n i (dirs_of parts) (values_of parts r) in
    let e : key t (1 + a.place) (sequence table a.index) row ≡ key u (1 + b.place) (sequence other b.index) row' = sym a.key_is ∙ b.key_is in
    let tables : t ≡ u = cc in
    let places : 1 + a.place ≡ 1 + b.place = cc in
    let place : a.place ≡ b.place = omega arith in
    let same : table ≡ other = one tables in
    let index : a.index ≡ b.index = same_Some _ _ (sym a.there ∙ ap (λ (x : Table). slice_get x.indexes a.place) same ∙ ap (slice_get other.indexes) place ∙ b.there) in
    let parts : sequence table a.index ≡ sequence other b.index = λ i. sequence (same i) (index i) in
    let codes : code_of (dirs_of (sequence table a.index)) (values_of (sequence table a.index) row) ≡ code_of (dirs_of (sequence other b.index)) (values_of (sequence other b.index) row') = cc in
    let aligned : code_of (dirs_of (sequence table a.index)) (values_of (sequence table a.index) row) ≡ code_of (dirs_of (sequence table a.index)) (values_of (sequence table a.index) row') = codes ∙ ap (λ (ps : List KeyPart). code_of (dirs_of ps) (values_of ps row')) (sym parts) in
    let fits'' : AllFit (types_of table) row' = subst (λ (x : Table). AllFit (types_of x) row') (sym same) fits' in
    let types = types_at table.columns (columns_of (sequence table a.index)) in
    let long : length (values_of (sequence table a.index) row) ≤ length (dirs_of (sequence table a.index)) = omega (arith, length-map (sequence table a.index) (λ (part : KeyPart). part.dir), length-map (sequence table a.index) (λ (part : KeyPart). value_of row part.col)) in
    let values : values_of (sequence table a.index) row ≡ values_of (sequence table a.index) row' =
    sequences_apart types (dirs_of (sequence table a.index)) _ _ (kinds_from_fit types _ (sequence_fits table (sequence table a.index) row fits)) (kinds_from_fit types _ (sequence_fits table (sequence table a.index) row' fits'')) long aligned in
    (tables, key_from_sequence table a.index row row' values ∙ ap (λ (x : Table). key_of x row') same)

-- pairs of two rows at one key are of rows with one key
pub pairs_share : (t u : ℕ) (table other : Table) (row row' : List Value) (q v w : List ℕ) → (t ≡ u → table ≡ other) → AllFit (types_of table) row → AllFit (types_of other) row' → find key_cmp q (pairs_of_row t table row) ≡ Some v → find key_cmp q (pairs_of_row u other row') ≡ Some w → (t ≡ u) × (key_of table row ≡ key_of other row')
pairs_share t u table other row row' q v w one fits fits' g h =
    elim (pair_found t table row q v g) [
      | inl p ↦ elim (pair_found u other row' q w h) [
        | inl r ↦
            let e : row_key t (key_of table row) ≡ row_key u (key_of other row') = sym p ∙ r in
            let same : t ≡ u = cc in
            let kinds = subst (λ (x : Table). AllOfKinds (key_types x) (key_of other row')) (sym (one same)) (key_of_kinds other row' fits') in
            (same, keys_apart (key_types table) _ _ (key_of_kinds table row fits) kinds (cc))
        | inr r ↦ let b = entry_found u 1 other other.indexes row' q w r in let e = sym p ∙ b.key_is in cc
      ]
      | inr p ↦ elim (pair_found u other row' q w h) [
        | inl r ↦ let a = entry_found t 1 table table.indexes row q v p in let e = sym r ∙ a.key_is in cc
        | inr r ↦ entries_share t u table other row row' q v w one fits fits' p r
      ]
    ]
