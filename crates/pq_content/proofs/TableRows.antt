-- The rows of one table: each fits, and no two have one key.
use Rattle.std.proofs.Common.{◌≡◌, ℕ, ◌≤◌, Bool, true, false, cond, ◌&&◌, ◌==◌, List, [], ◌∷◌, length, map, replicate, refl, sym, ap, ◌∙◌, subst, arith}
use Rattle.std.specs.Prelude.{filter}
use Rattle.std.specs.Ordering.{eq_by_cmp}
use Rattle.std.specs.List.{AllByRecursion}
use Rattle.std.proofs.lemmas.Bool.{eqb-true}
use Rattle.std.proofs.lemmas.List.{length-map}
use Rattle.pq_base.specs.declared.value.Dir.{Dir}
use Rattle.pq_base.specs.declared.value.Dir.TheVariants.{Asc}
use Rattle.pq_base.specs.declared.value.Value.{Value}
use Rattle.pq_base.specs.Order.{position_cmp}
use Rattle.pq_base.specs.Values.{AllFit}
use Rattle.pq_schema.specs.declared.table.Index.{Index}
use Rattle.pq_schema.specs.declared.table.KeyPart.{KeyPart}
use Rattle.pq_schema.specs.declared.table.Table.{Table}
use Rattle.pq_schema.specs.Sequences.{ascending_part, columns_of, primary_sequence, index_sequence}
use Rattle.pq_schema.specs.Tables.{table_at}
use Rattle.pq_store.specs.Content.{key_cmp}
use Rattle.pq_content.specs.Tables.{Rows, AllOfKinds, rows_of, types_of, types_at, value_of, key_of, agrees, has_key, values_of, dirs_of, AreApart}
use Rattle.pq_content.proofs.Gets.{EachFits}
use Rattle.pq_content.proofs.Keys.{same_key, sequences_apart}
use Rattle.pq_base.proofs.Members.{each_filter}
use Rattle.pq_content.proofs.Sequence.{key_from_sequence}
use Rattle.pq_schema.proofs.TypeKinds.{kinds_from_fit}
use Rattle.pq_content.proofs.Values.{sequence_fits, same_values_decides, AreValues_from_kinds, SameKinds_from_kinds}
use Rattle.pq_key_code.specs.KeyCode.{code_of}
use Rattle.pq_key_code.proofs.Order.{codes_cmp}

abbrev pub AreRows : Table → List (List Value) → Type 0
AreRows table [] = Unit {0}
AreRows table (row ∷ rows) = AllFit (types_of table) row × AllByRecursion (λ other. agrees table.key (key_of table row) other ≡ false) rows × AreRows table rows

pub AreRows-filter : (table : Table) (p : List Value → Bool) (rows : List (List Value)) → AreRows table rows → AreRows table (filter p rows)
AreRows-filter table p [] h = tt
AreRows-filter table p (row ∷ rows) h =
    let rest = AreRows-filter table p rows h.2 in
    elim (p row) as (λ b. AreRows table (cond b (row ∷ filter p rows) (filter p rows))) [ true ↦ (h.0, each_filter p _ rows h.1, rest) | false ↦ rest ]

others_apart : (tables : List Table) (rows : Rows) (t : ℕ) (key : List Value) → AllByRecursion (λ f. has_key tables t key f ≡ false) rows → AllByRecursion (λ other. agrees (table_at tables t).key key other ≡ false) (rows_of t rows)
others_apart tables [] t key h = tt
others_apart tables (e ∷ es) t key h =
    let P = λ (other : List Value). agrees (table_at tables t).key key other ≡ false in
    elim (e.0 == t) as (λ b. (b && agrees (table_at tables t).key key e.1) ≡ false → AllByRecursion P (cond b (e.1 ∷ rows_of t es) (rows_of t es))) [
      | true ↦ λ apart. (apart, others_apart tables es t key h.1)
      | false ↦ λ _. others_apart tables es t key h.1
    ] h.0

pub rows_are : (tables : List Table) (rows : Rows) (t : ℕ) → EachFits tables rows → AreApart tables rows → AreRows (table_at tables t) (rows_of t rows)
rows_are tables [] t fits apart = tt
rows_are tables (e ∷ es) t fits apart =
    elim (e.0 == t) as (λ b. (e.0 == t) ≡ b → AreRows (table_at tables t) (cond b (e.1 ∷ rows_of t es) (rows_of t es))) [
      | true ↦ λ is.
          let P : ℕ → Type 0 = λ n. AllFit (types_of (table_at tables n)) e.1 × AllByRecursion (λ f. has_key tables n (key_of (table_at tables n) e.1) f ≡ false) es in
          let here : P t = subst P (eqb-true e.0 t is) (fits.0, apart.0) in
          (here.0, others_apart tables es t (key_of (table_at tables t) e.1) here.1, rows_are tables es t fits.1 apart.1)
      | false ↦ λ _. rows_are tables es t fits.1 apart.1
    ] refl

-- ---- sequences that determine the key: that of the key, and those of indexes

pub Determines : Table → List KeyPart → Type 0
Determines table sequence = (row other : List Value) → values_of sequence row ≡ values_of sequence other → key_of table row ≡ key_of table other

pub values_of-primary : (key : List ℕ) (row : List Value) → values_of (map ascending_part key) row ≡ map (value_of row) key
values_of-primary [] row = refl
values_of-primary (col ∷ key) row = ap (λ (xs : List Value). value_of row col ∷ xs) (values_of-primary key row)

pub dirs_of-primary : (key : List ℕ) → dirs_of (map ascending_part key) ≡ replicate (length key) Asc
dirs_of-primary [] = refl
dirs_of-primary (col ∷ key) = ap (λ (ds : List Dir). Asc ∷ ds) (dirs_of-primary key)

pub primary_determines : (table : Table) → Determines table (primary_sequence table)
unfolding Determines
primary_determines table row other e = sym (values_of-primary table.key row) ∙ e ∙ values_of-primary table.key other

pub index_determines : (table : Table) (index : Index) → Determines table (index_sequence table index)
unfolding Determines
index_determines table index row other e = key_from_sequence table index row other e

module _ (table : Table) (sequence : List KeyPart) where
  pub sequence_kinds : (row : List Value) → AllFit (types_of table) row → AllOfKinds (types_at table.columns (columns_of sequence)) (values_of sequence row)
  sequence_kinds row fits = kinds_from_fit (types_at table.columns (columns_of sequence)) (values_of sequence row) (sequence_fits table sequence row fits)

  pub long_enough : (row : List Value) → length (values_of sequence row) ≤ length (dirs_of sequence)
  long_enough row = omega (arith, length-map sequence (λ (part : KeyPart). part.dir), length-map sequence (λ (part : KeyPart). value_of row part.col))

  -- the bytes of two rows' codes are in the order of their values
  pub code_order : (row other : List Value) → AllFit (types_of table) row → AllFit (types_of table) other → key_cmp (code_of (dirs_of sequence) (values_of sequence row)) (code_of (dirs_of sequence) (values_of sequence other)) ≡ position_cmp (dirs_of sequence) (values_of sequence row) (values_of sequence other)
  code_order row other f g =
      let ts = types_at table.columns (columns_of sequence) in
      let xs = values_of sequence row in
      let ys = values_of sequence other in
      codes_cmp (dirs_of sequence) xs ys (AreValues_from_kinds ts xs (sequence_kinds row f)) (AreValues_from_kinds ts ys (sequence_kinds other g)) (SameKinds_from_kinds ts xs ys (sequence_kinds row f) (sequence_kinds other g)) (long_enough row) (long_enough other)

  -- two rows with different keys have different codes
  pub code_apart : (row other : List Value) → Determines table sequence → AllFit (types_of table) row → AllFit (types_of table) other → agrees table.key (key_of table row) other ≡ false → eq_by_cmp key_cmp (code_of (dirs_of sequence) (values_of sequence row)) (code_of (dirs_of sequence) (values_of sequence other)) ≡ false
  unfolding Determines
  code_apart row other determines f g apart =
      let a = code_of (dirs_of sequence) (values_of sequence row) in
      let b = code_of (dirs_of sequence) (values_of sequence other) in
      elim (eq_by_cmp key_cmp a b) as (λ c. eq_by_cmp key_cmp a b ≡ c → c ≡ false) [
        | true ↦ λ is.
            let same : values_of sequence row ≡ values_of sequence other = sequences_apart (types_at table.columns (columns_of sequence)) (dirs_of sequence) (values_of sequence row) (values_of sequence other) (sequence_kinds row f) (sequence_kinds other g) (long_enough row) (same_key a b is) in
            sym ((same_values_decides (key_of table other) (key_of table row)).1 (sym (determines row other same))) ∙ apart
        | false ↦ λ _. refl
      ] refl
