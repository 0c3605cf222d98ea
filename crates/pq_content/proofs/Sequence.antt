-- The columns of a sequence and of a set: what values at them determine.
use Rattle.std.proofs.Common.{◌≡◌, ℕ, ◌^◌, max, true, false, cond, not, ◌⊎◌, inl, inr, List, [], ◌∷◌, ◌++◌, map, fold, refl, sym, ◌∙◌, subst, arith}
use Rattle.std.specs.Prelude.{bit_or}
use Rattle.std.specs.Int.{bit_at}
use Rattle.std.proofs.lemmas.Bool.{eqb-true, eq-eqb, cases_eq}
use Rattle.std.proofs.lemmas.Nat.Bits.{bit_at_or, bit_at-zero, bit_at-lt, bit_at-pow_same, bit_at-pow_other}
use Rattle.pq_base.specs.Columns.{with_col, has_col, set_of}
use Rattle.pq_base.specs.declared.value.Value.{Value}
use Rattle.pq_schema.specs.declared.table.Index.{Index}
use Rattle.pq_schema.specs.declared.table.KeyPart.{KeyPart}
use Rattle.pq_schema.specs.declared.table.Table.{Table}
use Rattle.pq_schema.specs.Sequences.{ascending_part, columns_of, without, index_sequence}
use Rattle.pq_content.specs.Tables.{value_of, cells, values_of, key_of}
use Rattle.pq_content.proofs.Values.{values_of-columns_of}

-- a column of a set with one more is that one, or was there
with_cases : (set col c : ℕ) → has_col (with_col set col) c ≡ true → (c ≡ col) ⊎ (has_col set c ≡ true)
with_cases set col c has = elim (cases_eq c col) [
  | inl same ↦ inl same
  | inr other ↦
      let here : bit_at (bit_or set (2 ^ col)) c ≡ 1 = eqb-true _ _ has in
      let parts : bit_at (bit_or set (2 ^ col)) c ≡ max (bit_at set c) (bit_at (2 ^ col) c) = bit_at_or set (2 ^ col) c in
      let none : bit_at (2 ^ col) c ≡ 0 = bit_at-pow_other col c other in
      let old : bit_at set c ≡ 1 = omega arith in
      inr (eq-eqb (bit_at set c) 1 old)
]

no_column : (c : ℕ) → has_col 0 c ≡ true → ⊥
no_column c has = let here : bit_at 0 c ≡ 1 = eqb-true _ _ has in let none : bit_at 0 c ≡ 0 = bit_at-zero c in absurd (omega arith)

-- ---- functions of columns that agree at some columns agree at each column of their set

heads : (x y : Value) (xs ys : List Value) → x ∷ xs ≡ y ∷ ys → (x ≡ y) × (xs ≡ ys)
heads x y xs ys e = (cc, cc)

agree_in_fold : (set : ℕ) (cols : List ℕ) (f g : ℕ → Value) (c : ℕ) → (has_col set c ≡ true → f c ≡ g c) → map f cols ≡ map g cols → has_col (fold with_col set cols) c ≡ true → f c ≡ g c
agree_in_fold set [] f g c before e has = before has
agree_in_fold set (col ∷ cols) f g c before e has =
    let parts = heads (f col) (g col) (map f cols) (map g cols) e in
    agree_in_fold (with_col set col) cols f g c (λ now. elim (with_cases set col c now) [
      | inl same ↦ subst (λ (n : ℕ). f n ≡ g n) (sym same) parts.0
      | inr old ↦ before old
    ]) parts.1 has

pub agree_in_set : (cols : List ℕ) (f g : ℕ → Value) (c : ℕ) → map f cols ≡ map g cols → has_col (set_of cols) c ≡ true → f c ≡ g c
agree_in_set cols f g c e has = agree_in_fold 0 cols f g c (λ none. absurd (no_column c none)) e has

-- a set with one more has that one, and those that it had
with_itself : (set col : ℕ) → has_col (with_col set col) col ≡ true
with_itself set col =
    let parts : bit_at (bit_or set (2 ^ col)) col ≡ max (bit_at set col) (bit_at (2 ^ col) col) = bit_at_or set (2 ^ col) col in
    let own : bit_at (2 ^ col) col ≡ 1 = bit_at-pow_same col in
    let low = bit_at-lt set col in
    let one : bit_at (bit_or set (2 ^ col)) col ≡ 1 = omega arith in
    eq-eqb (bit_at (bit_or set (2 ^ col)) col) 1 one

with_old : (set col c : ℕ) → has_col set c ≡ true → has_col (with_col set col) c ≡ true
with_old set col c has =
    let here : bit_at set c ≡ 1 = eqb-true _ _ has in
    let parts : bit_at (bit_or set (2 ^ col)) c ≡ max (bit_at set c) (bit_at (2 ^ col) c) = bit_at_or set (2 ^ col) c in
    let low = bit_at-lt (2 ^ col) c in
    let one : bit_at (bit_or set (2 ^ col)) c ≡ 1 = omega arith in
    eq-eqb (bit_at (bit_or set (2 ^ col)) c) 1 one

still_in_fold : (set : ℕ) (cols : List ℕ) (c : ℕ) → has_col set c ≡ true → has_col (fold with_col set cols) c ≡ true
still_in_fold set [] c has = has
still_in_fold set (col ∷ cols) c has = still_in_fold (with_col set col) cols c (with_old set col c has)

agree_at_columns : (set : ℕ) (cols : List ℕ) (f g : ℕ → Value) → ((c : ℕ) → has_col (fold with_col set cols) c ≡ true → f c ≡ g c) → map f cols ≡ map g cols
agree_at_columns set [] f g h = refl
agree_at_columns set (col ∷ cols) f g h =
    let here : f col ≡ g col = h col (still_in_fold (with_col set col) cols col (with_itself set col)) in
    λ i. here i ∷ agree_at_columns (with_col set col) cols f g h i

-- columns of one set agree together
pub agree_by_set : (xs ys : List ℕ) (f g : ℕ → Value) → set_of xs ≡ set_of ys → map f xs ≡ map g xs → map f ys ≡ map g ys
agree_by_set xs ys f g same e = agree_at_columns 0 ys f g (λ c has. agree_in_set xs f g c e (subst (λ (set : ℕ). has_col set c ≡ true) (sym same) has))

-- ---- the values of a sequence determine the key

-- two lists that begin with equally many values of the same parts
pub same_halves : (ps qs : List KeyPart) (row other : List Value) → values_of (ps ++ qs) row ≡ values_of (ps ++ qs) other → (values_of ps row ≡ values_of ps other) × (values_of qs row ≡ values_of qs other)
same_halves [] qs row other e = (refl, e)
same_halves (p ∷ ps) qs row other e =
    let parts = heads (value_of row p.col) (value_of other p.col) (values_of (ps ++ qs) row) (values_of (ps ++ qs) other) e in
    let rest = same_halves ps qs row other parts.1 in
    ((λ i. parts.0 i ∷ rest.0 i), rest.1)

-- a key whose columns are in the set, or among the values that follow
key_agrees : (set : ℕ) (key : List ℕ) (row other : List Value) → ((c : ℕ) → has_col set c ≡ true → value_of row c ≡ value_of other c) → values_of (map ascending_part (without set key)) row ≡ values_of (map ascending_part (without set key)) other → cells key row ≡ cells key other
key_agrees set [] row other inside e = refl
key_agrees set (c ∷ key) row other inside e =
    let G : Type 0 = cells (c ∷ key) row ≡ cells (c ∷ key) other in
    elim (has_col set c) as (λ b. has_col set c ≡ b → values_of (map ascending_part (cond (not b) (c ∷ without set key) (without set key))) row ≡ values_of (map ascending_part (cond (not b) (c ∷ without set key) (without set key))) other → G) [
      | true ↦ λ is e. (λ i. inside c is i ∷ key_agrees set key row other inside e i)
      | false ↦ λ _ e.
          let parts = heads (value_of row c) (value_of other c) (values_of (map ascending_part (without set key)) row) (values_of (map ascending_part (without set key)) other) e in
          (λ i. parts.0 i ∷ key_agrees set key row other inside parts.1 i)
    ] refl e

pub key_from_sequence : (table : Table) (index : Index) (row other : List Value) → values_of (index_sequence table index) row ≡ values_of (index_sequence table index) other → key_of table row ≡ key_of table other
key_from_sequence table index row other e =
    let set = set_of (columns_of index.cols) in
    let parts = same_halves index.cols (map ascending_part (without set table.key)) row other e in
    let own : cells (columns_of index.cols) row ≡ cells (columns_of index.cols) other = sym (values_of-columns_of index.cols row) ∙ parts.0 ∙ values_of-columns_of index.cols other in
    key_agrees set table.key row other (λ c has. agree_in_set (columns_of index.cols) (value_of row) (value_of other) c own has) parts.1
