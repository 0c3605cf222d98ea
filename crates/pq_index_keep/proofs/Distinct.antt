-- Columns are different whose set has as many as they are.
use Rattle.std.proofs.Common.{◌≡◌, ℕ, ◌+◌, ◌^◌, ◌≤◌, false, ◌⊎◌, inl, inr, eqb, List, [], ◌∷◌, length, fold, count_ones, refl, sym, ap, ◌∙◌, arith}
use lib.Count.{ones}
use Rattle.std.specs.Int.{bit_at}
use Rattle.std.specs.List.{IsDistinct, AllByRecursion}
use Rattle.std.proofs.lemmas.Bool.{cases_eq, ne_eqb}
use Rattle.std.proofs.lemmas.Nat.Bits.{bit_at_or, bit_at-pow_same, bit_at-pow_other, bit_at-lt, same_from_bits}
use Rattle.pq_base.specs.Columns.{with_col, set_of}
use Rattle.pq_schema.proofs.Counts.{count_with}

with_same : (s c : ℕ) → bit_at s c ≡ 1 → with_col s c ≡ s
with_same s c has = same_from_bits (with_col s c) s (λ k. elim (cases_eq k c) [
  | inl same ↦
      let here : bit_at s k ≡ 1 = ap (bit_at s) same ∙ has in
      let one : bit_at (2 ^ c) k ≡ 1 = ap (bit_at (2 ^ c)) same ∙ bit_at-pow_same c in
      omega (arith, here, one, bit_at_or s (2 ^ c) k)
  | inr other ↦ omega (arith, bit_at-pow_other c k other, bit_at_or s (2 ^ c) k)
])

bit_is : (s c : ℕ) → (bit_at s c ≡ 0) ⊎ (bit_at s c ≡ 1)
bit_is s c = elim (cases_eq (bit_at s c) 1) [
  | inl one ↦ inr one
  | inr other ↦ inl (omega (arith, bit_at-lt s c, other))
]

-- a set gets at most as many more columns as are named
most_ones : (cols : List ℕ) (s : ℕ) → count_ones (fold with_col s cols) ≤ count_ones s + length cols
most_ones [] s = omega arith
most_ones (c ∷ cs) s = elim (bit_is s c) [
  | inl none ↦ omega (arith, count_with s c none, most_ones cs (with_col s c))
  | inr has ↦
      let same : count_ones (with_col s c) ≡ count_ones s = ap count_ones (with_same s c has) in
      omega (arith, same, most_ones cs (with_col s c))
]

-- different columns, of which none is in the set
record AreNew (s : ℕ) (cols : List ℕ) : Type 0 where
  absent : AllByRecursion (λ col. bit_at s col ≡ 0) cols
  different : IsDistinct eqb cols

none_of : (s c : ℕ) (cols : List ℕ) → AllByRecursion (λ col. bit_at (with_col s c) col ≡ 0) cols → AllByRecursion (λ col. eqb c col ≡ false) cols
none_of s c [] none = tt
none_of s c (d ∷ ds) none = (
  elim (cases_eq c d) [
    | inl same ↦
        let zero : bit_at (with_col s c) d ≡ 0 = none.0 in
        let one : bit_at (2 ^ c) d ≡ 1 = ap (bit_at (2 ^ c)) (sym same) ∙ bit_at-pow_same c in
        absurd (omega (arith, zero, one, bit_at_or s (2 ^ c) d))
    | inr other ↦ ne_eqb c d other
  ],
  none_of s c ds none.1,
)

absent_before : (s c : ℕ) (cols : List ℕ) → AllByRecursion (λ col. bit_at (with_col s c) col ≡ 0) cols → AllByRecursion (λ col. bit_at s col ≡ 0) cols
absent_before s c [] none = tt
absent_before s c (d ∷ ds) none =
    let zero : bit_at (with_col s c) d ≡ 0 = none.0 in
    (omega (arith, zero, bit_at_or s (2 ^ c) d), absent_before s c ds none.1)

are_new : (cols : List ℕ) (s : ℕ) → count_ones (fold with_col s cols) ≡ count_ones s + length cols → AreNew s cols
unfolding IsDistinct
are_new [] s is = record { absent = tt; different = tt }
are_new (c ∷ cs) s is = elim (bit_is s c) [
  | inl none ↦
      let one = count_with s c none in
      let rest = are_new cs (with_col s c) (omega (arith, one, is)) in
      record { absent = (none, absent_before s c cs rest.absent); different = (none_of s c cs rest.absent, rest.different) }
  | inr has ↦
      let same : count_ones (with_col s c) ≡ count_ones s = ap count_ones (with_same s c has) in
      absurd (omega (arith, same, is, most_ones cs (with_col s c)))
]

zero_ones : count_ones 0 ≡ 0
unfolding ones
zero_ones = refl

-- columns are different whose set has as many as they are
pub are_distinct : (cols : List ℕ) → count_ones (set_of cols) ≡ length cols → IsDistinct eqb cols
are_distinct cols is = (are_new cols 0 (omega (arith, is, zero_ones))).different
