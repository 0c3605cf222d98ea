-- Sets of columns and their members.
use Rattle.std.proofs.Common.{◌≡◌, ℕ, ◌^◌, min, true, ◌⊎◌, inl, inr, List, [], ◌∷◌, fold, bit_and, sym, ap, ◌∙◌, arith}
use Rattle.std.specs.Int.{bit_at}
use Rattle.std.proofs.lemmas.Bool.{cases_eq, eqb-true, eq-eqb}
use Rattle.std.proofs.lemmas.Nat.Bits.{bit_at_and, bit_at_or, bit_at-pow_same, bit_at-pow_other, bit_at-zero, same_from_bits}
use Rattle.pq_base.specs.Columns.{with_col, has_col, is_column_within, set_of}
use Rattle.pq_base.specs.Members.{In}

bit_with : (s c k : ℕ) → bit_at (with_col s c) k ≡ 1 → (bit_at s k ≡ 1) ⊎ (c ≡ k)
bit_with s c k h = elim (cases_eq k c) [
  | inl same ↦ inr (sym same)
  | inr other ↦
      let none = bit_at-pow_other c k other in
      let both = bit_at_or s (2 ^ c) k in
      inl (omega (arith, none, both, h))
]

with_bit : (s c k : ℕ) → (bit_at s k ≡ 1) ⊎ (c ≡ k) → bit_at (with_col s c) k ≡ 1
with_bit s c k (inl h) = let both = bit_at_or s (2 ^ c) k in omega (arith, both, h)
with_bit s c k (inr e) =
    let here : bit_at (2 ^ c) k ≡ 1 = ap (bit_at (2 ^ c)) (sym e) ∙ bit_at-pow_same c in
    let both = bit_at_or s (2 ^ c) k in
    omega (arith, both, here)

from_bit : (cols : List ℕ) (s k : ℕ) → bit_at (fold with_col s cols) k ≡ 1 → (bit_at s k ≡ 1) ⊎ In k cols
from_bit [] s k h = inl h
from_bit (c ∷ cols) s k h = elim (from_bit cols (with_col s c) k h) [
  | inl here ↦ elim (bit_with s c k here) [ inl old ↦ inl old | inr same ↦ inr (inl same) ]
  | inr there ↦ inr (inr there)
]

to_bit : (cols : List ℕ) (s k : ℕ) → (bit_at s k ≡ 1) ⊎ In k cols → bit_at (fold with_col s cols) k ≡ 1
to_bit [] s k (inl h) = h
to_bit [] s k (inr i) = absurd i
to_bit (c ∷ cols) s k (inl h) = to_bit cols (with_col s c) k (inl (with_bit s c k (inl h)))
to_bit (c ∷ cols) s k (inr (inl e)) = to_bit cols (with_col s c) k (inl (with_bit s c k (inr e)))
to_bit (c ∷ cols) s k (inr (inr i)) = to_bit cols (with_col s c) k (inr i)

pub set_members : (cols : List ℕ) (k : ℕ) → has_col (set_of cols) k ≡ true → In k cols
set_members cols k h = elim (from_bit cols 0 k (eqb-true _ _ h)) [
  | inl none ↦ let zero = bit_at-zero k in absurd (omega (arith, zero, none))
  | inr here ↦ here
]

pub members_set : (cols : List ℕ) (k : ℕ) → In k cols → has_col (set_of cols) k ≡ true
members_set cols k i = eq-eqb _ _ (to_bit cols 0 k (inr i))

within_bits : (a b k : ℕ) → is_column_within a b ≡ true → bit_at a k ≡ 1 → bit_at b k ≡ 1
within_bits a b k h one =
    let same : bit_at (bit_and a b) k ≡ bit_at a k = ap (λ s. bit_at s k) (eqb-true _ _ h) in
    let both = bit_at_and a b k in
    omega (arith, same, both, one)

-- the members of a set that lies in another are members of that
pub within_members : (xs ys : List ℕ) → is_column_within (set_of xs) (set_of ys) ≡ true → (k : ℕ) → In k xs → In k ys
within_members xs ys h k i = set_members ys k (eq-eqb _ _ (within_bits (set_of xs) (set_of ys) k h (to_bit xs 0 k (inr i))))

pub members_within : (xs ys : List ℕ) → ((k : ℕ) → In k xs → In k ys) → is_column_within (set_of xs) (set_of ys) ≡ true
members_within xs ys f = eq-eqb _ _ (same_from_bits _ _ (λ k. bit_at_and (set_of xs) (set_of ys) k ∙ each k))
  where
    each : (k : ℕ) → min (bit_at (set_of xs) k) (bit_at (set_of ys) k) ≡ bit_at (set_of xs) k
    each k = elim (cases_eq (bit_at (set_of xs) k) 1) [
      | inl one ↦ elim (from_bit xs 0 k one) [
        | inl none ↦ let zero = bit_at-zero k in absurd (omega (arith, zero, none))
        | inr here ↦ let other = to_bit ys 0 k (inr (f k here)) in omega (arith, other, one)
      ]
      | inr not_one ↦ omega (arith, not_one)
    ]
