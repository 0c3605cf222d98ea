-- What digits write.
use Rattle.std.proofs.Common.{◌≡◌, ℕ, ℤ, pos, negsuc, zero, suc, ◌+◌, ◌*◌, ◌-◌, ◌^◌, ◌<◌, ◌≤◌, true, false, List, [], ◌∷◌, Some, None, refl, sym, ap, ◌∙◌, arith, length, drop, get_or, add-one, to_z, of_z}
use Rattle.std.proofs.Math.Seq.{drop-cons}
use Rattle.std.proofs.lemmas.List.{drop_all}
use Rattle.std.specs.Prelude.{nat_lt, nat_eq, slice_index, ◌-ℤ◌}
use Rattle.std.specs.Int.{w64}
use Rattle.std.proofs.lemmas.Int.{to_z-of_z, to_z_pos, ints}
use Rattle.std.proofs.Math.IntN.{neg_ℤ}
use Rattle.pq_base.specs.Sums.{has_64_bits}
use Rattle.pq_shape.specs.Numbers.{digits_after, fitting_number, digits_number}

-- more digits write no smaller number
pub digits_above : (n : ℕ) (bs : List ℕ) → n ≤ digits_after n bs
unfolding digits_after
digits_above n [] = omega arith
digits_above n (b ∷ bs) = omega (arith, digits_above (n * 10 + (b - 48)) bs)

pub digits_next : (n b : ℕ) (bs : List ℕ) → digits_after n (b ∷ bs) ≡ digits_after (n * 10 + (b - 48)) bs
unfolding digits_after
digits_next n b bs = refl

pub digits_none : (n : ℕ) → digits_after n [] ≡ n
unfolding digits_after
digits_none n = refl

pub fitting_pos : (n : ℕ) → n < 2 ^ 63 → fitting_number (pos n) ≡ Some (pos n)
unfolding fitting_number has_64_bits
fitting_pos n h = let is : nat_lt n (2 ^ 63) ≡ true = grind arith in rw is refl

pub fitting_none : (n : ℕ) → 2 ^ 63 ≤ n → fitting_number (pos n) ≡ None
unfolding fitting_number has_64_bits
fitting_none n h = let is : nat_lt n (2 ^ 63) ≡ false = grind arith in rw is refl

pub fitting_neg : (n : ℕ) → n ≤ 2 ^ 63 → fitting_number (neg_ℤ (pos n)) ≡ Some (neg_ℤ (pos n))
unfolding fitting_number has_64_bits
fitting_neg zero h = refl
fitting_neg (suc n) h = let is : nat_lt n (2 ^ 63) ≡ true = grind arith in rw is refl

pub fitting_below : (n : ℕ) → 2 ^ 63 < n → fitting_number (neg_ℤ (pos n)) ≡ None
unfolding fitting_number has_64_bits
fitting_below zero h = absurd (omega arith)
fitting_below (suc n) h = let is : nat_lt n (2 ^ 63) ≡ false = grind arith in rw is refl

-- one digit read
pub digits_step : (n i : ℕ) (s : List ℕ) → i < length s → digits_after n (drop i s) ≡ digits_after (n * 10 + (get_or s i 0 - 48)) (drop (i + 1) s)
digits_step n i s h = rw (add-one, drop-cons s i 0) (digits_next n (get_or s i 0) (drop (suc i) s))

pub digits_end : (n i : ℕ) (s : List ℕ) → i ≡ length s → digits_after n (drop i s) ≡ n
digits_end n i s h = ap (digits_after n) (drop_all i s (omega arith)) ∙ digits_none n

less_pos : (n : ℕ) → pos 0 -ℤ pos (suc n) ≡ negsuc n
less_pos n = omega (arith, ints)

neg_cast_by : (m : ℕ) → m < 2 ^ 63 → to_z w64 (of_z w64 (pos 0 -ℤ pos m)) ≡ neg_ℤ (pos m)
neg_cast_by zero h = refl
neg_cast_by (suc n) h = ap (λ (z : ℤ). to_z w64 (of_z w64 z)) (less_pos n) ∙ to_z-of_z w64 (negsuc n) (omega (arith, ints))

pub neg_cast : (m : ℕ) → m < 2 ^ 63 → to_z w64 (of_z w64 (pos 0 -ℤ to_z w64 m)) ≡ neg_ℤ (pos m)
neg_cast m h = ap (λ (z : ℤ). to_z w64 (of_z w64 (pos 0 -ℤ z))) (to_z_pos w64 m h) ∙ neg_cast_by m h

-- a number without a sign
pub none_plain : (bs : List ℕ) → nat_eq (slice_index bs 0) 45 ≡ false → 2 ^ 63 < digits_after 0 bs → None ≡ digits_number bs
none_plain bs plain above = rw plain (sym (fitting_none (digits_after 0 bs) (omega arith)))

pub none_minus : (bs : List ℕ) → nat_eq (slice_index bs 0) 45 ≡ true → 2 ^ 63 < digits_after 0 (drop 1 bs) → None ≡ digits_number bs
none_minus bs is above = rw is (sym (fitting_below (digits_after 0 (drop 1 bs)) above))
