-- Numbers that have 64 bits, and those that fit.
use Rattle.std.proofs.Common.{◌≡◌, ℤ, pos, negsuc, ◌^◌, true, false, Option, Some, None, refl, ap, sym, ◌∙◌}
use Rattle.std.specs.Prelude.{FitsSigned, SomeIff, if◌then◌else◌}
use Rattle.std.specs.Int.{w64}
use Rattle.std.proofs.lemmas.Bool.{ltb-true, lt-ltb, false≢true}
use Rattle.pq_base.specs.Sums.{has_64_bits}

pub bits_fit : (z : ℤ) → has_64_bits z ≡ true → FitsSigned w64 z
unfolding has_64_bits
bits_fit (pos n) is = record { sfits = ltb-true n (2 ^ 63) is }
bits_fit (negsuc n) is = record { sfits = ltb-true n (2 ^ 63) is }

pub fit_bits : (z : ℤ) → FitsSigned w64 z → has_64_bits z ≡ true
unfolding has_64_bits
fit_bits (pos n) fits = lt-ltb n (2 ^ 63) fits.sfits
fit_bits (negsuc n) fits = lt-ltb n (2 ^ 63) fits.sfits

-- what a checked sum gives, as the definition says it
pub sum_given : (r : Option ℤ) (z : ℤ) → SomeIff r (FitsSigned w64 z) z
    → r ≡ (if has_64_bits z then Some z else None)
sum_given None z given =
    elim (has_64_bits z) as (λ b. has_64_bits z ≡ b → None ≡ (if b then Some z else None)) [
      | true ↦ λ is. absurd (given (bits_fit z is))
      | false ↦ λ is. refl
    ] refl
sum_given (Some x) z given =
    elim (has_64_bits z) as (λ b. has_64_bits z ≡ b → Some x ≡ (if b then Some z else None)) [
      | true ↦ λ is. ap (λ (y : ℤ). Some y) given.1
      | false ↦ λ is. absurd (false≢true (sym is ∙ fit_bits z given.0))
    ] refl
