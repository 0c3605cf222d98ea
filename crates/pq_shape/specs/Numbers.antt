-- The numbers that digits write.
use Rattle.std.specs.Prelude.{ℕ, ℤ, pos, ◌+◌, ◌-◌, ◌*◌, ◌==◌, slice_index, drop, List, [], ◌∷◌, Option, Some, None, if◌then◌else◌}
use Rattle.std.proofs.Math.IntN.{neg_ℤ}
use Rattle.pq_base.specs.Sums.{has_64_bits}

-- the number that digits write behind those of n
unfoldable pub digits_after : ℕ → List ℕ → ℕ
digits_after n [] = n
digits_after n (b ∷ bs) = digits_after (n * 10 + (b - 48)) bs

-- the number that digits write, a `-` before them or not
abbrev pub signed_number : List ℕ → ℤ
signed_number bs = if slice_index bs 0 == 45 then neg_ℤ (pos (digits_after 0 (drop 1 bs))) else pos (digits_after 0 bs)

unfoldable pub fitting_number : ℤ → Option ℤ
fitting_number z = if has_64_bits z then Some z else None

abbrev pub digits_number : List ℕ → Option ℤ
digits_number bs = fitting_number (signed_number bs)
