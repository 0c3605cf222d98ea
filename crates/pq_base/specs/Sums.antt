-- Sums of numbers of 64 bits.
use Rattle.std.specs.Prelude.{ℤ, pos, negsuc, ◌+ℤ◌, ◌^◌, Bool, nat_lt, Option, Some, None, if◌then◌else◌}
use Rattle.pq_base.specs.declared.value.Value.{Value}
use Rattle.pq_base.specs.declared.value.Value.TheVariants as value

-- from -2^63 to 2^63 - 1
unfoldable pub has_64_bits : ℤ → Bool
has_64_bits (pos n) = nat_lt n (2 ^ 63)
has_64_bits (negsuc n) = nat_lt n (2 ^ 63)

-- the value with a number added to it; none where it is no number, or the sum is none of 64 bits
abbrev pub sum_of : Value → ℤ → Option Value
sum_of value.Null n = None
sum_of (value.Int m) n = if has_64_bits (m +ℤ n) then Some (value.Int (m +ℤ n)) else None
sum_of (value.Bool b) n = None
sum_of (value.Text t) n = None
