use Rattle.std.proofs.Common.{◌≡◌, ◌≤◌, ◌^◌, drop}
use Rattle.pq_shape.specs.Numbers.{digits_after}
use Rattle.pq_shape.proofs.number.magnitude.Given as goal

abbrev pub invariant-loop-digit : goal.invariant-loop-digit
invariant-loop-digit l = record { small : l.number ≤ 2 ^ 63; so_far : digits_after l.number (drop l.digit-index l.digits) ≡ digits_after 0 l.digits }
