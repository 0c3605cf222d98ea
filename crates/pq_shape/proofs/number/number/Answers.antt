use Rattle.std.proofs.Common.{◌≡◌, true, false}
use Rattle.std.specs.Prelude.{nat_eq, slice_index}
use Rattle.pq_shape.proofs.Digits.{none_minus, none_plain}
use Rattle.pq_shape.proofs.number.number.Goals as goal

pub returns-in-None : goal.returns-in-None
returns-in-None c =
    let is : nat_eq (slice_index c.args.bytes.now 0) 45 ≡ true = cc in
    none_minus c.args.bytes.now is (rw c.without_first.ensures at c.in-None.ensures)

pub returns-in-None-magnitude : goal.returns-in-None-magnitude
returns-in-None-magnitude c =
    let is : nat_eq (slice_index c.args.bytes.now 0) 45 ≡ false = cc in
    none_plain c.args.bytes.now is c.in-None-magnitude.ensures
