use Rattle.std.proofs.Common.{◌≡◌, ◌+◌, ◌*◌, drop, sym, ◌∙◌, arith}
use Rattle.pq_shape.specs.Numbers.{digits_after}
use Rattle.pq_shape.proofs.Digits.{digits_above, digits_step, digits_end}
use Rattle.pq_shape.proofs.number.magnitude.Goals as goal

pub returns-then-number-gt-LIMIT : goal.returns-then-number-gt-LIMIT
returns-then-number-gt-LIMIT c =
    let step = digits_step c.loop-digit.number c.loop-digit.digit-index c.args.digits.now c.loop-digit-test.true in
    let above = digits_above (c.loop-digit.number * 10 + c.saturating_sub.result) (drop (c.loop-digit.digit-index + 1) c.args.digits.now) in
    let whole : digits_after (c.loop-digit.number * 10 + c.saturating_sub.result) (drop (c.loop-digit.digit-index + 1) c.args.digits.now) ≡ digits_after 0 c.args.digits.now = rw c.saturating_sub.ensures (sym step ∙ c.loop-digit.invariant.so_far) in
    omega (arith, whole, above)

pub loop-digit-preserved : goal.loop-digit-preserved
loop-digit-preserved c =
    let step = digits_step c.loop-digit.number c.loop-digit.digit-index c.args.digits.now c.loop-digit-test.true in
    record { small = omega arith; so_far = rw c.saturating_sub.ensures (sym step ∙ c.loop-digit.invariant.so_far) }

pub returns : goal.returns
returns c = (sym (digits_end c.loop-digit.number c.loop-digit.digit-index c.args.digits.now (omega arith)) ∙ c.loop-digit.invariant.so_far, c.loop-digit.invariant.small)
