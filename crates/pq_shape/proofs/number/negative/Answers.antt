use Rattle.std.proofs.Common.{◌≡◌, ℕ, ℤ, pos, Some, ap, sym, ◌∙◌, arith}
use Rattle.std.proofs.Math.IntN.{neg_ℤ}
use Rattle.pq_shape.proofs.Digits.{fitting_neg, neg_cast}
use Rattle.pq_shape.proofs.number.negative.Goals as goal

pub returns-then-magnitude-lt-LIMIT : goal.returns-then-magnitude-lt-LIMIT
returns-then-magnitude-lt-LIMIT c =
    ap (λ (z : ℤ). Some z) (neg_cast c.args.magnitude c.if-magnitude-lt-LIMIT.true) ∙ sym (fitting_neg c.args.magnitude c.requires)

pub returns-else-magnitude-lt-LIMIT : goal.returns-else-magnitude-lt-LIMIT
returns-else-magnitude-lt-LIMIT c =
    let least : c.args.magnitude ≡ 9223372036854775808 = omega arith in
    ap (λ (n : ℕ). Some (neg_ℤ (pos n))) (sym least) ∙ sym (fitting_neg c.args.magnitude c.requires)
