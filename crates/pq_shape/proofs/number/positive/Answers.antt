use Rattle.std.proofs.Common.{ℤ, Some, ap, sym, ◌∙◌, arith}
use Rattle.std.specs.Int.{w64}
use Rattle.std.proofs.lemmas.Int.{to_z_pos}
use Rattle.pq_shape.proofs.Digits.{fitting_pos, fitting_none}
use Rattle.pq_shape.proofs.number.positive.Goals as goal

pub returns-then-magnitude-lt-LIMIT : goal.returns-then-magnitude-lt-LIMIT
returns-then-magnitude-lt-LIMIT c =
    ap (λ (z : ℤ). Some z) (to_z_pos w64 c.args.magnitude c.if-magnitude-lt-LIMIT.true) ∙ sym (fitting_pos c.args.magnitude (omega arith))

pub returns-else-magnitude-lt-LIMIT : goal.returns-else-magnitude-lt-LIMIT
returns-else-magnitude-lt-LIMIT c = sym (fitting_none c.args.magnitude (omega arith))
