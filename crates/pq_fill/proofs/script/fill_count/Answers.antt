use Rattle.std.proofs.Common.{ap, ◌*◌, arith}
use Rattle.pq_fill.proofs.Places.{statements_long}
use Rattle.pq_fill.proofs.script.fill_count.Goals as goal

pub returns : goal.returns
returns c = omega (arith, ap (λ k. c.args.n * k) c.followed.ensures, statements_long c.args.n)
