use Rattle.std.proofs.Common.{ap, arith}
use Rattle.pq_pending.specs.Pending.{Ahead}
use Rattle.pq_index_keep.specs.Rounds.{write_rounds}
use Rattle.pq_index_keep.proofs.Behind.{alone_is}
use Rattle.pq_index_keep.proofs.writes.plan_write.Goals as goal

pub returns-in-Err-clause-rounds : goal.returns-in-Err-clause-rounds
returns-in-Err-clause-rounds g c =
    let none = ap (λ (p : Ahead). write_rounds p.changes c.args.catalog.now.tables c.args.write.now) c.none-pending.ensures in
    omega (arith, c.plan_with_rows.ensures.rounds, none, alone_is c.args.catalog.now.tables c.args.write.now)
