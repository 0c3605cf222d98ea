use Rattle.std.proofs.Common.{arith, sym, ◌∙◌}
use Rattle.pq_client_shell.proofs.Fronts.{front_here, front_next, front_end}
use Rattle.pq_client_shell.proofs.writes.front_count.Goals as goal

pub returns-then-spells-clause-count : goal.returns-then-spells-clause-count
returns-then-spells-clause-count c =
    front_here c.args.pieces.now c.loop-piece.piece-index c.loop-piece.count c.piece-item.result c.loop-piece-test.true c.piece-item.is (sym c.in_ok-spells.ensures ∙ c.if-spells.true) c.loop-piece.invariant.1

pub loop-piece-preserved : goal.loop-piece-preserved
loop-piece-preserved c = (
  omega (arith, c.loop-piece.invariant.0),
  front_next c.args.pieces.now c.loop-piece.piece-index c.loop-piece.count c.piece-item.result c.loop-piece-test.true c.piece-item.is (sym c.in_ok-spells.ensures ∙ c.if-spells.false) c.loop-piece.invariant.1,
)

pub returns-clause-count : goal.returns-clause-count
returns-clause-count c = front_end c.args.pieces.now c.loop-piece.piece-index c.loop-piece.count c.loop-piece-test.false c.loop-piece.invariant.1
