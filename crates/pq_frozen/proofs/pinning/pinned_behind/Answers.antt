use Rattle.std.proofs.Common.{◌≤◌, length, refl, arith}
use Rattle.pq_frozen.proofs.Still.{cut_at, made_all, made_next, made_none, pinned_holds}
use Rattle.pq_frozen.proofs.pinning.pinned_behind.Goals as goal

pub loop-piece-init : goal.loop-piece-init
loop-piece-init g c = record { number = refl; made = λ m opens. made_none m _ _ _ (c.in_ok-started.ensures.stands m opens) }

pub loop-piece-preserved : goal.loop-piece-preserved
loop-piece-preserved g c =
    let cut = cut_at c.args.pieces.now c.loop-piece.piece-index c.piece-item.result c.loop-piece-test.true c.piece-item.is in
    record {
      number = omega (arith, c.loop-piece.invariant.number);
      made = λ m opens. made_next m c.args.pieces.now c.loop-piece.piece-index c.loop-piece.number c.piece-item.result _ _ _ _ c.loop-piece.invariant.number cut
          (c.loop-piece.invariant.made m opens) (λ n stands. c.in_ok-next.ensures.made n stands);
    }

pub returns : goal.returns
returns g c = λ m opens.
    let past : length c.args.pieces.now ≤ c.loop-piece.piece-index = omega (arith, c.loop-piece-test.false) in
    pinned_holds _ _ _ c.in_ok-pinned.ensures (made_all m c.args.pieces.now c.loop-piece.piece-index _ _ past (c.loop-piece.invariant.made m opens))
