use Rattle.std.proofs.Common.{◌≤◌, ◌∙◌, length, refl, arith}
use Rattle.std.proofs.lemmas.Result.{err_from_is_err_and}
use Rattle.pq_opening.proofs.Leaving.{held_quiet}
use Rattle.pq_frozen.proofs.Still.{cut_at, held_still, known_reads, read_next, read_none, read_whole}
use Rattle.pq_frozen.proofs.reading.read_all.Goals as goal

pub returns-in_err-started-clause-still : goal.returns-in_err-started-clause-still
returns-in_err-started-clause-still g c = λ m holds all. c.in_err-started.ensures.still (held_quiet _ m holds)

pub returns-in_err-started-clause-no_memory : goal.returns-in_err-started-clause-no_memory
returns-in_err-started-clause-no_memory g c =
    let p = err_from_is_err_and c.from_residual.result c.from_residual.ensures.1 in
    rw (p.1, p.2) (λ m holds all. c.in_err-started.ensures.no_memory m holds)

pub loop-piece-init : goal.loop-piece-init
loop-piece-init g c = record { number = refl; reading = λ m holds all. read_none m _ _ _ _ c.new-reports.ensures (c.in_ok-started.ensures.opened m holds).1 }

pub returns-in_err-next-clause-still : goal.returns-in_err-next-clause-still
returns-in_err-next-clause-still g c = λ m holds all.
    let reading = c.loop-piece.invariant.reading m holds all in
    let cut = cut_at c.args.pieces.now c.loop-piece.piece-index c.piece-item.result c.loop-piece-test.true c.piece-item.is in
    c.in_err-next.ensures.still (known_reads m _ c.loop-piece.piece-index _ _ _ cut all reading.stands) ∙ held_still _ _ _ m holds reading.stands

pub returns-in_err-next-clause-no_memory : goal.returns-in_err-next-clause-no_memory
returns-in_err-next-clause-no_memory g c =
    let p = err_from_is_err_and c.from_residual-in_err-next.result c.from_residual-in_err-next.ensures.1 in
    rw (p.1, p.2) (λ m holds all. c.in_err-next.ensures.no_memory m (c.loop-piece.invariant.reading m holds all).stands)

pub returns-in_err-push-clause-still : goal.returns-in_err-push-clause-still
returns-in_err-push-clause-still g c = λ m holds all.
    let reading = c.loop-piece.invariant.reading m holds all in
    let cut = cut_at c.args.pieces.now c.loop-piece.piece-index c.piece-item.result c.loop-piece-test.true c.piece-item.is in
    c.in_ok-next.ensures.still (known_reads m _ c.loop-piece.piece-index _ _ _ cut all reading.stands) ∙ held_still _ _ _ m holds reading.stands

pub returns-in_err-push-clause-no_memory : goal.returns-in_err-push-clause-no_memory
returns-in_err-push-clause-no_memory g c =
    let p = err_from_is_err_and c.from_residual-in_err-push.result c.from_residual-in_err-push.ensures.1 in
    rw (p.1, p.2) (λ m holds all. refl)

pub loop-piece-preserved : goal.loop-piece-preserved
loop-piece-preserved g c =
    let cut = cut_at c.args.pieces.now c.loop-piece.piece-index c.piece-item.result c.loop-piece-test.true c.piece-item.is in
    record {
      number = omega (arith, c.loop-piece.invariant.number);
      reading = λ m holds all. read_next m c.args.pieces.now c.loop-piece.piece-index c.loop-piece.number c.piece-item.result _ _ _ _ _ _ _ c.loop-piece.invariant.number cut c.in_ok-push.ensures.ok all
          (c.loop-piece.invariant.reading m holds all) (λ stands reads. c.in_ok-next.ensures.answered m stands reads);
    }

pub returns-clause-still : goal.returns-clause-still
returns-clause-still g c = λ m holds all. held_still _ _ _ m holds (c.loop-piece.invariant.reading m holds all).stands

pub returns-clause-answered : goal.returns-clause-answered
returns-clause-answered g c = λ m holds all.
    let past : length c.args.pieces.now ≤ c.loop-piece.piece-index = omega (arith, c.loop-piece-test.false) in
    read_whole m c.args.pieces.now c.loop-piece.piece-index _ _ _ past (c.loop-piece.invariant.reading m holds all)
