use Rattle.std.proofs.Common.{refl, arith, ◌∙◌}
use Rattle.std.proofs.lemmas.Result.{err_from_is_err_and}
use Rattle.pq_shell.proofs.Folding.{Served-none}
use Rattle.pq_client_shell.proofs.Served.{served_more, served_all, stopped_among}
use Rattle.pq_client_shell.proofs.front.run_front.Goals as goal

pub loop-piece-init : goal.loop-piece-init
loop-piece-init g c = record { form = refl; count = refl; store_later = omega arith; sink_later = omega arith; served = Served-none _ _ _ _ _ }

pub serve-requires-clause-few : goal.serve-requires-clause-few
serve-requires-clause-few g c = omega (arith, c.requires, c.loop-piece.invariant.count, c.loop-piece-test.true)

pub returns-in_err-session-clause-err : goal.returns-in_err-session-clause-err
returns-in_err-session-clause-err g c =
    let p = err_from_is_err_and c.from_residual.result c.from_residual.ensures.1 in
    rw (p.1, p.2) (stopped_among c.args.pieces.now c.loop-piece.piece-index _ c.piece-item.result c.loop-piece-test.true c.piece-item.is c.loop-piece.invariant.count c.loop-piece.invariant.served (rw c.loop-piece.invariant.form at c.in_err-session.ensures.err))

pub loop-piece-preserved : goal.loop-piece-preserved
loop-piece-preserved g c =
    let so_far = c.loop-piece.invariant in
    let causes = c.in_ok-session.ensures.causes in
    record {
      form = c.in_ok-session.ensures.form ∙ so_far.form;
      count = omega (arith, so_far.count, c.in_ok-session.ensures.count);
      store_later = omega (arith, so_far.store_later, causes.store_later);
      sink_later = omega (arith, so_far.sink_later, causes.sink_later);
      served = served_more c.args.pieces.now c.loop-piece.piece-index _ c.piece-item.result c.loop-piece-test.true c.piece-item.is so_far.count so_far.served (rw so_far.form at c.in_ok-session.ensures.ok);
    }

pub returns-clause-ok : goal.returns-clause-ok
returns-clause-ok g c = served_all c.args.pieces.now c.loop-piece.piece-index c.loop-piece-test.false c.loop-piece.invariant.served
