use Rattle.std.proofs.lemmas.Result.{err_from_is_err_and}
use Rattle.pq_shell.proofs.Ending.{Stopped-opening}
use Rattle.pq_shell.proofs.Filled.{finishes_filling, stops_closing, stops_filling}
use Rattle.pq_shell.proofs.Flaws.{never_at_flaw}
use Rattle.pq_shell.proofs.run.run_fill.Goals as goal

pub returns-in_err-begun-clause-err : goal.returns-in_err-begun-clause-err
returns-in_err-begun-clause-err g c =
    let p = err_from_is_err_and c.from_residual.result c.from_residual.ensures.1 in
    rw (p.1, p.2) (λ left. Stopped-opening _ _ left _ _ c.in_err-begun.ensures.err.0 c.in_err-begun.ensures.err.1 c.in_err-begun.ensures.answered)

pub returns-in_err-filled-clause-err : goal.returns-in_err-filled-clause-err
returns-in_err-filled-clause-err g c =
    let p = err_from_is_err_and c.from_residual-in_err-filled.result c.from_residual-in_err-filled.ensures.1 in
    rw (p.1, p.2) (λ left. stops_filling c.args.n left _ _ _ _ c.in_ok-begun.ensures.ok _ (c.in_err-filled.ensures.err (g.O.Sink.held c.begin.new.sink)))

pub returns-in_err-filled-clause-flawed : goal.returns-in_err-filled-clause-flawed
returns-in_err-filled-clause-flawed g c = never_at_flaw _ _ (c.in_ok-begun.ensures.flawed tt)

pub returns-in_err-write_summary-clause-err : goal.returns-in_err-write_summary-clause-err
returns-in_err-write_summary-clause-err g c =
    let p = err_from_is_err_and c.from_residual-in_err-write_summary.result c.from_residual-in_err-write_summary.ensures.1 in
    rw (p.1, p.2) (λ left. stops_closing c.args.n left _ _ _ _ c.in_ok-begun.ensures.ok _ _ (c.in_ok-filled.ensures.ok (g.O.Sink.held c.begin.new.sink)) _ c.in_err-write_summary.ensures.err)

pub returns-in_err-write_summary-clause-flawed : goal.returns-in_err-write_summary-clause-flawed
returns-in_err-write_summary-clause-flawed g c = never_at_flaw _ _ (c.in_ok-begun.ensures.flawed tt)

pub returns-clause-ok : goal.returns-clause-ok
returns-clause-ok g c = λ left. finishes_filling c.args.n left _ _ _ _ c.in_ok-begun.ensures.ok _ _ (c.in_ok-filled.ensures.ok (g.O.Sink.held c.begin.new.sink)) c.in_ok-write_summary.ensures.ok

pub returns-clause-flawed : goal.returns-clause-flawed
returns-clause-flawed g c = never_at_flaw _ _ (c.in_ok-begun.ensures.flawed tt)
