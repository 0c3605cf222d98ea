use Rattle.std.proofs.Common.{rules}
use Rattle.std.proofs.lemmas.Result.{err_from_is_err_and, IfOk-weaker, IfErr-weaker}
use Rattle.pq_shell.proofs.Counting.{counted_rest, stopped_rest}
use Rattle.pq_shell.proofs.Ending.{Finished-of, Stopped-among, Stopped-at_rest, Stopped-opening}
use Rattle.pq_shell.proofs.Flaws.{never_at_flaw}
use Rattle.pq_shell.proofs.run.run_script.Goals as goal

pub returns-in_err-begun-clause-err : goal.returns-in_err-begun-clause-err
returns-in_err-begun-clause-err g c =
    let p = err_from_is_err_and c.from_residual.result c.from_residual.ensures.1 in
    rw (p.1, p.2) (Stopped-opening c.args.form _ _ _ _ c.in_err-begun.ensures.err.0 c.in_err-begun.ensures.err.1 c.in_err-begun.ensures.answered)

pub returns-in_err-ending-clause-err : goal.returns-in_err-ending-clause-err
returns-in_err-ending-clause-err g c =
    let p = err_from_is_err_and c.from_residual-in_err-ending.result c.from_residual-in_err-ending.ensures.1 in
    let start = c.new-progress.ensures in
    rw (p.1, p.2) (Stopped-among c.requires start.splitter start.count c.in_ok-begun.ensures.ok.opening (rw start.form at c.in_err-ending.ensures.err))

pub returns-clause-ok : goal.returns-clause-ok
returns-clause-ok g c =
    let start = c.new-progress.ensures in
    IfOk-weaker c.finish.result _ _ (λ ended rest. Finished-of c.requires start.splitter start.count start.refused c.in_ok-begun.ensures.ok.opening (rw start.form at c.in_ok-ending.ensures.ok.1) _ ended rest) c.finish.ensures.ok

pub returns-clause-err : goal.returns-clause-err
returns-clause-err g c =
    let start = c.new-progress.ensures in
    IfErr-weaker c.finish.result _ _ (λ stop rest. Stopped-at_rest c.requires start.splitter start.count start.refused c.in_ok-begun.ensures.ok.opening (rw start.form at c.in_ok-ending.ensures.ok.1) _ stop rest) c.finish.ensures.err

pub returns-in_err-begun-clause-flawed : goal.returns-in_err-begun-clause-flawed
returns-in_err-begun-clause-flawed g c =
    let p = err_from_is_err_and c.from_residual.result c.from_residual.ensures.1 in
    rw (p.1, p.2) c.in_err-begun.ensures.flawed

pub returns-in_err-ending-clause-flawed : goal.returns-in_err-ending-clause-flawed
returns-in_err-ending-clause-flawed g c = λ some. never_at_flaw _ _ (c.in_ok-begun.ensures.flawed some)

pub returns-clause-flawed : goal.returns-clause-flawed
returns-clause-flawed g c = λ some. never_at_flaw _ _ (c.in_ok-begun.ensures.flawed some)

pub returns-clause-takes : goal.returns-clause-takes
returns-clause-takes g c = record {
  taken = c.in_ok-ending.ensures.takes.taken;
  counted = counted_rest c.finish.result _ _ _ _ _ _ c.in_ok-ending.ensures.takes.counted c.finish.ensures.ok;
  stopped = stopped_rest c.finish.result _ _ _ _ _ _ c.in_ok-ending.ensures.takes.counted c.finish.ensures.err;
  later = c.in_ok-ending.ensures.takes.later;
  read_fault = search rules;
}
