use Rattle.std.proofs.lemmas.Result.{err_from_is_err_and, IfOk-weaker, IfErr-weaker}
use Rattle.pq_client_shell.proofs.Counting.{counted_ending}
use Rattle.pq_client_shell.proofs.Closing.{stops_opening, stops_reading, finished_clients, broken_clients}
use Rattle.pq_client_shell.proofs.run.run_script.Goals as goal

pub returns-in_err-session-clause-err : goal.returns-in_err-session-clause-err
returns-in_err-session-clause-err g c =
    let p = err_from_is_err_and c.from_residual.result c.from_residual.ensures.1 in
    rw (p.1, p.2) (stops_opening c.args.k _ _ _ _ _ _ _ _ c.in_err-session.ensures.err c.in_err-session.ensures.answered)

pub returns-in_default-clause-err : goal.returns-in_default-clause-err
returns-in_default-clause-err g c = stops_reading c.args.k _ _ _ _ _ _ _ _ c.in_ok-session.ensures.ok

pub returns-in_default-front_count-clause-err : goal.returns-in_default-front_count-clause-err
returns-in_default-front_count-clause-err g c = stops_reading c.args.k _ _ _ _ _ _ _ _ c.in_ok-session.ensures.ok

pub returns-clause-ok : goal.returns-clause-ok
returns-clause-ok g c = IfOk-weaker c.run_read.result _ _ (λ ended made. finished_clients c.args.k _ _ _ _ _ _ _ _ _ _ _ c.in-Ok.script ended c.in_ok-session.ensures.ok c.in-Ok.ensures.read made) c.run_read.ensures.ok

pub returns-clause-err : goal.returns-clause-err
returns-clause-err g c = IfErr-weaker c.run_read.result _ _ (λ stop halts. broken_clients c.args.k stop _ _ _ _ _ _ _ _ _ _ _ c.in-Ok.script c.in_ok-session.ensures.ok c.in-Ok.ensures.read halts) c.run_read.ensures.err

pub returns-clause-counted : goal.returns-clause-counted
returns-clause-counted g c = counted_ending c.run_read.result c.in-Ok.script.ending _ _ c.in-Ok.ensures.counted (IfOk-weaker c.run_read.result _ _ (λ ended made. made.ending_is) c.run_read.ensures.ok)
