use Rattle.std.proofs.Common.{rules, ◌+◌}
use Rattle.std.proofs.lemmas.Result.{err_from_is_err_and}
use Rattle.pq_shell.specs.Items.{Cut}
use Rattle.pq_shell.proofs.Ending.{stands_opens}
use Rattle.pq_shell.proofs.Folding.{Made-one, Served-one, Stopped-writing}
use Rattle.pq_shell.proofs.Making.{shown_whole, cut_shown}
use Rattle.pq_shell.proofs.serving.serve.Goals as goal

pub returns-in-Err-clause-err : goal.returns-in-Err-clause-err
returns-in-Err-clause-err g c = rw c.of.ensures (c.in-Err.ensures.err (g.O.Sink.held c.args.sink.now))

pub returns-in_err-write_report-in-Ok-clause-err : goal.returns-in_err-write_report-in-Ok-clause-err
returns-in_err-write_report-in-Ok-clause-err g c =
    let p = err_from_is_err_and c.from_residual.result c.from_residual.ensures.1 in
    rw (p.1, p.2) (Stopped-writing c.args.tally.now.form _ (Cut c.args.piece.now) (c.args.tally.now.count + 1) c.args.session _ _ _ _ _ _ _ _ c.in-Ok.ensures.ok (λ m. stands_opens c.args.tally.now.form _ _ m)
    (cut_shown c.args.tally.now.form c.requires.read _ _ _ _ c.in_err-write_report-in-Ok.ensures.err))

pub returns-in_ok-write_report-in-Ok-clause-ok : goal.returns-in_ok-write_report-in-Ok-clause-ok
returns-in_ok-write_report-in-Ok-clause-ok g c =
    Served-one _ _ (Made-one c.args.tally.now.form (Cut c.args.piece.now) (c.args.tally.now.count + 1) c.args.session _ _ _ _ _ _ _ _ c.in-Ok.ensures.ok (shown_whole c.args.tally.now.form c.requires.read _ _ _ c.in_ok-write_report-in-Ok.ensures.ok)) (search rules)
