use Rattle.std.proofs.lemmas.Result.{IfErr-weaker}
use Rattle.pq_shell.proofs.run.run_form.Goals as goal

pub returns-in-Fill-clause-err : goal.returns-in-Fill-clause-err
returns-in-Fill-clause-err g c = rw c.in-Fill.is (IfErr-weaker c.run_fill.result _ _ (λ stop broken. broken _) c.run_fill.ensures.err)
