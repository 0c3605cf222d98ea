use Rattle.pq_shell.proofs.Counting.{counted_run}
use Rattle.pq_shell.proofs.Ending.{Ends-of}
use Rattle.pq_shell.proofs.Flaws.{ends_at_flaw}
use Rattle.pq_shell.proofs.run.run.Goals as goal

pub returns-clause-ends : goal.returns-clause-ends
returns-clause-ends g c = Ends-of g.S.Store.answers c.args.form c.run_form-outcome.result _ _ _ _ c.run_form-outcome.ensures.ok c.run_form-outcome.ensures.err c.close.ensures.closes

pub returns-clause-flawed : goal.returns-clause-flawed
returns-clause-flawed g c = λ some. ends_at_flaw _ c.run_form-outcome.result _ _ _ _ (c.run_form-outcome.ensures.flawed some) c.close.ensures.closes

pub returns-clause-reads : goal.returns-clause-reads
returns-clause-reads g c = (counted_run c.run_form-outcome.result _ _ _ _ _ c.run_form-outcome.ensures.takes.counted c.run_form-outcome.ensures.takes.stopped c.close.ensures.closes).reads

pub returns-clause-too_long : goal.returns-clause-too_long
returns-clause-too_long g c = (counted_run c.run_form-outcome.result _ _ _ _ _ c.run_form-outcome.ensures.takes.counted c.run_form-outcome.ensures.takes.stopped c.close.ensures.closes).too_long
