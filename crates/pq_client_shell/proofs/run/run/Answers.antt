use Rattle.pq_client_shell.proofs.Closing.{ends_of}
use Rattle.pq_client_shell.proofs.Counting.{reads_long, reads_short}
use Rattle.pq_client_shell.proofs.run.run.Goals as goal

pub returns-clause-ends : goal.returns-clause-ends
returns-clause-ends g c = ends_of g.S.Store.answers c.args.k c.run_script-outcome.result _ _ _ _ c.run_script-outcome.ensures.ok c.run_script-outcome.ensures.err c.close.ensures.closes

pub returns-clause-too_long : goal.returns-clause-too_long
returns-clause-too_long g c = reads_long c.run_script-outcome.result c.close.result _ _ _ _ c.run_script-outcome.ensures.counted c.close.ensures.closes

pub returns-clause-short : goal.returns-clause-short
returns-clause-short g c = reads_short c.run_script-outcome.result c.close.result _ _ _ _ c.run_script-outcome.ensures.counted c.close.ensures.closes
