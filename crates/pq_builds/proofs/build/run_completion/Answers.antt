use Rattle.pq_intent.proofs.Steps.{on_err_holds}
use Rattle.pq_builds.proofs.Staging.{within_left}
use Rattle.pq_builds.proofs.build.run_completion.Goals as goal

pub returns-in_err-miscounted-in-None-clause-within : goal.returns-in_err-miscounted-in-None-clause-within
returns-in_err-miscounted-in-None-clause-within g c = on_err_holds c.from_residual-in_err-miscounted-in-None.result (within_left _ _ (rw c.in-None.is at c.in_ok-counted.ensures.takes))

pub returns-in_ok-miscounted-in-None-clause-within : goal.returns-in_ok-miscounted-in-None-clause-within
returns-in_ok-miscounted-in-None-clause-within g c = within_left _ _ (rw c.in-None.is at c.in_ok-counted.ensures.takes)
