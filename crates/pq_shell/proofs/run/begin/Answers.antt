use Rattle.std.proofs.Common.{refl}
use Rattle.pq_shell.proofs.Opening.{begun_none}
use Rattle.pq_shell.proofs.run.begin.Goals as goal

pub returns-in-Check-clause-ok : goal.returns-in-Check-clause-ok
returns-in-Check-clause-ok g c = rw c.in-Check.is (begun_none _ _ c.blank.ensures refl)
