use Rattle.pq_builds.proofs.Filled.{built_holds, marks_over}
use Rattle.pq_builds.proofs.laws.built_law.Goals as goal

pub returns-clause-holds : goal.returns-clause-holds
returns-clause-holds c = built_holds

pub returns-clause-marks : goal.returns-clause-marks
returns-clause-marks c = marks_over
