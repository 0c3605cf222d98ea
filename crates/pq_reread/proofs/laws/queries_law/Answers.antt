use Rattle.pq_reread.proofs.ReadBack.{resolved_back, later_back, defined_back}
use Rattle.pq_reread.proofs.laws.queries_law.Goals as goal

pub returns-clause-resolved : goal.returns-clause-resolved
returns-clause-resolved c = resolved_back

pub returns-clause-later : goal.returns-clause-later
returns-clause-later c = later_back

pub returns-clause-defined : goal.returns-clause-defined
returns-clause-defined c = defined_back
