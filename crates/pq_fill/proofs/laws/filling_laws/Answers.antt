use Rattle.pq_fill.proofs.Places.{statements_long, kinds_long}
use Rattle.pq_fill.proofs.Totals.{begins, goes_on, totals}
use Rattle.pq_fill.proofs.laws.filling_laws.Goals as goal

pub returns-clause-statements : goal.returns-clause-statements
returns-clause-statements c = statements_long

pub returns-clause-kinds : goal.returns-clause-kinds
returns-clause-kinds c = kinds_long

pub returns-clause-begins : goal.returns-clause-begins
returns-clause-begins c = begins

pub returns-clause-goes_on : goal.returns-clause-goes_on
returns-clause-goes_on c = goes_on

pub returns-clause-totals : goal.returns-clause-totals
returns-clause-totals c = totals
