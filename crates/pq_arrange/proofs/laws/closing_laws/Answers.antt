use Rattle.pq_arrange.proofs.Closes.{same_when_closed, classes_are_chains}
use Rattle.pq_arrange.proofs.ClosedQuery.{resolved_when_closed, no_more_predicates}
use Rattle.pq_arrange.proofs.laws.closing_laws.Goals as goal

pub returns : goal.returns
returns c = record { classes = classes_are_chains; combos = same_when_closed; resolved = resolved_when_closed; fewer = no_more_predicates }
