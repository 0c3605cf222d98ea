use Rattle.pq_builds.proofs.Filled.{catalog_filling, rows_filling, intent_filling, one_set}
use Rattle.pq_builds.proofs.laws.filling_law.Goals as goal

pub returns-clause-catalog : goal.returns-clause-catalog
returns-clause-catalog c = catalog_filling

pub returns-clause-rows : goal.returns-clause-rows
returns-clause-rows c = rows_filling

pub returns-clause-no_intent : goal.returns-clause-no_intent
returns-clause-no_intent c = intent_filling

pub returns-clause-once : goal.returns-clause-once
returns-clause-once c = one_set
