use Rattle.pq_content.proofs.Permuted.{pairs-IsPermutation}
use Rattle.pq_content.proofs.Unique.{rising_catalog, one_table}
use Rattle.pq_content.proofs.laws.standing_laws.Goals as goal

pub returns-clause-catalog : goal.returns-clause-catalog
returns-clause-catalog c = rising_catalog

pub returns-clause-rows : goal.returns-clause-rows
returns-clause-rows c = one_table

pub returns-clause-order : goal.returns-clause-order
returns-clause-order c tables rows others catalog keeps = pairs-IsPermutation tables rows others catalog keeps.fit keeps.apart
