use Rattle.pq_reread.proofs.Orders.{none_orderly, table_orderly, valid_orderly}
use Rattle.pq_reread.proofs.laws.orderly_law.Goals as goal

pub returns-clause-none : goal.returns-clause-none
returns-clause-none c = none_orderly

pub returns-clause-one_more : goal.returns-clause-one_more
returns-clause-one_more c = table_orderly

pub returns-clause-valid : goal.returns-clause-valid
returns-clause-valid c schema valid = valid_orderly valid
