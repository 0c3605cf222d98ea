use Rattle.pq_reread.proofs.Added.{added_back}
use Rattle.pq_reread.proofs.AddedAgain.{addition_says, addition_back, addition_later}
use Rattle.pq_reread.proofs.laws.columns_law.Goals as goal

pub returns-clause-said : goal.returns-clause-said
returns-clause-said c = added_back

pub returns-clause-made : goal.returns-clause-made
returns-clause-made c = addition_says

pub returns-clause-defined : goal.returns-clause-defined
returns-clause-defined c = addition_back

pub returns-clause-later : goal.returns-clause-later
returns-clause-later c = addition_later
