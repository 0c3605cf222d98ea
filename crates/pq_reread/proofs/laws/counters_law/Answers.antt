use Rattle.pq_reread.proofs.Counters.{counter_back}
use Rattle.pq_reread.proofs.CountersAgain.{counter_says, counter_defined, counter_later}
use Rattle.pq_reread.proofs.laws.counters_law.Goals as goal

pub returns-clause-said : goal.returns-clause-said
returns-clause-said c = counter_back

pub returns-clause-made : goal.returns-clause-made
returns-clause-made c = counter_says

pub returns-clause-defined : goal.returns-clause-defined
returns-clause-defined c = counter_defined

pub returns-clause-later : goal.returns-clause-later
returns-clause-later c = counter_later
