use Rattle.pq_tallies.proofs.Effects.{tally_comes, tally_goes, tally_stays}
use Rattle.pq_tallies.proofs.laws.tally_laws.Goals as goal

pub returns-clause-comes : goal.returns-clause-comes
returns-clause-comes c = tally_comes

pub returns-clause-goes : goal.returns-clause-goes
returns-clause-goes c = λ tables rows counter t key old values keeps found. tally_goes tables rows counter t key old values keeps found

pub returns-clause-stays : goal.returns-clause-stays
returns-clause-stays c = λ tables rows counter t key old new values keeps found same. tally_stays tables rows counter t key old new values keeps found same
