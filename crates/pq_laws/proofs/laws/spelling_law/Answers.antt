use Rattle.pq_laws.proofs.Spelling.{spelled_asks, none_asks}
use Rattle.pq_laws.proofs.laws.spelling_law.Goals as goal

pub returns-clause-spelled : goal.returns-clause-spelled
returns-clause-spelled c schema text whole few spells = spelled_asks schema text whole few spells

pub returns-clause-fault : goal.returns-clause-fault
returns-clause-fault c schema text few none = none_asks schema text few none
