use Rattle.pq_text.proofs.Cuts.{pieces_from-start, unfinished_from-start}
use Rattle.pq_text.proofs.laws.cutting_law.Goals as goal

pub returns-clause-pieces : goal.returns-clause-pieces
returns-clause-pieces c = pieces_from-start

pub returns-clause-rest : goal.returns-clause-rest
returns-clause-rest c = unfinished_from-start
