use Rattle.std.proofs.lemmas.Option.{same_Some}
use Rattle.pq_frozen.proofs.Still.{answered, answer_no_memory}
use Rattle.pq_frozen.proofs.reading.answer.Goals as goal

pub returns-clause-still : goal.returns-clause-still
returns-clause-still g c = λ reads. same_Some _ _ (c.statement.ensures.reads reads)

pub returns-clause-answered : goal.returns-clause-answered
returns-clause-answered g c = answered _ _ c.args.session c.args.number c.args.piece.now c.statement.result c.statement.ensures.matches c.statement.ensures.made

pub returns-clause-no_memory : goal.returns-clause-no_memory
returns-clause-no_memory g c = answer_no_memory _ c.args.session c.statement.result c.statement.ensures.cause c.statement.ensures.damage
