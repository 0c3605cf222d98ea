use Rattle.std.proofs.lemmas.Option.{same_Some}
use Rattle.pq_frozen.proofs.Still.{opened, open_no_memory}
use Rattle.pq_frozen.proofs.reading.open_frozen.Goals as goal

pub returns-clause-still : goal.returns-clause-still
returns-clause-still g c = λ quiet. same_Some _ _ (c.start.ensures.rests quiet)

pub returns-clause-opened : goal.returns-clause-opened
returns-clause-opened g c = opened _ _ c.start.result c.start.ensures.opened c.start.ensures.stands

pub returns-clause-no_memory : goal.returns-clause-no_memory
returns-clause-no_memory g c = open_no_memory _ c.start.result c.start.ensures.cause c.start.ensures.damage
