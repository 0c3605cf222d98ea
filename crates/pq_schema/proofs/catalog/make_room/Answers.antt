use Rattle.pq_schema.proofs.Numbered.{same_texts}
use Rattle.pq_schema.proofs.catalog.make_room.Goals as goal

pub returns-clause-numbers : goal.returns-clause-numbers
returns-clause-numbers g c = same_texts c.args.numbers.now c.reserve-2.new.self c.in_ok-reserve-2.ensures.entries.2
