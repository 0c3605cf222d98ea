use Rattle.pq_shape.proofs.Places.{keyword_among}
use Rattle.pq_shape.proofs.next.keyword.Goals as goal

pub keyword_among-requires-clause-among : goal.keyword_among-requires-clause-among
keyword_among-requires-clause-among c = keyword_among c.args.bytes.now c.capital.result c.letter_places-from.result.0 c.letter_places-from.result.1 c.capital.ensures c.letter_places-from.ensures.places
