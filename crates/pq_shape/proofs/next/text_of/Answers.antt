use Rattle.pq_shape.proofs.Made.{checked_is}
use Rattle.pq_shape.proofs.next.text_of.Goals as goal

pub returns : goal.returns
returns c = checked_is c.in_ok-found.found c.args.bytes.now c.in_ok-found.ensures
