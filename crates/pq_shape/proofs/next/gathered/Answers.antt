use Rattle.std.proofs.Common.{ap, ◌∙◌}
use Rattle.pq_shape.specs.Shapes.{utf8_text}
use Rattle.pq_shape.proofs.Made.{checked_is}
use Rattle.pq_shape.proofs.next.gathered.Goals as goal

pub returns : goal.returns
returns c = checked_is c.from_vec.result c.into_vec.result.items c.from_vec.ensures ∙ ap utf8_text c.into_vec.ensures
