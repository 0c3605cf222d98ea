use Rattle.std.proofs.Common.{true, false}
use Rattle.pq_arrange.proofs.Choosing.{again_resolved}
use Rattle.pq_arrange.proofs.arrange.bounded.Goals as goal

pub is_bounded-requires : goal.is_bounded-requires
is_bounded-requires c = again_resolved c.args.catalog.now.tables c.args.query.now false c.in_ok-plain.field-0.query c.requires c.in_ok-plain.ensures.query

pub is_bounded-requires-2 : goal.is_bounded-requires-2
is_bounded-requires-2 c = again_resolved c.args.catalog.now.tables c.args.query.now true c.in_ok-closed.field-0.query c.requires c.in_ok-closed.ensures.query
