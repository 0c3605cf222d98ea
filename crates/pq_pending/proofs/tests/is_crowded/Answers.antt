use Rattle.pq_pending.proofs.Held.{crowded_is}
use Rattle.pq_pending.proofs.tests.is_crowded.Goals as goal

pub returns-in-Full : goal.returns-in-Full
returns-in-Full c =
    crowded_is c.args.pending.now.changes c.args.test.now c.in-Full.ends _ c.items.result.now c.items-in-Full.result.now c.is_within.result c.in-Full.is c.items.ensures c.items-in-Full.ensures c.is_within.ensures
