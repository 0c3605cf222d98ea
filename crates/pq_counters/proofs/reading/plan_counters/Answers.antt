use Rattle.pq_pending.proofs.Lists.{seen_none}
use Rattle.pq_counters.proofs.reading.plan_counters.Goals as goal

pub returns-clause-asks : goal.returns-clause-asks
returns-clause-asks g c = rw (c.none-pending.ensures, seen_none (g.S.Store.content c.args.store.now), seen_none (g.S.Store.content c.plan_behind.new.store)) at c.plan_behind.ensures.asks

pub returns-clause-undamaged : goal.returns-clause-undamaged
returns-clause-undamaged g c = rw (c.none-pending.ensures, seen_none (g.S.Store.content c.args.store.now)) at c.plan_behind.ensures.undamaged

pub returns-clause-plan : goal.returns-clause-plan
returns-clause-plan g c = rw (c.none-pending.ensures, seen_none (g.S.Store.content c.args.store.now)) at c.plan_behind.ensures.plan
