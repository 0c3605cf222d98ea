use Rattle.pq_pending.proofs.Lists.{seen_none}
use Rattle.pq_counters.proofs.read.stored_group.Goals as goal

pub returns-clause-asks : goal.returns-clause-asks
returns-clause-asks g c = rw (c.none-pending.ensures, seen_none (g.S.Store.content c.args.store.now), seen_none (g.S.Store.content c.group_behind.new.store)) at c.group_behind.ensures.asks

pub returns-clause-counted : goal.returns-clause-counted
returns-clause-counted g c = rw (c.none-pending.ensures, seen_none (g.S.Store.content c.args.store.now)) at c.group_behind.ensures.counted
