use Rattle.pq_calls.specs.World.{where_told}
use Rattle.pq_counters.specs.Evidence.{ShowsCounted}
use Rattle.pq_batch.proofs.Worlds.{plain_causes}
use Rattle.pq_batch.proofs.plan.plan_next.Goals as goal

pub returns-clause-cause : goal.returns-clause-cause
returns-clause-cause g c =
    plain_causes c.args.pending.now.changes (g.S.Store.content c.args.calls.now.store.now) (g.S.Store.content c.plan_whole.new.store) (g.S.Store.faults c.args.calls.now.store.now) (g.S.Store.faults c.plan_whole.new.store)
    c.args.calls.now.allowance.now c.plan_whole.new.allowance c.args.calls.now.meter.now c.plan_whole.new.meter (where_told (ShowsCounted c.args.catalog.now)) c.plan_whole.result c.plan_whole.ensures.cause
