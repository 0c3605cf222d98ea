use Rattle.std.proofs.lemmas.Result.{IfErr-weaker}
use Rattle.pq_pending.specs.Calls.{seen_world}
use Rattle.pq_counters.specs.Planning.{behind_world}
use Rattle.pq_counters.proofs.Showing.{undamaged_over}
use Rattle.pq_counters.proofs.reading.plan_behind.Goals as goal

pub returns-clause-undamaged : goal.returns-clause-undamaged
returns-clause-undamaged g c =
    IfErr-weaker c.plan_reading.result _ _
    (undamaged_over c.args.catalog.now c.known.ensures (behind_world g.S.Store c.args.pending.now.changes c.args.store.now c.args.allowance.now c.args.meter.now) (seen_world g.S.Store.content g.S.Store.faults c.plan_reading.new.calls))
    c.plan_reading.ensures.asks.cause
