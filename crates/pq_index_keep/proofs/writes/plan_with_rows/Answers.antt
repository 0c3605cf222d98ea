use Rattle.pq_pending.specs.Calls.{seen_world}
use Rattle.pq_pending.specs.Pending.{seen_content}
use Rattle.pq_calls.specs.World.{world, where_told}
use Rattle.pq_calls.specs.Evidence.{IsNoRow}
use Rattle.pq_calls.proofs.Steps.{explained_undamaged}
use Rattle.pq_index_keep.proofs.Deleting.{undamaged}
use Rattle.pq_index_keep.proofs.Narrow.{valid_writable}
use Rattle.pq_index_keep.proofs.writes.plan_with_rows.Goals as goal

pub plan_by-requires-clause-sound : goal.plan_by-requires-clause-sound
plan_by-requires-clause-sound g c = valid_writable c.known.ensures

pub returns-in-Err-clause-undamaged : goal.returns-in-Err-clause-undamaged
returns-in-Err-clause-undamaged g c = λ rows others s.
    let told = seen_content c.args.pending.now.changes (g.S.Store.content c.args.store.now) in
    explained_undamaged (where_told (IsNoRow c.args.catalog.now.tables)) (world told (g.S.Store.faults c.args.store.now) c.args.allowance.now c.args.meter.now)
    (seen_world g.S.Store.content g.S.Store.faults c.plan_by.new.calls) c.in-Err.error (undamaged c.args.catalog.now.tables rows others told s) c.in-Err.ensures.stops.cause
