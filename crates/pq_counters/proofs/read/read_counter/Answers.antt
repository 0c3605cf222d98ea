use Rattle.std.proofs.lemmas.Result.{err_from_is_err_and}
use Rattle.pq_calls.specs.World.{world, where_told}
use Rattle.pq_calls.proofs.Steps.{explained_undamaged}
use Rattle.pq_tallies.specs.Counters.{counter_key, tally}
use Rattle.pq_tallies.specs.Defined.{counter_numbered}
use Rattle.pq_tallies.proofs.Defined.{numbered_in}
use Rattle.pq_counters.specs.Evidence.{IsNoCount}
use Rattle.pq_counters.proofs.Showing.{none_counted, count_explains}
use Rattle.pq_counters.proofs.Told.{told_is, tells_count}
use Rattle.pq_counters.proofs.read.read_counter.Goals as goal

pub returns-in_err-group-clause-undamaged : goal.returns-in_err-group-clause-undamaged
returns-in_err-group-clause-undamaged g c =
    let p = err_from_is_err_and c.from_residual-in_err-group.result c.from_residual-in_err-group.ensures.1 in
    let schema = c.args.catalog.now in
    let counter = counter_numbered schema c.args.number in
    let told = g.S.Store.content c.args.store.now in
    let before = world told (g.S.Store.faults c.args.store.now) c.args.allowance.now c.args.meter.now in
    let after = world (g.S.Store.content c.stored_group.new.store) (g.S.Store.faults c.stored_group.new.store) c.stored_group.new.allowance c.stored_group.new.meter in
    rw (p.1, p.2) (λ rows others s.
    explained_undamaged (where_told (IsNoCount schema.tables counter)) before after c.in_err-group.field-0.0
    (none_counted told schema rows others s c.known.ensures counter (numbered_in schema c.args.number c.requires.number))
    (count_explains schema.tables counter c.args.values.now c.requires.kinds before after c.in_err-group.field-0.0 (rw c.in_ok-at.ensures at c.in_err-group.ensures.asks.cause)))

pub returns-clause-stored : goal.returns-clause-stored
returns-clause-stored g c = rw c.in_ok-at.ensures at c.in_ok-group.ensures.counted

pub returns-clause-answer : goal.returns-clause-answer
returns-clause-answer g c = λ rows others s.
    let schema = c.args.catalog.now in
    let counter = counter_numbered schema c.args.number in
    let values = c.args.values.now in
    let told = g.S.Store.content c.args.store.now in
    told_is told (counter_key counter.number values) c.in_ok-group.group.count (tally rows counter values)
    (rw c.in_ok-at.ensures at c.in_ok-group.ensures.counted) c.in_ok-group.ensures.few
    (tells_count told schema rows others counter values c.known.ensures s (numbered_in schema c.args.number c.requires.number) c.requires.kinds)
