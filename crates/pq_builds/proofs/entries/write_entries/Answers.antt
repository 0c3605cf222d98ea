use Rattle.std.proofs.Common.{◌<◌, length, arith}
use Rattle.pq_intent.proofs.Steps.{on_err_holds}
use Rattle.pq_builds.proofs.Following.{entries_more, entries_stop}
use Rattle.pq_builds.proofs.entries.write_entries.Goals as goal

pub returns-in_err-write_entry-clause-stopped : goal.returns-in_err-write_entry-clause-stopped
returns-in_err-write_entry-clause-stopped g c =
    let within : c.loop-pair.pair-index < length c.args.pairs.now = omega arith in
    on_err_holds c.from_residual.result (entries_stop c.args.target.now c.args.pairs.now c.loop-pair.pair-index c.pair-item.result _ _ _ within c.pair-item.is c.loop-pair.invariant.enters c.in_err-write_entry.ensures.stopped)

pub loop-pair-preserved : goal.loop-pair-preserved
loop-pair-preserved g c =
    let within : c.loop-pair.pair-index < length c.args.pairs.now = omega arith in
    record {
      enters = entries_more c.args.target.now c.args.pairs.now c.loop-pair.pair-index c.pair-item.result _ _ _ within c.pair-item.is c.loop-pair.invariant.enters c.in_ok-write_entry.ensures.enters;
      each = omega (arith, c.in_ok-write_entry.ensures.one);
      entries = omega arith;
      untold = λ none. c.write_entry.ensures.leaves.untold (c.loop-pair.invariant.untold none);
      later = omega (arith, c.write_entry.ensures.leaves.cause.later);
    }
