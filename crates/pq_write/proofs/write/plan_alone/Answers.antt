use Rattle.pq_calls.specs.World.{where_told}
use Rattle.pq_counters.specs.Evidence.{ShowsCounted}
use Rattle.pq_counters.proofs.Joining.{left_for_changes}
use Rattle.pq_write.proofs.Alone.{alone_answer, alone_answered, alone_asks, alone_cause, alone_own, alone_reads, alone_share, alone_undamaged, few_ahead}
use Rattle.pq_write.proofs.write.plan_alone.Goals as goal

pub plan_whole-requires-clause-few : goal.plan_whole-requires-clause-few
plan_whole-requires-clause-few g c = few_ahead c.none-pending.result c.none-pending.ensures

pub plan_whole-requires-clause-share : goal.plan_whole-requires-clause-share
plan_whole-requires-clause-share g c = alone_share c.none-pending.result c.none-pending.ensures c.args.catalog.now c.args.write.now _ c.requires.share

pub returns-clause-reads : goal.returns-clause-reads
returns-clause-reads g c = alone_reads c.none-pending.result c.none-pending.ensures c.args.catalog.now c.args.write.now _ _ _ _ _ _ _ _ c.plan_whole.ensures.reads

pub returns-clause-left : goal.returns-clause-left
returns-clause-left g c =
    left_for_changes c.args.catalog.now c.args.write.now _ _ (alone_reads c.none-pending.result c.none-pending.ensures c.args.catalog.now c.args.write.now _ _ _ _ _ _ _ _ c.plan_whole.ensures.reads) c.requires.share

pub returns-clause-cause : goal.returns-clause-cause
returns-clause-cause g c = alone_cause c.none-pending.result c.none-pending.ensures (where_told (ShowsCounted c.args.catalog.now)) _ _ _ _ _ _ _ _ _ _ c.plan_whole.result c.plan_whole.ensures.reads c.plan_whole.ensures.cause

pub returns-clause-answered : goal.returns-clause-answered
returns-clause-answered g c = alone_answered c.none-pending.result c.none-pending.ensures g.S.Store.answers c.plan_whole.result c.plan_whole.ensures.answered

pub returns-clause-undamaged : goal.returns-clause-undamaged
returns-clause-undamaged g c = alone_undamaged c.none-pending.result c.none-pending.ensures c.args.catalog.now _ c.plan_whole.result c.plan_whole.ensures.undamaged

pub returns-clause-answer : goal.returns-clause-answer
returns-clause-answer g c = alone_answer c.none-pending.result c.none-pending.ensures c.args.catalog.now c.args.write.now _ c.plan_whole.result c.plan_whole.ensures.answer

pub returns-clause-own : goal.returns-clause-own
returns-clause-own g c = alone_own c.none-pending.result c.none-pending.ensures c.args.catalog.now c.args.write.now _ c.plan_whole.result c.plan_whole.ensures.own

pub returns-clause-rounds : goal.returns-clause-rounds
returns-clause-rounds g c = alone_asks c.none-pending.result c.none-pending.ensures c.args.catalog.now c.args.write.now _ _ c.plan_whole.ensures.rounds
