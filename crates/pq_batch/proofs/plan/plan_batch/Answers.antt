use Rattle.std.proofs.Common.{length, ap, arith}
use Rattle.std.proofs.lemmas.Result.{IfOk-weaker}
use Rattle.pq_counters.proofs.Behind.{few_changes}
use Rattle.pq_batch.specs.Batches.{batch_changes}
use Rattle.pq_batch.proofs.Nexts.{plans_all}
use Rattle.pq_batch.proofs.Worlds.{batch_few}
use Rattle.pq_batch.proofs.plan.plan_batch.Goals as goal

pub plan_from-requires-clause-few : goal.plan_from-requires-clause-few
plan_from-requires-clause-few g c =
    let few = c.requires.batch.few in
    omega (
      arith,
      ap (λ ahead. length ahead.changes) c.none-pending.ensures,
      ap (batch_changes c.args.catalog.now) c.items.ensures,
      batch_few c.args.catalog.now (λ write may. few_changes c.args.catalog.now write c.known.ensures may) c.args.writes.now c.requires.batch.each,
    )

pub returns-clause-answer : goal.returns-clause-answer
returns-clause-answer g c =
    IfOk-weaker c.plan_from.result _ _ (λ result plans. plans_all c.args.catalog.now (g.S.Store.content c.args.store.now) c.none-pending.result c.args.writes.now c.items.result.now result c.none-pending.ensures c.items.ensures plans) c.plan_from.ensures.answer
