use Rattle.std.proofs.Common.{◌∙◌}
use Rattle.pq_builds.proofs.Staging.{taken}
use Rattle.pq_builds.proofs.build.mark.Goals as goal

pub returns-in-Ok-false-clause-shown : goal.returns-in-Ok-false-clause-shown
returns-in-Ok-false-clause-shown g c =
    taken c.args.query.now c.in_ok-key.key c.items-2.result.now c.in-Ok-false.field-0 (g.S.Store.content c.args.store.now) (c.in_ok-key.ensures ∙ c.items.ensures) c.items-2.ensures c.in-Ok-false.field-0-test c.in-Ok-false.ensures.answer
