use Rattle.std.proofs.Common.{◌∙◌}
use Rattle.pq_intent.proofs.Ends.{put_made, there_already}
use Rattle.pq_intent.proofs.commits.put_intent.Goals as goal

pub returns-in-Ok-false-clause-damage : goal.returns-in-Ok-false-clause-damage
returns-in-Ok-false-clause-damage g c = there_already (g.S.Store.content c.args.store.now) c.args.key c.items.result.now c.in-Ok-false.field-0 c.requires.key c.items.ensures c.in-Ok-false.field-0-test c.in-Ok-false.ensures.answer

pub returns-in-Ok-true-clause-made : goal.returns-in-Ok-true-clause-made
returns-in-Ok-true-clause-made g c = put_made (g.S.Store.content c.args.store.now) _ c.items.result.now c.args.code.now c.in-Ok-true.field-0 c.in-Ok-true.field-0-test (c.items.ensures ∙ c.requires.key) c.in-Ok-true.ensures.answer c.in-Ok-true.ensures.content
