use Rattle.std.proofs.Common.{◌∙◌}
use Rattle.pq_index_scan.proofs.Parts.{all_behind}
use Rattle.pq_index_scan.proofs.limit.all_parts.Goals as goal

pub returns-clause-parts : goal.returns-clause-parts
returns-clause-parts g c =
    all_behind (g.S.Store.content c.args.calls.now.store.now) c.args.request.now.catalog.now.tables c.args.request.now.query.now c.args.request.now.params.now c.args.range.now c.args.inputs.now c.items.result.now
    (c.items.ensures ∙ c.in_ok-asks.ensures) c.ranges-2.result c.ranges-2.ensures.answer c.ranges-2.ensures.parts
