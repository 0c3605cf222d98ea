use Rattle.std.proofs.Common.{sym, ◌∙◌}
use Rattle.pq_parts.proofs.Put.{put_set, put_kept}
use Rattle.pq_parts.proofs.asking.put_answer.Goals as goal

pub returns-then-is_some : goal.returns-then-is_some
returns-then-is_some g c = put_set c.args.asked.now c.args.at c.index-asked-at.result c.args.answer c.args.found.now.items c.requires.asked c.index-asked-at.is (sym c.is_some.ensures ∙ c.if-is_some.true)

pub returns-else-is_some : goal.returns-else-is_some
returns-else-is_some g c = put_kept c.args.asked.now c.args.at c.index-asked-at.result c.args.answer c.args.found.now.items c.requires.asked c.index-asked-at.is (sym c.is_some.ensures ∙ c.if-is_some.false)
