use Rattle.std.proofs.Common.{◌∙◌}
use Rattle.pq_builds.proofs.Staging.{counted_none, counted_some}
use Rattle.pq_builds.proofs.count.count_rows.Goals as goal

pub returns-then-count-gt-MOST_ROWS-clause-counted : goal.returns-then-count-gt-MOST_ROWS-clause-counted
returns-then-count-gt-MOST_ROWS-clause-counted g c =
    counted_none c.args.table c.in-Ok.count c.items.result.now c.items-2.result.now (g.S.Store.content c.args.store.now) (c.items.ensures ∙ c.in_ok-low.ensures) (c.items-2.ensures ∙ c.in_ok-high.ensures) c.if-count-gt-MOST_ROWS.true c.in-Ok.ensures.answer

pub returns-clause-counted : goal.returns-clause-counted
returns-clause-counted g c =
    counted_some c.args.table c.in-Ok.count c.items.result.now c.items-2.result.now (g.S.Store.content c.args.store.now) (c.items.ensures ∙ c.in_ok-low.ensures) (c.items-2.ensures ∙ c.in_ok-high.ensures) c.if-count-gt-MOST_ROWS.false c.in-Ok.ensures.answer
