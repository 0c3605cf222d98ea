use Rattle.std.proofs.Common.{◌∙◌}
use Rattle.pq_define.proofs.Counting.{counted_between}
use Rattle.pq_define.proofs.counter.count_one.Goals as goal

pub returns-in-Ok-clause-counted : goal.returns-in-Ok-clause-counted
returns-in-Ok-clause-counted g c =
    counted_between c.args.table c.in-Ok.n c.items.result.now c.items-2.result.now (g.S.Store.content c.args.store.now) (c.items.ensures ∙ c.in_ok-low.ensures) (c.items-2.ensures ∙ c.in_ok-high.ensures) c.in-Ok.ensures.answer
