use Rattle.std.proofs.Common.{◌∙◌, sym}
use Rattle.pq_mem_store.specs.Split.{first_late}
use Rattle.pq_mem_store.proofs.Split.{on_ok_value, number_late, number_early, number_both}
use Rattle.pq_mem_store.proofs.mem.MemStore.number.Goals as goal

pub returns-then-is_late : goal.returns-then-is_late
returns-then-is_late c = on_ok_value c.number.result
    (λ n is. rw (← c.self.view_is) (is ∙ number_late first_late c.self.inside.early c.self.inside.late c.self.invariant c.args.low.now c.args.high.now c.args.cap (sym c.is_late.ensures ∙ c.if-is_late.true)))
    c.number.ensures

pub returns-then-not-is_late : goal.returns-then-not-is_late
returns-then-not-is_late c = rw (← c.self.view_is)
    (c.number-early.ensures ∙ number_early first_late c.self.inside.early c.self.inside.late c.self.invariant c.args.low.now c.args.high.now c.args.cap
    (sym c.is_late-2.ensures ∙ c.if-not-is_late.true))

pub returns : goal.returns
returns c = rw (← c.self.view_is)
    (number_both first_late c.self.inside.early c.self.inside.late c.self.invariant c.args.low.now c.args.high.now c.args.cap _ _ c.number-early.ensures c.in_ok-number.ensures)
