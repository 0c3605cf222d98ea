use Rattle.std.proofs.Common.{◌∙◌, sym}
use Rattle.pq_mem_store.specs.Split.{first_late}
use Rattle.pq_mem_store.proofs.Split.{get_early, get_late}
use Rattle.pq_mem_store.proofs.mem.MemStore.find.Goals as goal

pub returns-then-is_late : goal.returns-then-is_late
returns-then-is_late c = rw (← c.self.view_is)
    (c.find.ensures ∙ sym (get_late first_late c.self.inside.early c.self.inside.late c.self.invariant c.args.key.now (sym c.is_late.ensures ∙ c.if-is_late.true)))

pub returns-else-is_late : goal.returns-else-is_late
returns-else-is_late c = rw (← c.self.view_is)
    (c.find-else-is_late.ensures ∙ sym (get_early first_late c.self.inside.early c.self.inside.late c.self.invariant c.args.key.now (sym c.is_late.ensures ∙ c.if-is_late.false)))
