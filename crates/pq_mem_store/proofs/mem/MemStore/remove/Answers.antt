use Rattle.std.proofs.Common.{◌∙◌, ap, sym, subst, IsTrue}
use Rattle.std.specs.FinMap.{entries}
use Rattle.pq_mem_store.specs.Split.{are_before, are_from, both_contents, first_late}
use Rattle.pq_mem_store.proofs.Split.{are_removed_early, are_removed_late, remove_early, remove_late}
use Rattle.pq_mem_store.proofs.mem.MemStore.remove.Goals as goal

pub invariant_of-self : goal.invariant_of-self
invariant_of-self c = (
  c.self.invariant.0,
  subst (λ m. IsTrue (are_from first_late (entries m))) (sym c.take_out.ensures)
      (are_removed_late first_late c.self.inside.early c.self.inside.late c.self.invariant c.args.key.now),
)

pub invariant_of-self-else-is_late : goal.invariant_of-self-else-is_late
invariant_of-self-else-is_late c = (
  subst (λ m. IsTrue (are_before first_late (entries m))) (sym c.take_out-else-is_late.ensures)
      (are_removed_early first_late c.self.inside.early c.self.inside.late c.self.invariant c.args.key.now),
  c.self.invariant.1,
)

pub returns-then-is_late : goal.returns-then-is_late
returns-then-is_late c = rw (← c.self.view_is) (ap (both_contents c.self.inside.early) c.take_out.ensures
    ∙ remove_late first_late c.self.inside.early c.self.inside.late c.self.invariant c.args.key.now (sym c.is_late.ensures ∙ c.if-is_late.true))

pub returns-else-is_late : goal.returns-else-is_late
returns-else-is_late c = rw (← c.self.view_is) (ap (λ m. both_contents m c.self.inside.late) c.take_out-else-is_late.ensures
    ∙ remove_early first_late c.self.inside.early c.self.inside.late c.self.invariant c.args.key.now (sym c.is_late.ensures ∙ c.if-is_late.false))
