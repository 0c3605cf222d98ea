use Rattle.std.proofs.Common.{◌∙◌, ap, sym, subst, IsTrue}
use Rattle.std.specs.FinMap.{entries}
use Rattle.pq_mem_store.specs.Split.{first_number, are_before, are_from, both_contents}
use Rattle.pq_mem_store.proofs.Split.{are_removed_early, are_removed_late, remove_early, remove_late}
use Rattle.pq_mem_store.proofs.late_pairs.LatePairs.take_out.Goals as goal

pub invariant_of-self : goal.invariant_of-self
invariant_of-self c = (
  c.self.invariant.0,
  subst (λ m. IsTrue (are_from first_number (entries m))) (sym c.take_out.ensures)
      (are_removed_late first_number c.self.inside.marks c.self.inside.numbers c.self.invariant c.args.key.now),
)

pub invariant_of-self-else-is_number : goal.invariant_of-self-else-is_number
invariant_of-self-else-is_number c = (
  subst (λ m. IsTrue (are_before first_number (entries m))) (sym c.take_out-else-is_number.ensures)
      (are_removed_early first_number c.self.inside.marks c.self.inside.numbers c.self.invariant c.args.key.now),
  c.self.invariant.1,
)

pub returns-then-is_number : goal.returns-then-is_number
returns-then-is_number c = rw (← c.self.view_is) (ap (both_contents c.self.inside.marks) c.take_out.ensures
    ∙ remove_late first_number c.self.inside.marks c.self.inside.numbers c.self.invariant c.args.key.now (sym c.is_number.ensures ∙ c.if-is_number.true))

pub returns-else-is_number : goal.returns-else-is_number
returns-else-is_number c = rw (← c.self.view_is) (ap (λ m. both_contents m c.self.inside.numbers) c.take_out-else-is_number.ensures
    ∙ remove_early first_number c.self.inside.marks c.self.inside.numbers c.self.invariant c.args.key.now (sym c.is_number.ensures ∙ c.if-is_number.false))
