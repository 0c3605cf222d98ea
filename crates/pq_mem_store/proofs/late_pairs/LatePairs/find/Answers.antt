use Rattle.std.proofs.Common.{◌∙◌, sym}
use Rattle.pq_mem_store.specs.Split.{first_number}
use Rattle.pq_mem_store.proofs.Split.{get_early, get_late}
use Rattle.pq_mem_store.proofs.late_pairs.LatePairs.find.Goals as goal

pub returns-then-is_number : goal.returns-then-is_number
returns-then-is_number c = rw (← c.self.view_is)
    (c.find.ensures ∙ sym (get_late first_number c.self.inside.marks c.self.inside.numbers c.self.invariant c.args.key.now (sym c.is_number.ensures ∙ c.if-is_number.true)))

pub returns-else-is_number : goal.returns-else-is_number
returns-else-is_number c = rw (← c.self.view_is)
    (c.find-else-is_number.ensures ∙ sym (get_early first_number c.self.inside.marks c.self.inside.numbers c.self.invariant c.args.key.now (sym c.is_number.ensures ∙ c.if-is_number.false)))
