use Rattle.std.proofs.Common.{◌∙◌, sym}
use Rattle.pq_mem_store.specs.Split.{first_number}
use Rattle.pq_mem_store.proofs.Split.{put_in_early, put_in_late, early_put_is, late_put_is}
use Rattle.pq_mem_store.proofs.late_pairs.LatePairs.put.Goals as goal

pub invariant_of-self : goal.invariant_of-self
invariant_of-self c = put_in_late first_number c.self.inside.marks c.self.inside.numbers c.self.invariant c.args.key.now c.args.value.now
    c.put.result c.put.new.self (sym c.is_number.ensures ∙ c.if-is_number.true) c.put.ensures.ok c.put.ensures.err

pub invariant_of-self-else-is_number : goal.invariant_of-self-else-is_number
invariant_of-self-else-is_number c = put_in_early first_number c.self.inside.marks c.self.inside.numbers c.self.invariant c.args.key.now c.args.value.now
    c.put-else-is_number.result c.put-else-is_number.new.self (sym c.is_number.ensures ∙ c.if-is_number.false) c.put-else-is_number.ensures.ok c.put-else-is_number.ensures.err

pub returns-then-is_number-clause-ok : goal.returns-then-is_number-clause-ok
returns-then-is_number-clause-ok c = rw (← c.self.view_is) (late_put_is first_number c.self.inside.marks c.self.inside.numbers c.self.invariant c.args.key.now c.args.value.now
    c.put.result c.put.new.self (sym c.is_number.ensures ∙ c.if-is_number.true) c.put.ensures.ok)

pub returns-else-is_number-clause-ok : goal.returns-else-is_number-clause-ok
returns-else-is_number-clause-ok c = rw (← c.self.view_is) (early_put_is first_number c.self.inside.marks c.self.inside.numbers c.self.invariant c.args.key.now c.args.value.now
    c.put-else-is_number.result c.put-else-is_number.new.self (sym c.is_number.ensures ∙ c.if-is_number.false) c.put-else-is_number.ensures.ok)
