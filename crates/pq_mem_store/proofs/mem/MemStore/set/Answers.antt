use Rattle.std.proofs.Common.{◌∙◌, sym}
use Rattle.pq_mem_store.specs.Split.{first_late}
use Rattle.pq_mem_store.proofs.Split.{put_in_early, put_in_late, early_put_is, late_put_is}
use Rattle.pq_mem_store.proofs.mem.MemStore.set.Goals as goal

pub invariant_of-self : goal.invariant_of-self
invariant_of-self c = put_in_late first_late c.self.inside.early c.self.inside.late c.self.invariant c.args.key.now c.args.value.now
    c.put.result c.put.new.self (sym c.is_late.ensures ∙ c.if-is_late.true) c.put.ensures.ok c.put.ensures.err

pub invariant_of-self-else-is_late : goal.invariant_of-self-else-is_late
invariant_of-self-else-is_late c = put_in_early first_late c.self.inside.early c.self.inside.late c.self.invariant c.args.key.now c.args.value.now
    c.put-else-is_late.result c.put-else-is_late.new.self (sym c.is_late.ensures ∙ c.if-is_late.false) c.put-else-is_late.ensures.ok c.put-else-is_late.ensures.err

pub returns-then-is_late-clause-ok : goal.returns-then-is_late-clause-ok
returns-then-is_late-clause-ok c = rw (← c.self.view_is) (late_put_is first_late c.self.inside.early c.self.inside.late c.self.invariant c.args.key.now c.args.value.now
    c.put.result c.put.new.self (sym c.is_late.ensures ∙ c.if-is_late.true) c.put.ensures.ok)

pub returns-else-is_late-clause-ok : goal.returns-else-is_late-clause-ok
returns-else-is_late-clause-ok c = rw (← c.self.view_is) (early_put_is first_late c.self.inside.early c.self.inside.late c.self.invariant c.args.key.now c.args.value.now
    c.put-else-is_late.result c.put-else-is_late.new.self (sym c.is_late.ensures ∙ c.if-is_late.false) c.put-else-is_late.ensures.ok)
