use Rattle.pq_mem_store.specs.Split.{first_late}
use Rattle.pq_mem_store.proofs.Split.{are_none, both_none}
use Rattle.pq_mem_store.proofs.mem.MemStore.new.Goals as goal

pub invariant_of-result : goal.invariant_of-result
invariant_of-result c = rw (c.new.ensures, c.new-2.ensures) (are_none first_late)

pub returns : goal.returns
returns c = rw (c.new.ensures, c.new-2.ensures) (both_none first_late)
