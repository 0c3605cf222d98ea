use Rattle.pq_store.proofs.Views.{part_of}
use Rattle.pq_mem_store.proofs.mem.MemStoreStore.range.Goals as goal

pub returns-in-Ok-clause-part : goal.returns-in-Ok-clause-part
returns-in-Ok-clause-part g c = rw c.in-Ok.ensures (part_of _ _ _ _)
