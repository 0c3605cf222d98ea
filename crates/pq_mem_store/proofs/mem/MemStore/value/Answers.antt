use Rattle.std.proofs.Common.{◌∙◌}
use Rattle.pq_mem_store.proofs.Split.{on_ok_value}
use Rattle.pq_mem_store.proofs.mem.MemStore.value.Goals as goal

pub returns : goal.returns
returns c = on_ok_value c.copied.result (λ found is. is ∙ c.find.ensures) c.copied.ensures
