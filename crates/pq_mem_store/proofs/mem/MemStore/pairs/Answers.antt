use Rattle.std.proofs.Common.{◌++◌, ◌∙◌, ap, sym, map}
use Rattle.std.specs.FinMap.{entries}
use Rattle.pq_store.specs.Content.{entry}
use Rattle.pq_mem_store.specs.Split.{first_late}
use Rattle.pq_mem_store.proofs.Split.{entries_both}
use Rattle.pq_mem_store.proofs.mem.MemStore.pairs.Goals as goal

pub returns : goal.returns
returns c = rw (← c.self.view_is) (c.in_ok-copy_all-2.ensures
    ∙ ap (λ pairs. pairs ++ entries c.self.inside.late) (c.in_ok-copy_all.ensures ∙ ap (λ pairs. map entry pairs ++ entries c.self.inside.early) c.new-pairs.ensures)
    ∙ sym (entries_both first_late c.self.inside.early c.self.inside.late c.self.invariant))
