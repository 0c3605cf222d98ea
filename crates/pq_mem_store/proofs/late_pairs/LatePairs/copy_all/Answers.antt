use Rattle.std.proofs.Common.{◌++◌, ◌∙◌, ap, sym, map, append_assoc}
use Rattle.std.specs.FinMap.{entries}
use Rattle.pq_store.specs.Content.{entry}
use Rattle.pq_mem_store.specs.Split.{first_number}
use Rattle.pq_mem_store.proofs.Split.{on_ok, entries_both}
use Rattle.pq_mem_store.proofs.late_pairs.LatePairs.copy_all.Goals as goal

pub returns : goal.returns
returns c = on_ok c.copy_all-2.result
    (λ copied. rw (← c.self.view_is) (copied ∙ ap (λ pairs. pairs ++ entries c.self.inside.numbers) c.in_ok-copy_all.ensures
    ∙ append_assoc (map entry c.args.copies.now) (entries c.self.inside.marks) (entries c.self.inside.numbers)
    ∙ ap (λ pairs. map entry c.args.copies.now ++ pairs) (sym (entries_both first_number c.self.inside.marks c.self.inside.numbers c.self.invariant))))
    c.copy_all-2.ensures
