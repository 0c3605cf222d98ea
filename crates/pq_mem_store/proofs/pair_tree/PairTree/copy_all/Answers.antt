use Rattle.std.proofs.Common.{◌++◌, ◌∙◌, map, ap, sym}
use Rattle.std.specs.FinMap.{entries}
use Rattle.pq_store.specs.Content.{entry}
use Rattle.pq_store.proofs.Views.{seen_entries}
use Rattle.pq_mem_store.proofs.Split.{on_ok}
use Rattle.pq_mem_store.proofs.pair_tree.PairTree.copy_all.Goals as goal

pub returns : goal.returns
returns c = on_ok c.copy_all.result (λ is. is ∙ ap (λ ps. map entry c.args.copies.now ++ ps) (sym (seen_entries c.self.inside.runs c.self.invariant) ∙ ap entries c.self.view_is)) c.copy_all.ensures
