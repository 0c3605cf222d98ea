use Rattle.std.proofs.Common.{◌∙◌, ap, sym}
use Rattle.std.specs.FinMap.{get}
use Rattle.pq_store.proofs.Views.{seen_get}
use Rattle.pq_mem_store.proofs.pair_tree.PairTree.find.Goals as goal

pub returns : goal.returns
returns c = c.find.ensures ∙ sym (seen_get c.self.inside.runs c.args.key.now c.self.invariant) ∙ ap (λ content. get content c.args.key.now) c.self.view_is
