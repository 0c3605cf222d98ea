use Rattle.std.proofs.Common.{◌∙◌, length, min, ap, sym}
use Rattle.pq_store.specs.Content.{pairs_within}
use Rattle.pq_store.proofs.Views.{seen_within}
use Rattle.pq_mem_store.proofs.pair_tree.PairTree.number.Goals as goal

pub returns : goal.returns
returns c = c.number.ensures ∙ ap (λ ps. min c.args.cap (length ps)) (sym (seen_within c.args.low.now c.args.high.now c.self.inside.runs c.self.invariant)
    ∙ ap (λ content. pairs_within content c.args.low.now c.args.high.now) c.self.view_is)
