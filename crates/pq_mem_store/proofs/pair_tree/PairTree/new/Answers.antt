use Rattle.std.proofs.Common.{◌∙◌, ap, sym, subst, IsTrue, refl}
use Rattle.pq_store.specs.Content.{is_rising}
use Rattle.pq_store.proofs.Views.{seen, seen_none}
use Rattle.pq_mem_store.proofs.pair_tree.PairTree.new.Goals as goal

pub invariant_of-result : goal.invariant_of-result
invariant_of-result c = subst (λ ps. IsTrue (is_rising ps)) (sym c.new.ensures) refl

pub returns : goal.returns
returns c = ap seen c.new.ensures ∙ seen_none
