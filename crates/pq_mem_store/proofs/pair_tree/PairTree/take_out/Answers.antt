use Rattle.std.proofs.Common.{◌∙◌, ap, sym}
use Rattle.std.specs.FinMap.{remove}
use Rattle.pq_store.proofs.Views.{seen_others, rising_others}
use Rattle.pq_mem_store.proofs.pair_tree.PairTree.take_out.Goals as goal

pub invariant_of-self : goal.invariant_of-self
invariant_of-self c = rising_others c.args.key.now c.self.inside.runs c.take_out.new.self c.self.invariant (sym c.take_out.ensures)

pub returns : goal.returns
returns c = seen_others c.args.key.now c.self.inside.runs c.take_out.new.self c.self.invariant (sym c.take_out.ensures) ∙ ap (λ content. remove content c.args.key.now) c.self.view_is
