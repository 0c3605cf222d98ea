use Rattle.std.proofs.Common.{◌∙◌, ap, sym}
use Rattle.pq_mem_store.specs.Runs.{others}
use Rattle.pq_store.proofs.Views.{rising_others}
use Rattle.pq_mem_store.proofs.block.BlockRun.take_out.Goals as goal

pub invariant_of-self : goal.invariant_of-self
invariant_of-self c = rising_others c.args.key.now c.self.inside.held.items c.take_from.new.held.items c.self.invariant (sym c.take_from.ensures)

pub returns : goal.returns
returns c = c.take_from.ensures ∙ ap (others c.args.key.now) c.self.view_is
