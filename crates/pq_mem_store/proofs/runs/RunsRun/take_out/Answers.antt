use Rattle.std.proofs.Common.{◌∙◌, ap, sym}
use Rattle.std.specs.List.{flat_map}
use Rattle.pq_mem_store.specs.Runs.{others}
use Rattle.pq_store.proofs.Views.{rising_others}
use Rattle.pq_mem_store.proofs.runs.RunsRun.take_out.Goals as goal

pub invariant_of-self : goal.invariant_of-self
invariant_of-self g c = (
  c.take_from.ensures.have,
  rising_others c.args.key.now (flat_map g.R.Begins.pairs c.self.inside.runs.items) (flat_map g.R.Begins.pairs c.take_from.new.runs.items) c.self.invariant.1 (sym c.take_from.ensures.others),
)

pub returns : goal.returns
returns g c = c.take_from.ensures.others ∙ ap (others c.args.key.now) c.self.view_is
