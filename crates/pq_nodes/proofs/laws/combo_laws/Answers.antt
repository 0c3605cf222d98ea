use Rattle.pq_base.specs.declared.number.Choice.TheVariants.{Stop}
use Rattle.pq_plan.proofs.Choices.{choice_has}
use Rattle.pq_nodes.proofs.Fitting.{combo_fits, position_fits, stop_position_fits, selected_fits}
use Rattle.pq_nodes.proofs.Making.{apply_combos, makes_combos, gives_combos}
use Rattle.pq_nodes.proofs.Sizes.{apply_few, makes_few}
use Rattle.pq_nodes.proofs.laws.combo_laws.Goals as goal

pub returns : goal.returns
returns c = record {
  applied = apply_combos;
  made = makes_combos;
  given = gives_combos;
  few = λ tables query rows params after node inputs sound kept is. apply_few tables query rows params sound kept after node inputs is;
  few_made = λ tables query rows params after node inputs found sound kept is made. makes_few tables query rows params sound kept after node inputs found is made;
  fits = λ tables query rows params count combo sound kept few is. combo_fits tables query rows params sound kept count few combo is;
  positions = λ tables query rows params combo sound resolved fits. position_fits tables query sound resolved rows params combo fits;
  stop_positions = λ tables query rows params p combo sound resolved has fits. stop_position_fits tables query sound resolved rows params p (choice_has tables query (Stop p) has) combo fits;
  selection = λ tables query combo sound resolved fits. selected_fits tables query sound resolved combo fits;
}
