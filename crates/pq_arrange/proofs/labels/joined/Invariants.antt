use Rattle.std.proofs.Common.{◌≡◌, map, take}
use Rattle.pq_arrange.specs.Labels.{relabelled_column}
use Rattle.pq_arrange.proofs.labels.joined.Given as goal

abbrev pub invariant-loop-label : goal.invariant-loop-label
invariant-loop-label l = l.found ≡ map (relabelled_column l.class l.gone) (take l.label-index l.labels)
