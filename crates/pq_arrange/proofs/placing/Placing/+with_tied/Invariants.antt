use Rattle.std.proofs.Common.{◌-◌}
use Rattle.pq_arrange.proofs.placing.Placing.+with_tied.Given as goal

abbrev pub decreases-with_tied : goal.decreases-with_tied
decreases-with_tied l = l.columns - l.col
