use Rattle.pq_arrange.proofs.placing.Placing.+placed_after.Given as goal

abbrev pub decreases-placed_after : goal.decreases-placed_after
decreases-placed_after l = l.count
