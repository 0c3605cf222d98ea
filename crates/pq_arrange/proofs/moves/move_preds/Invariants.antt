use Rattle.std.proofs.Common.{◌≡◌, map, take}
use Rattle.pq_arrange.specs.Moves.{move_pred}
use Rattle.pq_arrange.proofs.moves.move_preds.Given as goal

abbrev pub invariant-loop-pred : goal.invariant-loop-pred
invariant-loop-pred l = l.moved ≡ map (move_pred l.order) (take l.pred-index l.preds)
