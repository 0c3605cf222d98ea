use Rattle.std.proofs.Common.{◌≡◌, map, take}
use Rattle.pq_arrange.specs.Moves.{move}
use Rattle.pq_arrange.proofs.moves.move_columns.Given as goal

abbrev pub invariant-loop-column : goal.invariant-loop-column
invariant-loop-column l = l.moved ≡ map (move l.order) (take l.column-index l.columns)
