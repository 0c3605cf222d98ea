use Rattle.std.proofs.Common.{◌≡◌, take}
use Rattle.pq_operands.specs.Ties.{cells_tied}
use Rattle.pq_operands.proofs.ties.tied_cells.Given as goal

abbrev pub invariant-loop-col : goal.invariant-loop-col
invariant-loop-col l = l.cells ≡ cells_tied l.query l.params l.rel l.combo (take l.col-index l.cols)
