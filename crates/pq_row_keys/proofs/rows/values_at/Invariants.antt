use Rattle.std.proofs.Common.{◌≡◌, take}
use Rattle.pq_content.specs.Tables.{cells}
use Rattle.pq_row_keys.proofs.rows.values_at.Given as goal

abbrev pub invariant-loop-col : goal.invariant-loop-col
invariant-loop-col l = l.values ≡ cells (take l.col-index l.cols) l.row
