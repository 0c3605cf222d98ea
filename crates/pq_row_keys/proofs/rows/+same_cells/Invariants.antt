use Rattle.std.proofs.Common.{length}
use Rattle.pq_row_keys.proofs.rows.+same_cells.Given as goal

abbrev pub decreases-same_cells : goal.decreases-same_cells
decreases-same_cells l = length l.cols.now
