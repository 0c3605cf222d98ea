use Rattle.std.proofs.Common.{length}
use Rattle.pq_row_keys.proofs.keys.+put_given_cell.Given as goal

abbrev pub decreases-put_given_cell : goal.decreases-put_given_cell
decreases-put_given_cell l = length l.cols.now
