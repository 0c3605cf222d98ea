use Rattle.std.proofs.Common.{length}
use Rattle.pq_row_keys.proofs.rows.+same_left.Given as goal

abbrev pub decreases-same_left : goal.decreases-same_left
decreases-same_left l = length l.cols.now
