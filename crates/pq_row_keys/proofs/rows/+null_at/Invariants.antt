use Rattle.std.proofs.Common.{length}
use Rattle.pq_row_keys.proofs.rows.+null_at.Given as goal

abbrev pub decreases-null_at : goal.decreases-null_at
decreases-null_at l = length l.cols.now
