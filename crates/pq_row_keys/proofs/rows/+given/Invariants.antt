use Rattle.std.proofs.Common.{length}
use Rattle.pq_row_keys.proofs.rows.+given.Given as goal

abbrev pub decreases-given : goal.decreases-given
decreases-given l = length l.cols.now
