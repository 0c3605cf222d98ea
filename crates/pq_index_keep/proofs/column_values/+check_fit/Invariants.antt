use Rattle.std.proofs.Common.{length}
use Rattle.pq_index_keep.proofs.column_values.+check_fit.Given as goal

abbrev pub decreases-check_fit : goal.decreases-check_fit
decreases-check_fit l = length l.names.now
