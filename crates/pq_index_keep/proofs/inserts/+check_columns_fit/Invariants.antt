use Rattle.std.proofs.Common.{length}
use Rattle.pq_index_keep.proofs.inserts.+check_columns_fit.Given as goal

abbrev pub decreases-check_columns_fit : goal.decreases-check_columns_fit
decreases-check_columns_fit l = length l.columns.now
