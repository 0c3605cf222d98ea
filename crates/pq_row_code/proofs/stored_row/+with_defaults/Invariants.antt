use Rattle.std.proofs.Common.{length}
use Rattle.pq_row_code.proofs.stored_row.+with_defaults.Given as goal

abbrev pub decreases-with_defaults : goal.decreases-with_defaults
decreases-with_defaults l = length l.types.now
