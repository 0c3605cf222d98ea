use Rattle.std.proofs.Common.{length}
use Rattle.pq_row_code.proofs.encode.+null_marks.Given as goal

abbrev pub decreases-null_marks : goal.decreases-null_marks
decreases-null_marks l = length l.values.now
