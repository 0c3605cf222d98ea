use Rattle.std.proofs.Common.{length}
use Rattle.pq_planning.proofs.lines.+put_index_lines.Given as goal

abbrev pub decreases-put_index_lines : goal.decreases-put_index_lines
decreases-put_index_lines l = length l.indexes.now
