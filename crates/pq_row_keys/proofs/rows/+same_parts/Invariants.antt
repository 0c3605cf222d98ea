use Rattle.std.proofs.Common.{length}
use Rattle.pq_row_keys.proofs.rows.+same_parts.Given as goal

abbrev pub decreases-same_parts : goal.decreases-same_parts
decreases-same_parts l = length l.parts.now
