use Rattle.std.proofs.Common.{length}
use Rattle.pq_definitions.proofs.table_checks.+has_shape.Given as goal

abbrev pub decreases-has_shape : goal.decreases-has_shape
decreases-has_shape l = length l.names.now
