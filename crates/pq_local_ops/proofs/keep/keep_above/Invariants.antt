use Rattle.std.proofs.Common.{◌≡◌, filter}
use Rattle.pq_local_ops.specs.Codes.{is_above}
use Rattle.pq_local_ops.proofs.keep.keep_above.Given as goal

abbrev pub invariant-loop-combo : goal.invariant-loop-combo
invariant-loop-combo l = l.kept ≡ filter (is_above l.cols l.dirs l.code) l.yielded
