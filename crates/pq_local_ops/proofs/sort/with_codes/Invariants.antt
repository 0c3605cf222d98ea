use Rattle.std.proofs.Common.{◌≡◌, map}
use Rattle.pq_local_ops.specs.Codes.{coded_combo}
use Rattle.pq_local_ops.proofs.sort.with_codes.Given as goal

abbrev pub invariant-loop-combo : goal.invariant-loop-combo
invariant-loop-combo l = l.items.items ≡ map (coded_combo l.cols l.dirs) l.yielded
