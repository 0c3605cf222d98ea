use Rattle.std.proofs.Common.{◌≡◌, ◌++◌}
use Rattle.pq_parts.proofs.part_store.append.Given as goal

abbrev pub invariant-loop-pair : goal.invariant-loop-pair
invariant-loop-pair l = l.found ≡ l.fn.found ++ l.yielded
