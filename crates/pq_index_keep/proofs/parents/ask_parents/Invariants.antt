use Rattle.std.proofs.Common.{◌≡◌, ◌++◌, take}
use Rattle.pq_index_keep.specs.Asking.{parent_tests}
use Rattle.pq_index_keep.proofs.parents.ask_parents.Given as goal

abbrev pub invariant-loop-key : goal.invariant-loop-key
invariant-loop-key l = l.tests ≡ l.initial.tests ++ parent_tests l.scope l.row (take l.key-index l.foreign)
