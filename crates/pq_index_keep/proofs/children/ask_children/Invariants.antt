use Rattle.std.proofs.Common.{◌≡◌, ◌+◌, ◌++◌, drop}
use Rattle.pq_index_keep.specs.Asking.{child_tests}
use Rattle.pq_index_keep.proofs.children.ask_children.Given as goal

abbrev pub invariant-loop-i : goal.invariant-loop-i
invariant-loop-i l = l.initial.tests ++ child_tests l.number l.key 1 l.tables ≡ l.tests ++ child_tests l.number l.key (l.i + 1) (drop l.i l.tables)
