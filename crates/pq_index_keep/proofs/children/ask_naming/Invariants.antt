use Rattle.std.proofs.Common.{◌≡◌, ◌++◌, filter, map, take}
use Rattle.pq_index_keep.specs.Asking.{child_test, refers_to}
use Rattle.pq_index_keep.proofs.children.ask_naming.Given as goal

abbrev pub invariant-loop-own : goal.invariant-loop-own
invariant-loop-own l = l.tests ≡ l.initial.tests ++ map (child_test l.child l.table l.key) (filter (refers_to l.number) (take l.own-index l.foreign))
