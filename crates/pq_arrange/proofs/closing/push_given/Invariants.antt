use Rattle.std.proofs.Common.{◌≡◌, ◌++◌, map, take}
use Rattle.pq_arrange.specs.Classes.{equality_of}
use Rattle.pq_arrange.proofs.closing.push_given.Given as goal

abbrev pub invariant-loop-column : goal.invariant-loop-column
invariant-loop-column l =
    l.found ≡ l.initial.found ++ map (equality_of l.operand) (take l.column-index l.members)
