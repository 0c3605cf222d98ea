use Rattle.std.proofs.Common.{◌≡◌, ◌++◌, map, filter, take}
use Rattle.pq_schema.specs.declared.query.Operand.TheVariants as operand
use Rattle.pq_arrange.specs.Classes.{equality_of, is_later}
use Rattle.pq_arrange.proofs.closing.push_later.Given as goal

abbrev pub invariant-loop-column : goal.invariant-loop-column
invariant-loop-column l =
    l.found ≡ l.initial.found ++ map (equality_of (operand.Col l.first)) (filter (is_later l.first) (take l.column-index l.rest))
