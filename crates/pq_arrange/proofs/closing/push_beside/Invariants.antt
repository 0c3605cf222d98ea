use Rattle.std.proofs.Common.{◌≡◌, ◌++◌, map, filter, take, not}
use Rattle.pq_schema.specs.declared.query.Operand.TheVariants as operand
use Rattle.pq_arrange.specs.Classes.{equality_of, is_later}
use Rattle.pq_arrange.proofs.closing.push_beside.Given as goal

abbrev pub invariant-loop-column : goal.invariant-loop-column
invariant-loop-column l =
    l.found ≡ l.initial.found ++ map (λ ref. equality_of (operand.Col ref) l.later) (filter (λ ref. not (is_later l.first ref)) (take l.column-index l.rest))
