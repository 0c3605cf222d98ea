use Rattle.std.proofs.Common.{◌≡◌, take, map}
use Rattle.pq_calls.proofs.rows.types_of.Given as goal

abbrev pub invariant-loop-column : goal.invariant-loop-column
invariant-loop-column l = l.types ≡ map (λ column. column.ty) (take l.column-index l.column-items)
