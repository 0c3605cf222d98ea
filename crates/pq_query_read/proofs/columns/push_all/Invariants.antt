use Rattle.std.proofs.Common.{◌≡◌, ◌++◌, map}
use Rattle.std.specs.List.{range_with_len}
use Rattle.pq_query_read.proofs.columns.push_all.Given as goal

abbrev pub invariant-loop-col : goal.invariant-loop-col
invariant-loop-col l = l.refs ≡ l.fn.refs ++ map (λ col. record { rel = l.rel; col = col }) (range_with_len 0 l.col)
