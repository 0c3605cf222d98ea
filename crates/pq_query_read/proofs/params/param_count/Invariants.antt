use Rattle.std.proofs.Common.{◌≡◌, max, drop, fold, map}
use Rattle.pq_query_read.specs.Parameters.{param_count}
use Rattle.pq_query_read.proofs.params.param_count.Given as goal

abbrev pub invariant-loop-param : goal.invariant-loop-param
invariant-loop-param l = fold max l.count (map (λ param. param.number) (drop l.param-index l.uses)) ≡ param_count l.uses
