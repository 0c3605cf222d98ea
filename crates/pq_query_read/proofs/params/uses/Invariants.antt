use Rattle.std.proofs.Common.{◌≡◌, take}
use Rattle.pq_query_read.specs.Parameters.{uses}
use Rattle.pq_query_read.proofs.params.uses.Given as goal

abbrev pub invariant-loop-pred : goal.invariant-loop-pred
invariant-loop-pred l = l.made ≡ uses l.catalog.tables l.relations (take l.pred-index l.preds)
