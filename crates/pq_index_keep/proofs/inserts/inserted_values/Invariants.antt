use Rattle.std.proofs.Common.{◌≡◌, take, map}
use Rattle.pq_index_keep.specs.Checking.{inserted_value}
use Rattle.pq_index_keep.proofs.inserts.inserted_values.Given as goal

abbrev pub invariant-loop-col : goal.invariant-loop-col
invariant-loop-col l = l.row ≡ map (inserted_value l.table l.places l.values) (take l.col-index l.columns)
