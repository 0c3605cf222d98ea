use Rattle.std.proofs.Common.{◌≡◌, take, map}
use Rattle.pq_schema.specs.Keys.{given_value}
use Rattle.pq_row_keys.proofs.rows.all_given.Given as goal

abbrev pub invariant-loop-col : goal.invariant-loop-col
invariant-loop-col l = l.row ≡ map (given_value l.cols l.values) (take l.col-index l.wanted)
