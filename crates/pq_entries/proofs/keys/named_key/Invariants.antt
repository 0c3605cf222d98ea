use Rattle.std.proofs.Common.{◌≡◌, take, map}
use Rattle.pq_schema.specs.Keys.{given_value}
use Rattle.pq_schema.specs.Sequences.{columns_of}
use Rattle.pq_entries.proofs.keys.named_key.Given as goal

abbrev pub invariant-loop-col : goal.invariant-loop-col
invariant-loop-col l = l.key ≡ map (given_value (columns_of l.parts) l.values) (take l.col-index l.col-items)
