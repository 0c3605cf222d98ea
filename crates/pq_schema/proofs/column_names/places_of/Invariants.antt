use Rattle.std.proofs.Common.{◌≡◌, take, map}
use Rattle.pq_schema.specs.ColumnNames.{place_of}
use Rattle.pq_schema.proofs.column_names.places_of.Given as goal

abbrev pub invariant-loop-name : goal.invariant-loop-name
invariant-loop-name l = l.places ≡ map (place_of l.columns) (take l.name-index l.names)
