-- The position columns as they are computed.
use Rattle.std.specs.Prelude.{◌≡◌, List, map}
use Rattle.pq_schema.specs.declared.query.Query.{Query}
use Rattle.pq_schema.specs.declared.table.Table.{Table}
use Rattle.pq_schema.specs.Relations.{position_columns}
use Rattle.pq_local_ops.specs.declared.position.Places.{Places}

-- the columns and their directions
pub record ArePlaces (tables : List Table) (query : Query) (places : Places) : Type 0 where
  pub cols : places.cols ≡ map (λ item. item.col) (position_columns tables query)
  pub dirs : places.dirs ≡ map (λ item. item.dir) (position_columns tables query)
