-- What a store stands for: the definitions, and the rows of all tables.
use Rattle.pq_schema.specs.Schema.{Schema}
use Rattle.pq_content.specs.Tables.{Rows}

pub record Model : Type 0 where
  pub schema : Schema
  pub rows : Rows
