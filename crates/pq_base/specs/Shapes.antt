-- How a table stores its rows.
use Rattle.std.specs.Prelude.{List, Option}
use Rattle.pq_base.specs.declared.value.ColType.{ColType}
use Rattle.pq_base.specs.declared.value.Value.{Value}

-- the types of the columns, and the defaults of those that were added
pub record RowShape : Type 0 where
  pub types : List ColType
  pub fillers : List (Option Value)

abbrev pub row_shape : List ColType → List (Option Value) → RowShape
row_shape types fillers = record { types = types; fillers = fillers }
