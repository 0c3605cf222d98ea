-- What stands at a column of a row.
use Rattle.std.specs.Prelude.{ℕ, false, List, slice_index_or}
use Rattle.pq_base.specs.declared.value.Value.{Value}
use Rattle.pq_base.specs.declared.value.Value.TheVariants as value

-- what stands at a column that isn't there
abbrev pub no_value : Value
no_value = value.Bool false

-- the value at a column
abbrev pub value_of : List Value → ℕ → Value
value_of row col = slice_index_or row col no_value
