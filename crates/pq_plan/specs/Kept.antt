-- The order of rows, and the rows that keep a schema.
use Rattle.std.specs.Prelude.{List}
use Rattle.std.specs.declared.cmp.Ordering.{Ordering}
use Rattle.std.specs.Cmp.Lexicographic.{slice_cmp}
use Rattle.pq_base.specs.declared.value.Value.{Value}
use Rattle.pq_base.specs.Order.{value_cmp}
pub use Rattle.pq_schema.specs.Rows.{cells, IsTableNumber as IsNumber, KeepsSchema}

-- rows by their values, a row before those that it begins
abbrev pub row_cmp : List Value → List Value → Ordering
row_cmp = slice_cmp value_cmp
