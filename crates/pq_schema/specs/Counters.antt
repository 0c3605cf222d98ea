-- What the counters of a schema have.
use Rattle.std.specs.Prelude.{◌≡◌, ℕ, ◌<◌, ◌≤◌, length, List, [], ◌∷◌}
use Rattle.std.specs.List.{AllByRecursion}
use Rattle.pq_schema.specs.declared.counter.Counter.{Counter}
use Rattle.pq_schema.specs.declared.table.Table.{Table}
use Rattle.pq_schema.specs.Schema.{Schema, IsCounterDefinition, counter_at, definition_at}
use Rattle.pq_schema.specs.Sound.{AreKeyColumns}
use Rattle.pq_schema.specs.Tables.{table_at}

-- a counter of a table that is there, over 1 to 4 different columns of it
pub record IsMadeCounter (tables : List Table) (counter : Counter) : Type 0 where
  pub from_one : 1 ≤ counter.table
  pub there : counter.table ≤ length tables
  pub cols : AreKeyColumns (length (table_at tables counter.table).columns) counter.cols

-- a number of a counter's definition
pub record IsCounterNumber (schema : Schema) (number : ℕ) : Type 0 where
  pub from_one : 1 ≤ number
  pub there : number ≤ length schema.definitions
  pub counter : IsCounterDefinition (definition_at schema number)

-- a number of a counter of this table
pub record IsNumberOf (schema : Schema) (table number : ℕ) : Type 0 where
  pub number_is : IsCounterNumber schema number
  pub table_is : (counter_at schema number).table ≡ table

-- each number is below those behind it
abbrev pub AreRising : List ℕ → Type 0
AreRising [] = Unit {0}
AreRising (number ∷ numbers) = AllByRecursion (λ other. number < other) numbers × AreRising numbers
