-- The counters of a schema, each with the number of its definition.
use Rattle.std.specs.Prelude.{ℕ, ◌+◌, ◌<◌, ◌≤◌, ◌^◌, length, List, [], ◌∷◌, ◌++◌, All}
use Rattle.std.specs.List.{AllByRecursion}
use Rattle.pq_base.specs.declared.value.ColType.{ColType}
use Rattle.pq_schema.specs.declared.counter.Counter.{Counter}
use Rattle.pq_schema.specs.declared.made.Definition.{Definition}
use Rattle.pq_schema.specs.declared.made.Definition.TheVariants.{OfTable, OfQuery, OfColumn, OfCounter}
use Rattle.pq_schema.specs.declared.table.Table.{Table}
use Rattle.pq_schema.specs.Rows.{IsTableNumber}
use Rattle.pq_schema.specs.Schema.{Schema, counter_at}
use Rattle.pq_schema.specs.Tables.{table_at, types_at}

pub record NumberedCounter : Type 0 where
  pub name : List ℕ
  pub number : ℕ
  pub table : ℕ
  pub cols : List ℕ

abbrev pub with_number : ℕ → Counter → NumberedCounter
with_number number counter =
    record { name = counter.name; number = number; table = counter.table; cols = counter.cols }

-- the counter of a definition, or none
abbrev pub numbered_of : ℕ → Definition → List NumberedCounter
numbered_of number (OfTable table columns made) = []
numbered_of number (OfQuery query made) = []
numbered_of number (OfColumn table col) = []
numbered_of number (OfCounter counter) = with_number number counter ∷ []

-- those of definitions that are numbered from a number on
abbrev pub numbered_from : ℕ → List Definition → List NumberedCounter
numbered_from number [] = []
numbered_from number (definition ∷ definitions) =
    numbered_of number definition ++ numbered_from (number + 1) definitions

-- in the order of their definitions
abbrev pub counters_in : Schema → List NumberedCounter
counters_in schema = numbered_from 1 schema.definitions

-- the counter of this definition's number
abbrev pub counter_numbered : Schema → ℕ → NumberedCounter
counter_numbered schema number = with_number number (counter_at schema number)

-- the types of a group's values
abbrev pub group_types : List Table → NumberedCounter → List ColType
group_types tables counter = types_at (table_at tables counter.table).columns counter.cols

-- a counter of a table that is there, over at most 4 columns of it
pub record IsCounter (tables : List Table) (counter : NumberedCounter) : Type 0 where
  pub number : counter.number < 2 ^ 16
  pub table : IsTableNumber tables counter.table
  pub inside : All (λ col. col < length (table_at tables counter.table).columns) counter.cols
  pub few : length counter.cols ≤ 4

-- each number is below those behind it
abbrev pub AreInOrder : List NumberedCounter → Type 0
AreInOrder [] = Unit {0}
AreInOrder (counter ∷ counters) =
    AllByRecursion (λ other. counter.number < other.number) counters × AreInOrder counters

pub record AreCounters (tables : List Table) (counters : List NumberedCounter) : Type 0 where
  pub each : All (IsCounter tables) counters
  pub order : AreInOrder counters
  pub few : length counters ≤ 256
