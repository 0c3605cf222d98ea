-- What a READ asks for, or its first refusal.
use Rattle.std.specs.Prelude.{ℕ, List, map, Option, Some, None, Result, Err}
use Rattle.pq_base.specs.declared.refusal.Refusal.{Refusal}
use Rattle.pq_base.specs.declared.refusal.Refusal.TheVariants as refusal
use Rattle.pq_base.specs.declared.value.ColType.{ColType}
use Rattle.pq_base.specs.declared.value.Value.{Value}
use Rattle.pq_base.specs.Values.{AllFit}
use Rattle.pq_schema.specs.Counters.{IsCounterNumber}
use Rattle.pq_schema.specs.Definitions.{or_ok}
use Rattle.pq_schema.specs.Resolved.{param_type}
use Rattle.pq_schema.specs.Schema.{Schema, find_counter}
use Rattle.pq_running.specs.Running.{params_refusal}
use Rattle.pq_tallies.specs.Defined.{counter_numbered, group_types}

-- a counter, by the number of its definition, and the values of a group
pub record Reading : Type 0 where
  pub number : ℕ
  pub values : List Value

-- the types of its values: those of parameters, which are compared with the counter's columns; none has NULL
abbrev pub reading_types : Schema → ℕ → List ColType
reading_types schema number = map param_type (group_types schema.tables (counter_numbered schema number))

abbrev pub reading_at : Schema → List ℕ → List Value → Option ℕ → Result Reading Refusal
reading_at schema name values None = Err (refusal.NoCounter name)
reading_at schema name values (Some number) =
    or_ok (params_refusal (reading_types schema number) values) (record { number = number; values = values })

-- the counter's name comes first, then the values
unfoldable pub reading_of : Schema → List ℕ → List Value → Result Reading Refusal
reading_of schema name values = reading_at schema name values (find_counter schema name)

-- a counter that is there, and values that are of its columns' kinds, none of them NULL
pub record IsReading (schema : Schema) (reading : Reading) : Type 0 where
  pub number : IsCounterNumber schema reading.number
  pub fits : AllFit (reading_types schema reading.number) reading.values
