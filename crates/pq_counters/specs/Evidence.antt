-- What shows that a content is damaged in its counters' pairs.
use Rattle.std.specs.Prelude.{◌≡◌, ◌⊎◌, ℕ, ◌≤◌, List, Option, Some, None, IfSome}
use Rattle.std.specs.FinMap.{get}
use Rattle.pq_base.specs.Members.{In}
use Rattle.pq_base.specs.declared.value.Value.{Value}
use Rattle.pq_base.specs.Values.{AllFit}
use Rattle.pq_key_code.specs.KeyCode.{row_key}
use Rattle.pq_schema.specs.declared.table.Table.{Table}
use Rattle.pq_schema.specs.Keys.{AllOfKinds, key_types}
use Rattle.pq_schema.specs.Rows.{IsTableNumber, types_of}
use Rattle.pq_schema.specs.Schema.{Schema}
use Rattle.pq_schema.specs.Tables.{table_at}
use Rattle.pq_content.specs.Tables.{stored_code}
use Rattle.pq_store.specs.Content.{Content}
use Rattle.pq_store.specs.declared.damage.Damage.{Damage}
use Rattle.pq_calls.specs.Evidence.{IsNoRow}
use Rattle.pq_tallies.specs.Counters.{counter_key, count_code, IsNoCountCode}
use Rattle.pq_tallies.specs.Defined.{NumberedCounter, counters_in, group_types}
use Rattle.pq_tallies.specs.Moves.{group_in}

-- no value and 0, or a value that is the code of the number
abbrev pub IsCounted : Option (List ℕ) → ℕ → Type 0
IsCounted None n = n ≡ 0
IsCounted (Some code) n = (count_code n ≡ code) × (1 ≤ n)

-- the value at this key is the code of no number
pub record IsNoCountAt (key : List ℕ) (told : Option Content) (damage : Damage) : Type 0 where
  pub code : List ℕ
  pub at : damage.key ≡ key
  pub has : damage.value ≡ Some code
  pub no_count : IsNoCountCode code
  pub there : IfSome told (λ content. get content key ≡ Some code)

-- this key is not there
pub record IsAbsentAt (key : List ℕ) (told : Option Content) (damage : Damage) : Type 0 where
  pub at : damage.key ≡ key
  pub has : damage.value ≡ None
  pub absent : IfSome told (λ content. get content key ≡ None)

-- the value at the key of a group is the code of no number
pub record IsNoCount (tables : List Table) (counter : NumberedCounter) (content : Content) (damage : Damage) :
    Type 0 where
  pub values : List Value
  pub kinds : AllOfKinds (group_types tables counter) values
  pub shown : IsNoCountAt (counter_key counter.number values) (Some content) damage

-- the row stands at the key of its table's rows
abbrev pub IsStoredAt : Table → ℕ → List Value → List Value → Content → Type 0
IsStoredAt table t key row content = get content (row_key t key) ≡ Some (stored_code table row)

-- a row of the counter's table is there and in a group, and the key of its group isn't there
pub record IsNoGroup (tables : List Table) (counter : NumberedCounter) (content : Content) (damage : Damage) :
    Type 0 where
  pub key : List Value
  pub row : List Value
  pub group : List Value
  pub number : IsTableNumber tables counter.table
  pub kinds : AllOfKinds (key_types (table_at tables counter.table)) key
  pub fits : AllFit (types_of (table_at tables counter.table)) row
  pub there : IsStoredAt (table_at tables counter.table) counter.table key row content
  pub group_is : group_in counter row ≡ Some group
  pub shown : IsAbsentAt (counter_key counter.number group) (Some content) damage

-- one of these of some counter
abbrev pub ShowsCounter : Schema → Content → Damage → Type 0
ShowsCounter schema content damage = (counter : NumberedCounter) × In counter (counters_in schema)
    × (IsNoCount schema.tables counter content damage ⊎ IsNoGroup schema.tables counter content damage)

-- or the value at the key of the written row is the code of no row
abbrev pub ShowsCounted : Schema → Content → Damage → Type 0
ShowsCounted schema content damage = IsNoRow schema.tables content damage ⊎ ShowsCounter schema content damage
