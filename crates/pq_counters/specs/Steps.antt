-- The steps of a plan: what is read of a group, what is changed of it, and what shows damage there.
use Rattle.std.specs.Prelude.{◌≡◌, ◌⊎◌, ℕ, ◌+◌, ◌≤◌, ◌<◌, List, map, length, Option, Some, None, option_map, is_none, if◌then◌else◌, IfSome, All}
use Rattle.std.specs.FinMap.{get}
use Rattle.pq_base.specs.declared.value.Value.{Value}
use Rattle.pq_base.specs.Values.{AllFit}
use Rattle.pq_schema.specs.declared.made.Definition.{Definition}
use Rattle.pq_schema.specs.declared.made.Definition.TheVariants.{OfTable, OfQuery, OfColumn, OfCounter}
use Rattle.pq_schema.specs.declared.table.Table.{Table}
use Rattle.pq_schema.specs.Counters.{IsCounterNumber}
use Rattle.pq_schema.specs.Rows.{types_of}
use Rattle.pq_schema.specs.Schema.{Schema}
use Rattle.pq_schema.specs.Tables.{table_at}
use Rattle.pq_content.specs.Standing.{change_of}
use Rattle.pq_content.specs.Tables.{Rows}
use Rattle.pq_store.specs.Content.{Content}
use Rattle.pq_store.specs.declared.damage.Damage.{Damage}
use Rattle.pq_index_keep.specs.declared.plan.Planned.{Planned}
use Rattle.pq_index_keep.specs.declared.plan.Planned.TheVariants as planned
use Rattle.pq_index_keep.specs.Effects.{held_refusal}
use Rattle.pq_index_keep.specs.Tested.{with_sets}
use Rattle.pq_index_keep.specs.declared.write.Cond.{Cond}
use Rattle.pq_index_keep.specs.declared.write.SetCol.{SetCol}
use Rattle.pq_index_keep.specs.declared.write.Write.{Write}
use Rattle.pq_index_keep.specs.declared.write.Write.TheVariants as write
use Rattle.pq_tallies.specs.Counters.{most_count, tally, counter_key, stored_count}
use Rattle.pq_tallies.specs.Defined.{NumberedCounter, counter_numbered}
use Rattle.pq_tallies.specs.Moves.{GroupMove, group_key, move_in, moves_changes, first_full}
use Rattle.pq_tallies.specs.Writes.{counter_full}
use Rattle.pq_counters.specs.Evidence.{IsNoCountAt, IsAbsentAt}

-- ---- columns

-- the columns that an UPDATE sets can be in a set of 32
abbrev pub HasSmallColumns : Write → Type 0
HasSmallColumns (write.Insert t row) = Unit {0}
HasSmallColumns (write.Update t key sets conds) = All (λ set. set.col < 32) sets
HasSmallColumns (write.Delete t key conds) = Unit {0}

-- and so can those of a counter
abbrev pub HasSmallCounter : Definition → Type 0
HasSmallCounter (OfTable table columns made) = Unit {0}
HasSmallCounter (OfQuery query made) = Unit {0}
HasSmallCounter (OfColumn table col) = Unit {0}
HasSmallCounter (OfCounter counter) = All (λ col. col < 32) counter.cols

-- the row that an UPDATE puts in the place of this one, where it is as the write says
abbrev pub row_in_place : Table → List SetCol → List Cond → List Value → Option (List Value)
row_in_place table sets conds old =
    if is_none (held_refusal table sets conds old) then Some (with_sets sets old) else None

-- ---- how much is read and changed

abbrev pub some_count : Option (List Value) → ℕ
some_count None = 0
some_count (Some values) = 1

abbrev pub move_count : GroupMove → ℕ
move_count move = some_count move.from + some_count move.to

abbrev pub moves_of : ℕ → Option (List Value) → Option (List Value) → NumberedCounter → ℕ
moves_of t old new counter = move_count (move_in t old new counter)

-- of the counter with this number
abbrev pub moves_at : Schema → ℕ → Option (List Value) → Option (List Value) → ℕ → ℕ
moves_at schema t old new number = moves_of t old new (counter_numbered schema number)

-- ---- lengths

-- the key of a group of at most four values, of which a text has at most 1,000 bytes
abbrev pub IsSmallKey : Option (List ℕ) → Type 0
IsSmallKey None = Unit {0}
IsSmallKey (Some key) = length key ≤ 9000

abbrev pub IsSmallGroup : ℕ → Option (List Value) → Type 0
IsSmallGroup number group = IsSmallKey (group_key number group)

pub record IsSmallMove (number : ℕ) (move : GroupMove) : Type 0 where
  pub from : IsSmallGroup number move.from
  pub to : IsSmallGroup number move.to

abbrev pub MovesLittle : Schema → ℕ → Option (List Value) → Option (List Value) → ℕ → Type 0
MovesLittle schema t old new number = IsSmallMove number (move_in t old new (counter_numbered schema number))

-- ---- what a told content has

-- the pair of a group of so many rows
pub record TellsCount (told : Option Content) (key : List ℕ) (n : ℕ) : Type 0 where
  pub content : Content
  pub is : told ≡ Some content
  pub has : get content key ≡ stored_count n
  pub few : n ≤ most_count

abbrev pub TellsGroup : Option Content → NumberedCounter → Option (List Value) → Rows → Type 0
TellsGroup told counter None rows = Unit {0}
TellsGroup told counter (Some values) rows =
    TellsCount told (counter_key counter.number values) (tally rows counter values)

pub record TellsMove (told : Option Content) (counter : NumberedCounter) (move : GroupMove) (rows : Rows) : Type 0 where
  pub from : TellsGroup told counter move.from rows
  pub to : TellsGroup told counter move.to rows

-- the changes for a row that goes and one that comes, or the refusal of the first counter of which a group is full
abbrev pub PlansMoves : List NumberedCounter → Rows → ℕ → Option (List Value) → Option (List Value) → Planned → Type 0
PlansMoves counters rows t old new (planned.Changes changes) =
    (map change_of changes ≡ moves_changes counters rows t old new) × (first_full counters rows t old new ≡ None)
PlansMoves counters rows t old new (planned.Refused why) =
    option_map counter_full (first_full counters rows t old new) ≡ Some why

-- the rows that go and come are of the table
pub record AreOfTable (tables : List Table) (t : ℕ) (old new : Option (List Value)) : Type 0 where
  pub goes : IfSome old (AllFit (types_of (table_at tables t)))
  pub comes : IfSome new (AllFit (types_of (table_at tables t)))

-- ---- damage

-- at the key of a group that a row leaves: no number, or nothing
abbrev pub SpoilsLeft : List ℕ → Option Content → Damage → Type 0
SpoilsLeft key told damage = IsNoCountAt key told damage ⊎ IsAbsentAt key told damage

-- the same where a row leaves one
abbrev pub SpoilsFromKey : Option (List ℕ) → Option Content → Damage → Type 0
SpoilsFromKey None told damage = ⊥
SpoilsFromKey (Some key) told damage = SpoilsLeft key told damage

-- at the key of a group that a row comes into: no number
abbrev pub SpoilsToKey : Option (List ℕ) → Option Content → Damage → Type 0
SpoilsToKey None told damage = ⊥
SpoilsToKey (Some key) told damage = IsNoCountAt key told damage

abbrev pub SpoilsFrom : ℕ → Option (List Value) → Option Content → Damage → Type 0
SpoilsFrom number group told damage = SpoilsFromKey (group_key number group) told damage

abbrev pub SpoilsTo : ℕ → Option (List Value) → Option Content → Damage → Type 0
SpoilsTo number group told damage = SpoilsToKey (group_key number group) told damage

abbrev pub SpoilsMove : ℕ → GroupMove → Option Content → Damage → Type 0
SpoilsMove number move told damage = SpoilsFrom number move.from told damage ⊎ SpoilsTo number move.to told damage

abbrev pub SpoilsMoves : Schema → ℕ → Option (List Value) → Option (List Value) → Option Content → Damage → Type 0
SpoilsMoves schema t old new told damage = (number : ℕ) × IsCounterNumber schema number
    × SpoilsMove number (move_in t old new (counter_numbered schema number)) told damage
