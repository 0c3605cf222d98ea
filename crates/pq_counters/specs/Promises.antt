-- What the plan of a write's counters promises.
use Rattle.std.specs.Prelude.{◌≡◌, ℕ, ◌+◌, ◌-◌, ◌≤◌, ◌<◌, ◌++◌, true, List, [], ◌∷◌, map, length, Option, None, Some, All}
use Rattle.std.specs.FinMap.{get}
use Rattle.pq_base.specs.declared.value.Value.{Value}
use Rattle.pq_base.specs.declared.refusal.Refusal.{Refusal}
use Rattle.pq_base.specs.Members.{In}
use Rattle.pq_row_code.specs.declared.changes.Change.{Change as Coded}
use Rattle.pq_row_code.specs.Changes.{IsChange}
use Rattle.pq_schema.specs.Schema.{Schema}
use Rattle.pq_content.specs.Pairs.{Pair, Change, changed_content, is_of_counters}
use Rattle.pq_content.specs.Standing.{change_of}
use Rattle.pq_content.specs.Tables.{Rows}
use Rattle.pq_store.specs.Content.{Content}
use Rattle.pq_index_keep.specs.Effects.{changes_of}
use Rattle.pq_index_keep.specs.Promises.{IsShortChange}
use Rattle.pq_index_keep.specs.declared.plan.Planned.{Planned}
use Rattle.pq_index_keep.specs.declared.plan.Planned.TheVariants as planned
use Rattle.pq_index_keep.specs.declared.write.Write.{Write}
use Rattle.pq_tallies.specs.Counters.{all_pairs, count_code, stored_count, most_count, AreFewRows}
use Rattle.pq_tallies.specs.Defined.{NumberedCounter, counters_in}
use Rattle.pq_tallies.specs.Moves.{group_key, move_in}
use Rattle.pq_tallies.specs.Writes.{counter_changes, counter_full, full_refusal}
use Rattle.pq_counters.specs.Evidence.{IsCounted}

-- no value, or the code of a number of rows that a group may have
abbrev pub IsCountValue : Option (List ℕ) → Type 0
IsCountValue None = Unit {0}
IsCountValue (Some code) = (n : ℕ) × (1 ≤ n) × (n ≤ most_count) × (count_code n ≡ code)

-- a short change of a counter's pair to a number, with lengths that an intent can hold
pub record IsCounterChange (change : Coded) : Type 0 where
  pub of_counters : is_of_counters change.key ≡ true
  pub count : IsCountValue change.new
  pub coded : IsChange change
  pub short : IsShortChange (change_of change)

-- changes of counters' pairs, at most so many
pub record AreCounterChanges (most : ℕ) (changes : List Coded) : Type 0 where
  pub few : length changes ≤ most
  pub each : All IsCounterChange changes

abbrev pub IsCountedWithin : ℕ → Planned → Type 0
IsCountedWithin most (planned.Changes changes) = AreCounterChanges most changes
IsCountedWithin most (planned.Refused why) = Unit {0}

-- a write can be refused by a counter of its schema
abbrev pub CanBeFull : Schema → Refusal → Type 0
CanBeFull schema why = (counter : NumberedCounter) × In counter (counters_in schema) × (why ≡ counter_full counter)

abbrev pub RefusesAsFull : Schema → Planned → Type 0
RefusesAsFull schema (planned.Changes changes) = Unit {0}
RefusesAsFull schema (planned.Refused why) = CanBeFull schema why

-- behind the changes of the rows' pairs they make the content of the write's rows, and no group of these has too many
pub record MakesCounts (schema : Schema) (rows : Rows) (others : List Pair) (write : Write) (made : Rows)
    (changes : List Coded) : Type 0 where
  pub changes_are : map change_of changes ≡ counter_changes schema rows write
  pub no_full : full_refusal schema rows write ≡ None
  pub content : changed_content (changes_of schema.tables rows write ++ map change_of changes)
      (all_pairs schema.tables (counters_in schema) rows others)
      ≡ all_pairs schema.tables (counters_in schema) made others
  pub few : AreFewRows (counters_in schema) made

-- over these rows, of which a write makes others
abbrev pub Counts : Schema → Rows → List Pair → Write → Rows → Planned → Type 0
Counts schema rows others write made (planned.Changes changes) = MakesCounts schema rows others write made changes
Counts schema rows others write made (planned.Refused why) = full_refusal schema rows write ≡ Some why

-- ---- over any content, whatever it stands for

-- at the key, where there is one, one row less than the content's number
abbrev pub LeavesKey : Content → Option (List ℕ) → List Change → Type 0
LeavesKey content None changes = changes ≡ []
LeavesKey content (Some key) changes = (n : ℕ) × IsCounted (get content key) n × (1 ≤ n) × (n ≤ most_count)
    × (changes ≡ (key, stored_count (n - 1)) ∷ [])

-- at the key, where there is one, one row more than the content's number
abbrev pub JoinsKey : Content → Option (List ℕ) → List Change → Type 0
JoinsKey content None changes = changes ≡ []
JoinsKey content (Some key) changes = (n : ℕ) × IsCounted (get content key) n × (n < most_count)
    × (changes ≡ (key, stored_count (n + 1)) ∷ [])

-- of each counter, in the order of definition, for a row of this table that goes and one that comes
abbrev pub MovesCounts : Content → List NumberedCounter → ℕ → Option (List Value) → Option (List Value) → List Change
    → Type 0
MovesCounts content [] t old new changes = changes ≡ []
MovesCounts content (counter ∷ counters) t old new changes =
    (left : List Change) × (joined : List Change) × (rest : List Change)
    × LeavesKey content (group_key counter.number (move_in t old new counter).from) left
    × JoinsKey content (group_key counter.number (move_in t old new counter).to) joined
    × MovesCounts content counters t old new rest × (changes ≡ left ++ joined ++ rest)

-- what is planned, where it is no refusal, is this
abbrev pub IfChanges : (List Coded → Type 0) → Planned → Type 0
IfChanges makes (planned.Changes changes) = makes changes
IfChanges makes (planned.Refused why) = Unit {0}
