-- What the whole plan of a write promises: its changes of rows and entries, and behind them those of its counters.
use Rattle.std.specs.Prelude.{◌≡◌, ◌⊎◌, ℕ, ◌+◌, ◌*◌, ◌≤◌, All, List, ◌++◌, map, length, Option, Some, None, option_map, IfSome, Err, MatchResult}
use Rattle.pq_base.specs.declared.number.Bound.{Bound}
use Rattle.pq_base.specs.declared.refusal.Refusal.{Refusal}
use Rattle.pq_base.specs.declared.value.Value.{Value}
use Rattle.pq_row_code.specs.declared.changes.Change.{Change as Coded}
use Rattle.pq_row_code.specs.Changes.{AreChanges}
use Rattle.pq_schema.specs.Schema.{Schema}
use Rattle.pq_content.specs.Pairs.{Change, Pair, changed_content}
use Rattle.pq_content.specs.Standing.{change_of, AreIntended}
use Rattle.pq_content.specs.Tables.{Rows, Keeps}
use Rattle.pq_store.specs.Content.{Content}
use Rattle.pq_index_keep.specs.Bounds.{counted, most_changes, write_tests}
use Rattle.pq_index_keep.specs.Effects.{changes_of}
use Rattle.pq_index_keep.specs.Promises.{IsReadFor, PassesTests, FitsItsTable, HasOwn}
use Rattle.pq_index_keep.specs.Refusals.{CanRefuse}
use Rattle.pq_index_keep.specs.Rounds.{write_rounds}
use Rattle.pq_index_keep.specs.Tested.{with_sets}
use Rattle.pq_index_keep.specs.declared.plan.Planned.{Planned}
use Rattle.pq_index_keep.specs.declared.plan.Planned.TheVariants as planned
use Rattle.pq_index_keep.specs.declared.write.Write.{Write}
use Rattle.pq_index_keep.specs.declared.write.Write.TheVariants as write
use Rattle.pq_tallies.specs.Counters.{all_pairs, AreFewRows}
use Rattle.pq_tallies.specs.Defined.{counters_in}
use Rattle.pq_tallies.specs.Writes.{written_table, counter_changes, counted_effect}
use Rattle.pq_counters.specs.Bounds.{all_moves, counter_reads, counter_rounds}
use Rattle.pq_counters.specs.Promises.{CanBeFull, IsCounterChange, IfChanges, MovesCounts}

-- the operations and entries of the tests of a write and of the reads of its counters
abbrev pub whole_reads : Schema → Write → Bound
whole_reads schema write = record {
  ops = (write_tests schema.tables write).ops + counter_reads (counters_in schema) write;
  entries = (write_tests schema.tables write).entries + counter_reads (counters_in schema) write;
}

-- behind so many writes of a batch that remove pairs, each count of a test may read as many more
abbrev pub reads_behind : ℕ → Schema → Write → Bound
reads_behind removers schema write = record {
  ops = (whole_reads schema write).ops;
  entries = (whole_reads schema write).entries + counted schema.tables write * removers;
}

-- the changes of rows, entries and counters that a write makes where nothing refuses it
abbrev pub changes_by : Schema → Rows → Write → List Change
changes_by schema rows write = changes_of schema.tables rows write ++ counter_changes schema rows write

-- the greatest number of pairs that change
abbrev pub whole_changes : Schema → Write → ℕ
whole_changes schema write = most_changes schema.tables write + all_moves (counters_in schema) write

-- at least one change and at most so many, which an intent may hold, each of lengths that it can hold
pub record AreWhole (most : ℕ) (changes : List Coded) : Type 0 where
  pub some : 1 ≤ length changes
  pub few : length changes ≤ most
  pub coded : AreChanges changes
  pub intended : AreIntended (map change_of changes)

abbrev pub IsWholeWithin : ℕ → Planned → Type 0
IsWholeWithin most (planned.Changes changes) = AreWhole most changes
IsWholeWithin most (planned.Refused why) = Unit {0}

-- a write can be refused so
abbrev pub CanRefuseWhole : Schema → Write → Refusal → Type 0
CanRefuseWhole schema write why = CanRefuse schema.tables write why ⊎ CanBeFull schema why

abbrev pub RefusesWhole : Schema → Write → Planned → Type 0
RefusesWhole schema write (planned.Changes changes) = Unit {0}
RefusesWhole schema write (planned.Refused why) = CanRefuseWhole schema write why

-- how often the store is asked: for the tests of the write, behind these changes, and once for all counters' groups
abbrev pub whole_rounds : List Change → Schema → Write → ℕ
whole_rounds pending schema write =
    write_rounds pending schema.tables write + counter_rounds (counters_in schema) write

-- the row that comes in the place of the one that was read
abbrev pub coming : Write → Option (List Value) → Option (List Value)
coming (write.Insert t row) old = Some row
coming (write.Update t key sets conds) old = option_map (with_sets sets) old
coming (write.Delete t key conds) old = None

-- where the row was read from a content and changes, the counters' changes are by the numbers of that content
abbrev pub CountsBy : Schema → Write → Option (List Value) → Option Content → Planned → Type 0
CountsBy schema write old told planned = (own : List Change) → HasOwn schema.tables write old own
    → IfSome told (λ content. IfChanges (λ changes. MovesCounts content (counters_in schema) (written_table write) old
    (coming write old) (map change_of changes)) planned)

-- the changes of the row that is read in a content, where it is told, in which none of the write's tests holds; and
-- behind them those of counters' pairs: each by the number that this content has, whatever it stands for
pub record HasWhole (schema : Schema) (told : Option Content) (write : Write) (changes : List Coded) : Type 0 where
  pub old : Option (List Value)
  pub rows : List Change
  pub counts : List Coded
  pub are : map change_of changes ≡ rows ++ map change_of counts
  pub read : IfSome told (λ content. IsReadFor schema.tables write content old)
  pub passed : IfSome told (PassesTests schema.tables write old)
  pub fits : FitsItsTable schema.tables write old
  pub own : HasOwn schema.tables write old rows
  pub counted : All IsCounterChange counts
  pub moves : IfSome told (λ content. MovesCounts content (counters_in schema) (written_table write) old
      (coming write old) (map change_of counts))

abbrev pub ChangesWhole : Schema → Option Content → Write → Planned → Type 0
ChangesWhole schema told write (planned.Changes changes) = HasWhole schema told write changes
ChangesWhole schema told write (planned.Refused why) = Unit {0}

-- the changes make the content of the effect's rows of that of these, and these keep their tables and counters
pub record MakesWhole (schema : Schema) (rows : Rows) (others : List Pair) (write : Write) (changes : List Coded)
    (made : Rows) : Type 0 where
  pub changes_are : map change_of changes ≡ changes_by schema rows write
  pub content : changed_content (map change_of changes) (all_pairs schema.tables (counters_in schema) rows others)
      ≡ all_pairs schema.tables (counters_in schema) made others
  pub keeps : Keeps schema.tables made
  pub few : AreFewRows (counters_in schema) made

-- over these rows, the changes where the write has an effect, and else its refusal
abbrev pub PlansWhole : Schema → Rows → List Pair → Write → Planned → Type 0
PlansWhole schema rows others write (planned.Changes changes) =
    MatchResult (counted_effect schema rows write) (MakesWhole schema rows others write changes) (λ refusal. ⊥)
PlansWhole schema rows others write (planned.Refused refusal) = counted_effect schema rows write ≡ Err refusal
