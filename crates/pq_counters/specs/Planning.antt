-- What the calls that plan a write's counters take and promise together.
use Rattle.std.specs.Prelude.{◌≡◌, ℕ, ◌+◌, ◌≤◌, ◌++◌, All, List, map, Option, Result, Ok, IfErr, IfSome}
use Rattle.std.specs.List.{sum_by}
use Rattle.pq_base.specs.declared.value.Value.{Value}
use Rattle.pq_row_code.specs.declared.changes.Change.{Change as Coded}
use Rattle.pq_schema.specs.declared.table.Table.{Table}
use Rattle.pq_schema.specs.Keys.{AllOfKinds, key_types}
use Rattle.pq_schema.specs.Rows.{IsTableNumber}
use Rattle.pq_schema.specs.Schema.{Schema}
use Rattle.pq_schema.specs.Tables.{table_at}
use Rattle.pq_content.specs.Pairs.{Change, Pair}
use Rattle.pq_content.specs.Standing.{change_of}
use Rattle.pq_content.specs.Tables.{Rows}
use Rattle.pq_store.specs.Breaks.{IsUndamaged, IsAnswered}
use Rattle.pq_store.specs.Content.{Content}
use Rattle.pq_store.specs.Counts.{Counts as Counted, AllowedCounts}
use Rattle.pq_store.specs.declared.damage.Broke.{Broke}
use Rattle.pq_store.specs.declared.damage.Damage.{Damage}
use Rattle.pq_store.specs.declared.store.Store.{Ghosts}
use Rattle.pq_calls.specs.World.{World, world, Affords, Reads, Explains}
use Rattle.pq_pending.specs.Calls.{Uses, Fails, answers_of}
use Rattle.pq_pending.specs.Pending.{seen_content, RemovesAtMost}
use Rattle.pq_pending.specs.declared.calls.PendingCalls.{PendingCalls}
use Rattle.pq_index_keep.specs.Bounds.{most_changes, removers_of}
use Rattle.pq_index_keep.specs.Effects.{effect}
use Rattle.pq_index_keep.specs.Promises.{ArePlanned, MakesRows, IsReadFor, PassesTests, FitsItsTable, HasOwn, IsNewFor, IsShortChange, IsShortWithin, RemovesFew}
use Rattle.pq_index_keep.specs.declared.plan.Planned.{Planned}
use Rattle.pq_index_keep.specs.declared.write.Write.{Write}
use Rattle.pq_tallies.specs.Counters.{counter_pairs, HoldsCounted}
use Rattle.pq_tallies.specs.Defined.{NumberedCounter, counters_in}
use Rattle.pq_tallies.specs.Writes.{written_table, old_row}
use Rattle.pq_counters.specs.Bounds.{all_moves}
use Rattle.pq_counters.specs.Evidence.{IsStoredAt}
use Rattle.pq_counters.specs.Promises.{Counts, IsCountedWithin, IfChanges, MovesCounts, RefusesAsFull}
use Rattle.pq_counters.specs.Steps.{moves_of, AreOfTable, PlansMoves}
use Rattle.pq_counters.specs.Whole.{coming, whole_changes, CountsBy, IsWholeWithin, ChangesWhole, PlansWhole}

-- ---- what is asked of a store

-- so many operations and as many entries are left
abbrev pub CanRead : {S L : Type 0} → PendingCalls S L → ℕ → Type 0
CanRead calls reads = Affords calls.allowance.now reads reads

module _ {S L : Type 0} (s : Ghosts S L) where
  -- at most so many operations and entries are used, and a call that fails tells why: damage that shows, where there is
  -- some, with a value that the store may answer
  pub record Asks {A : Type 0} (shows : Option Content → Damage → Type 0) (before after : PendingCalls S L) (reads : ℕ)
      (result : Result A Broke) : Type 0 where
    pub uses : Uses s.content s.faults before after reads reads
    pub cause : IfErr result (Fails shows s.content s.faults before after)
    pub answered : IfErr result (IsAnswered (answers_of s.answers before))

  -- the store is asked at most so often
  abbrev pub AsksWithin : PendingCalls S L → PendingCalls S L → ℕ → Type 0
  AsksWithin before after most = s.rounds after.store.now ≤ s.rounds before.store.now + most

  -- what a call sees of a store, and of one behind changes that are not made yet
  abbrev pub store_world : S → AllowedCounts → Counted → World
  store_world store allowance meter = world (s.content store) (s.faults store) allowance meter

  abbrev pub behind_world : List Change → S → AllowedCounts → Counted → World
  behind_world changes store allowance meter =
      world (seen_content changes (s.content store)) (s.faults store) allowance meter

-- the same as Asks, of what is seen before and after
pub record AsksFrom {A : Type 0} (shows : Option Content → Damage → Type 0) (before after : World) (reads : ℕ)
    (answers : List ℕ → Option (List ℕ) → Type 0) (result : Result A Broke) : Type 0 where
  pub uses : Reads before after reads reads
  pub cause : IfErr result (Explains shows before after)
  pub answered : IfErr result (IsAnswered answers)

-- over a content that stands there is no damage
abbrev pub IsUndamagedOver : Schema → Option Content → Broke → Type 0
IsUndamagedOver schema told error = (rows : Rows) (others : List Pair) → HoldsCounted told schema rows others
    → IsUndamaged error

-- ---- the rows of a write

-- the row that was read for a write, in this content where that is told, and the one that an UPDATE puts in its place
pub record AreRowsOf (tables : List Table) (write : Write) (told : Option Content) (old new : Option (List Value)) :
    Type 0 where
  pub read : IfSome told (λ content. IsReadFor tables write content old)
  pub fits : FitsItsTable tables write old
  pub comes : IsNewFor tables write old new

-- the key by which the row that goes was read, where one goes
pub record IsReadBy (tables : List Table) (told : Option Content) (t : ℕ) (old : Option (List Value)) : Type 0 where
  pub key : List Value
  pub kinds : AllOfKinds (key_types (table_at tables t)) key
  pub stored : IfSome old (λ row. IfSome told (IsStoredAt (table_at tables t) t key row))

-- these are the rows of the write's table that go and come, which move no more than the write may; and the one that
-- goes is that of any rows that the content stands for
pub record MovesRows (schema : Schema) (write : Write) (told : Option Content) (old new : Option (List Value)) :
    Type 0 where
  pub number : IsTableNumber schema.tables (written_table write)
  pub fits : AreOfTable schema.tables (written_table write) old new
  pub few : sum_by (moves_of (written_table write) old new) (counters_in schema)
      ≤ all_moves (counters_in schema) write
  pub read : IsReadBy schema.tables told (written_table write) old
  pub comes : new ≡ coming write old
  pub goes : (rows : Rows) (others : List Pair) → HoldsCounted told schema rows others
      → old_row schema.tables rows write ≡ old

-- ---- what is planned

-- the plan of these counters for a row that goes and one that comes: at most so many changes, or the refusal of a full
-- counter; by the numbers of the content, whatever it stands for; and over one that stands, those of its rows
pub record PlansRows (schema : Schema) (counters : List NumberedCounter) (most t : ℕ) (old new : Option (List Value))
    (told : Option Content) (planned : Planned) : Type 0 where
  pub within : IsCountedWithin most planned
  pub can : RefusesAsFull schema planned
  pub counts : IfSome told (λ content. IfChanges
      (λ changes. MovesCounts content counters t old new (map change_of changes)) planned)
  pub answer : (rows : Rows) (others : List Pair) → HoldsCounted told schema rows others
      → AreOfTable schema.tables t old new → PlansMoves counters rows t old new planned

-- the plan of a write's counters: no more changes than the counters add, each of a counter's key to a number, or the
-- refusal of a full counter; and over a content that stands, those that its rows count
pub record CountsWrite (schema : Schema) (write : Write) (told : Option Content) (planned : Planned) : Type 0 where
  pub within : IsCountedWithin (all_moves (counters_in schema) write) planned
  pub can : RefusesAsFull schema planned
  pub answer : (rows made : Rows) (others : List Pair) → HoldsCounted told schema rows others
      → effect schema.tables rows write ≡ Ok made → Counts schema rows others write made planned

-- the same by the row that was read, and over any content by its numbers
pub record CountsRows (schema : Schema) (write : Write) (told : Option Content) (old : Option (List Value))
    (planned : Planned) : Type 0 where
  pub counted : CountsWrite schema write told planned
  pub counts : CountsBy schema write old told planned

-- the changes of rows and entries that are planned by the row that was read: some that pass the write's tests
pub record ArePlannedBy (tables : List Table) (write : Write) (told : Option Content) (old : Option (List Value))
    (changes : List Coded) : Type 0 where
  pub planned : ArePlanned (most_changes tables write) changes
  pub short : All IsShortChange (map change_of changes)
  pub own : HasOwn tables write old (map change_of changes)
  pub thin : RemovesAtMost (removers_of write) (map change_of changes)
  pub passed : IfSome told (PassesTests tables write old)

-- a whole plan, over every store: see the clauses of `plan_whole`
pub record IsWholePlan (schema : Schema) (write : Write) (told : Option Content) (planned : Planned) : Type 0 where
  pub within : IsWholeWithin (whole_changes schema write) planned
  pub own : ChangesWhole schema told write planned
  pub can : RefusesAsFull schema planned
  pub short : IsShortWithin planned
  pub thin : RemovesFew write planned

-- over a content that stands, where these changes make the rows of the effect, the plan is the whole one
abbrev pub PlansBehind : Schema → Write → Option Content → List Coded → Planned → Type 0
PlansBehind schema write told changes planned = (rows made : Rows) (others : List Pair)
    → HoldsCounted told schema rows others → effect schema.tables rows write ≡ Ok made
    → MakesRows schema.tables rows (counter_pairs (counters_in schema) rows ++ others) write changes made
    → PlansWhole schema rows others write planned
