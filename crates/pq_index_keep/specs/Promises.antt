-- What the calls of a plan promise, whatever the store tells.
use Rattle.std.specs.Prelude.{◌≡◌, All, ℕ, ◌≤◌, List, [], ◌∷◌, map, length, position, Option, Some, None, is_none, if◌then◌else◌, Err, MatchResult, IfSome}
use Rattle.std.specs.FinMap.{get}
use Rattle.pq_base.specs.declared.value.Value.{Value}
use Rattle.pq_base.specs.Values.{AllFit}
use Rattle.pq_key_code.specs.KeyCode.{row_key}
use Rattle.pq_row_code.specs.declared.changes.Change.{Change}
use Rattle.pq_row_code.specs.Changes.{AreChanges}
use Rattle.pq_schema.specs.declared.table.Table.{Table}
use Rattle.pq_schema.specs.Tables.{table_at}
use Rattle.pq_content.specs.Pairs.{Pair, Change as Changed, changed_content, content_pairs, entries_from, entry_changes, pairs_of_row, puts, removals}
pub use Rattle.pq_content.specs.Pairs.{HoldsRows}
use Rattle.pq_content.specs.Standing.{change_of, AreOfRows}
use Rattle.pq_content.specs.Tables.{Rows, AllOfKinds, types_of, shape_of, key_of, key_types, cells, row_at, stored_code, Keeps}
use Rattle.pq_store.specs.Content.{Content}
use Rattle.pq_calls.specs.Evidence.{IsRead}
use Rattle.pq_pending.specs.Pending.{RemovesAtMost}
use Rattle.pq_store.specs.Rounds.{is_held}
use Rattle.pq_store.specs.declared.store.Test.{Test}
use Rattle.pq_store.specs.declared.store.Test.TheVariants.{Has}
use Rattle.pq_index_keep.specs.Asking.{row_tests, child_tests}
use Rattle.pq_index_keep.specs.Bounds.{most_changes, removers_of}
use Rattle.pq_index_keep.specs.Effects.{effect, changes_of, condition_refusal, held_refusal}
use Rattle.pq_index_keep.specs.Tested.{scope_of, with_sets}
use Rattle.pq_index_keep.specs.Refusals.{RefusesAs}
use Rattle.pq_index_keep.specs.declared.plan.Planned.{Planned}
use Rattle.pq_index_keep.specs.declared.plan.Planned.TheVariants as planned
use Rattle.pq_index_keep.specs.declared.plan.PlannedWrite.{PlannedWrite}
use Rattle.pq_index_keep.specs.declared.write.Cond.{Cond}
use Rattle.pq_index_keep.specs.declared.write.Scope.TheVariants as scope
use Rattle.pq_index_keep.specs.declared.write.Write.{Write}
use Rattle.pq_index_keep.specs.declared.write.Write.TheVariants as write

-- values of a row that its table's keys, limits and foreign keys may be tested by
pub record IsTested (tables : List Table) (table : Table) (row : List Value) : Type 0 where
  pub fits : AllFit (types_of table) row
  pub parents : All (λ foreign. AllOfKinds (key_types (table_at tables foreign.table)) (cells foreign.cols row))
      table.foreign

-- changes of rows and entries: at least one and at most so many, each of lengths that an intent can hold
pub record ArePlanned (most : ℕ) (changes : List Change) : Type 0 where
  pub some : 1 ≤ length changes
  pub few : length changes ≤ most
  pub coded : AreChanges changes
  pub of_rows : AreOfRows (map change_of changes)

-- the changes make the effect's rows of these, and keep their tables
pub record MakesRows (tables : List Table) (rows : Rows) (others : List Pair) (write : Write)
    (changes : List Change) (made : Rows) : Type 0 where
  pub changes_are : map change_of changes ≡ changes_of tables rows write
  pub content : changed_content (map change_of changes) (content_pairs tables rows others)
      ≡ content_pairs tables made others
  pub keeps : Keeps tables made

-- over these rows, the changes where the write has an effect, and else its refusal
abbrev pub Plans : List Table → Rows → List Pair → Write → Planned → Type 0
Plans tables rows others write (planned.Changes changes) =
    MatchResult (effect tables rows write) (MakesRows tables rows others write changes) (λ refusal. ⊥)
Plans tables rows others write (planned.Refused refusal) = effect tables rows write ≡ Err refusal

-- what is promised of changes, whatever the store tells
abbrev pub IsPlannedWithin : ℕ → Planned → Type 0
IsPlannedWithin most (planned.Changes changes) = ArePlanned most changes
IsPlannedWithin most (planned.Refused refusal) = Unit {0}

-- key and value of a change are short
pub record IsShortChange (change : List ℕ × Option (List ℕ)) : Type 0 where
  pub key : length change.0 ≤ 81000
  pub value : IfSome change.1 (λ value. length value ≤ 4096)

-- so is each change, whatever the store tells
abbrev pub IsShortWithin : Planned → Type 0
IsShortWithin (planned.Changes changes) = All IsShortChange (map change_of changes)
IsShortWithin (planned.Refused refusal) = Unit {0}

-- an UPDATE or a DELETE removes at most one pair of each sequence, and an INSERT none, whatever the store tells
abbrev pub RemovesFew : Write → Planned → Type 0
RemovesFew write (planned.Changes changes) = RemovesAtMost (removers_of write) (map change_of changes)
RemovesFew write (planned.Refused refusal) = Unit {0}

-- what was read of the old row, where the store tells: none for an INSERT
abbrev pub IsReadFor : List Table → Write → Content → Option (List Value) → Type 0
IsReadFor tables (write.Insert t row) content old = old ≡ None
IsReadFor tables (write.Update t key sets conds) content old =
    IsRead (shape_of (table_at tables t)) (get content (row_key t key)) old
IsReadFor tables (write.Delete t key conds) content old =
    IsRead (shape_of (table_at tables t)) (get content (row_key t key)) old

-- the tests of a write, by the row that was read for it: of an INSERT that its key is taken, and of an INSERT or an
-- UPDATE that a row which it names isn't there or a group that it comes into is full; of a DELETE that a row names its own
abbrev pub asked_tests : List Table → Write → Option (List Value) → List Test
asked_tests tables (write.Insert t row) old =
    Has (row_key t (key_of (table_at tables t) row)) ∷ row_tests scope.All None t (table_at tables t) row
asked_tests tables (write.Update t key sets conds) None = []
asked_tests tables (write.Update t key sets conds) (Some old) =
    row_tests (scope_of sets) (Some old) t (table_at tables t) (with_sets sets old)
asked_tests tables (write.Delete t key conds) old = child_tests t key 1 tables

-- none of them holds in the content
abbrev pub PassesTests : List Table → Write → Option (List Value) → Content → Type 0
PassesTests tables write old content = position (is_held content) (asked_tests tables write old) ≡ None

-- what isn't refused passes its tests in what the store tells, whatever that stands for
abbrev pub IsAllowed : List Table → Write → Option (List Value) → Option Content → Planned → Type 0
IsAllowed tables write old told (planned.Changes changes) = IfSome told (PassesTests tables write old)
IsAllowed tables write old told (planned.Refused refusal) = Unit {0}

-- the old row fits its table's columns
abbrev pub FitsItsTable : List Table → Write → Option (List Value) → Type 0
FitsItsTable tables (write.Insert t row) old = old ≡ None
FitsItsTable tables (write.Update t key sets conds) old = IfSome old (AllFit (types_of (table_at tables t)))
FitsItsTable tables (write.Delete t key conds) old = IfSome old (AllFit (types_of (table_at tables t)))

-- the row that comes in the old one's place: of an UPDATE alone, whose conditions hold and whose sums are there
abbrev pub IsNewFor : List Table → Write → Option (List Value) → Option (List Value) → Type 0
IsNewFor tables (write.Insert t row) old new = new ≡ None
IsNewFor tables (write.Update t key sets conds) None new = new ≡ None
IsNewFor tables (write.Update t key sets conds) (Some old) new =
    new ≡ (if is_none (held_refusal (table_at tables t) sets conds old) then Some (with_sets sets old) else None)
IsNewFor tables (write.Delete t key conds) old new = new ≡ None

-- the changes of a write by the row that was read for it: an INSERT puts the pairs of its row; an UPDATE, whose
-- conditions hold and whose sums are there, puts the new row at the key and moves the entries that differ; and a
-- DELETE, whose conditions hold, removes the value at the key and the old row's entries
abbrev pub HasOwn : List Table → Write → Option (List Value) → List Changed → Type 0
HasOwn tables (write.Insert t row) old changes = changes ≡ puts (pairs_of_row t (table_at tables t) row)
HasOwn tables (write.Update t key sets conds) None changes = ⊥
HasOwn tables (write.Update t key sets conds) (Some old) changes =
    (held_refusal (table_at tables t) sets conds old ≡ None)
    × (changes ≡ (row_key t key, Some (stored_code (table_at tables t) (with_sets sets old)))
    ∷ entry_changes t 1 (table_at tables t) (table_at tables t).indexes old (with_sets sets old))
HasOwn tables (write.Delete t key conds) None changes = ⊥
HasOwn tables (write.Delete t key conds) (Some old) changes =
    (condition_refusal (table_at tables t) conds old ≡ None)
    × (changes ≡ (row_key t key, None)
    ∷ removals (entries_from t 1 (table_at tables t) (table_at tables t).indexes old))

-- what is planned are these changes, whatever the store tells
abbrev pub ChangesFrom : List Table → Write → Option (List Value) → Planned → Type 0
ChangesFrom tables write old (planned.Changes changes) = HasOwn tables write old (map change_of changes)
ChangesFrom tables write old (planned.Refused refusal) = Unit {0}

-- they are those of some old row that fits
abbrev pub ChangesOwn : List Table → Write → Planned → Type 0
ChangesOwn tables write planned =
    (old : Option (List Value)) × FitsItsTable tables write old × ChangesFrom tables write old planned

-- ---- all that is promised of a plan

module _ (tables : List Table) (told : Option Content) (write : Write) where
  -- what is planned by the row that was read
  pub record IsPlanOf (old : Option (List Value)) (planned : Planned) : Type 0 where
    pub within : IsPlannedWithin (most_changes tables write) planned
    pub own : ChangesFrom tables write old planned
    pub short : IsShortWithin planned
    pub thin : RemovesFew write planned
    pub can : RefusesAs tables write planned
    pub passed : IsAllowed tables write old told planned

  -- over all rows that the content stands for
  abbrev pub PlansAll : Planned → Type 0
  PlansAll planned = (rows : Rows) (others : List Pair) → HoldsRows told tables rows others
      → Plans tables rows others write planned

  -- the same where one of them is the row with this key
  abbrev pub PlansHeld : ℕ → List Value → List Value → Planned → Type 0
  PlansHeld t key old planned = (rows : Rows) (others : List Pair) → HoldsRows told tables rows others
      → Some old ≡ row_at tables rows t key → Plans tables rows others write planned

  -- what is planned of a row that is there
  pub record IsHeldPlan (t : ℕ) (key old : List Value) (planned : Planned) : Type 0 where
    pub plan : IsPlanOf (Some old) planned
    pub answer : PlansHeld t key old planned

  -- a plan with the row that was read for it and the one that comes in its place
  pub record IsPlannedWrite (made : PlannedWrite) : Type 0 where
    pub plan : IsPlanOf made.old made.planned
    pub answer : PlansAll made.planned
    pub read : IfSome told (λ c. IsReadFor tables write c made.old)
    pub fits : FitsItsTable tables write made.old
    pub new : IsNewFor tables write made.old made.new

-- what is planned of a row that is there, by a write whose conditions are any that hold of it
module _ (tables : List Table) (told : Option Content) (t : ℕ) (key old : List Value) (write : List Cond → Write) where
  abbrev pub Hold : List Cond → Type 0
  Hold conds = condition_refusal (table_at tables t) conds old ≡ None

  pub record IsPlanWhere (planned : Planned) : Type 0 where
    pub within : (conds : List Cond) → IsPlannedWithin (most_changes tables (write conds)) planned
    pub own : (conds : List Cond) → Hold conds → ChangesFrom tables (write conds) (Some old) planned
    pub short : IsShortWithin planned
    pub thin : (conds : List Cond) → RemovesFew (write conds) planned
    pub can : (conds : List Cond) → RefusesAs tables (write conds) planned
    pub passed : (conds : List Cond) → IsAllowed tables (write conds) (Some old) told planned
    pub answer : (rows : Rows) (others : List Pair) → HoldsRows told tables rows others
        → Some old ≡ row_at tables rows t key → (conds : List Cond) → Hold conds
        → Plans tables rows others (write conds) planned
