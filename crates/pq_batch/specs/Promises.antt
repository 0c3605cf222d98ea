-- What the plan of a batch promises.
use Rattle.std.specs.Prelude.{◌≡◌, ℕ, ◌+◌, ◌<◌, ◌≤◌, List, [], ◌∷◌, map, take, length, Option, slice_get, None, Some, Err, MatchResult}
use Rattle.std.specs.List.{AllByRecursion}
use Rattle.pq_base.specs.declared.refusal.Refusal.{Refusal}
use Rattle.pq_row_code.specs.declared.changes.Change.{Change as Coded}
use Rattle.pq_schema.specs.Schema.{Schema}
use Rattle.pq_content.specs.Pairs.{Change, Pair, changed_content}
use Rattle.pq_content.specs.Standing.{change_of}
use Rattle.pq_content.specs.Tables.{Rows, Keeps}
use Rattle.pq_store.specs.Content.{Content}
use Rattle.pq_store.specs.declared.damage.Damage.{Damage}
use Rattle.pq_pending.specs.Pending.{seen_content, seen_answers, with_changes}
use Rattle.pq_index_keep.specs.Sound.{IsWrite}
use Rattle.pq_index_keep.specs.declared.write.Write.{Write}
use Rattle.pq_tallies.specs.Counters.{all_pairs, AreFewRows}
use Rattle.pq_tallies.specs.Defined.{counters_in}
use Rattle.pq_counters.specs.Whole.{AreWhole, CanRefuseWhole, HasWhole}
use Rattle.pq_batch.specs.Batches.{batch_effect, InBatch, TooLong}
use Rattle.pq_batch.specs.declared.plan.PlannedBatch.{PlannedBatch}
use Rattle.pq_batch.specs.declared.plan.PlannedBatch.TheVariants as planned

-- at most 256 writes that reading gives
pub record IsBatch (schema : Schema) (writes : List Write) : Type 0 where
  pub some : 1 ≤ length writes
  pub few : length writes ≤ 256
  pub each : AllByRecursion (IsWrite schema.tables) writes

-- the changes make the content of these rows of that of the others, and the rows keep their tables and counters
pub record MakesBatch (schema : Schema) (rows : Rows) (others : List Pair) (changes : List Coded) (made : Rows) :
    Type 0 where
  pub content : changed_content (map change_of changes) (all_pairs schema.tables (counters_in schema) rows others)
      ≡ all_pairs schema.tables (counters_in schema) made others
  pub keeps : Keeps schema.tables made
  pub few : AreFewRows (counters_in schema) made

-- over these rows, the changes where the batch has an effect, and else why it has none
abbrev pub PlansBatch : Schema → Rows → List Pair → List Write → PlannedBatch → Type 0
PlansBatch schema rows others writes (planned.Changes changes) =
    MatchResult (batch_effect schema rows writes) (MakesBatch schema rows others changes) (λ why. ⊥)
PlansBatch schema rows others writes (planned.Refused place cause) =
    batch_effect schema rows writes ≡ Err (InBatch place cause)
PlansBatch schema rows others writes (planned.TooLong length) = batch_effect schema rows writes ≡ Err (TooLong length)

abbrev pub IsBatchWithin : ℕ → PlannedBatch → Type 0
IsBatchWithin most (planned.Changes changes) = AreWhole most changes
IsBatchWithin most (planned.Refused place cause) = Unit {0}
IsBatchWithin most (planned.TooLong length) = Unit {0}

-- the write at this place, from 1, can be refused so
pub record CanRefuseAt (schema : Schema) (writes : List Write) (place : ℕ) (cause : Refusal) : Type 0 where
  pub write : Write
  pub before : ℕ
  pub at : place ≡ before + 1
  pub there : slice_get writes before ≡ Some write
  pub can : CanRefuseWhole schema write cause

abbrev pub RefusesBatch : Schema → List Write → PlannedBatch → Type 0
RefusesBatch schema writes (planned.Changes changes) = Unit {0}
RefusesBatch schema writes (planned.Refused place cause) = CanRefuseAt schema writes place cause
RefusesBatch schema writes (planned.TooLong length) = 1048576 < length

-- ---- damage that is told behind the changes of some writes

-- the second changes are the first ones and behind them those of the writes, one after the other: each write's are of
-- the row that it finds in the content with the changes of those before it
abbrev pub AreBehind : Schema → Option Content → List Write → List Change → List Change → Type 0
AreBehind schema told [] before after = after ≡ before
AreBehind schema told (write ∷ writes) before after = (changes : List Coded)
    × HasWhole schema (seen_content before told) write changes
    × AreBehind schema told writes (with_changes before (map change_of changes)) after

-- the changes are those of all writes, whatever the store tells
abbrev pub ChangesBehind : Schema → Option Content → List Write → List Change → PlannedBatch → Type 0
ChangesBehind schema told writes before (planned.Changes changes) =
    AreBehind schema told writes before (map change_of changes)
ChangesBehind schema told writes before (planned.Refused place cause) = Unit {0}
ChangesBehind schema told writes before (planned.TooLong length) = Unit {0}

-- the changes behind the first ones are those of the writes before one of these
pub record AreOfWritesBefore (schema : Schema) (told : Option Content) (writes : List Write)
    (before after : List Change) : Type 0 where
  pub place : ℕ
  pub within : place < length writes
  pub made : AreBehind schema told (take place writes) before after

-- it shows in the content with the changes of the writes before the one at hand
abbrev pub ShowsBehind : Schema → List Write → (Option Content → Damage → Type 0) → Option Content → Damage → Type 0
ShowsBehind schema writes shows told damage = (changes : List Change)
    × AreOfWritesBefore schema told writes [] changes × shows (seen_content changes told) damage

-- its value is what such a change gives the key, or what the store may answer
abbrev pub AnswersBehind : Schema → List Write → (List ℕ → Option (List ℕ) → Type 0) → List ℕ → Option (List ℕ)
    → Type 0
AnswersBehind schema writes answers key value = (changes : List Change)
    × AreOfWritesBefore schema None writes [] changes × seen_answers answers changes key value
