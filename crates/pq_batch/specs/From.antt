-- What the plan of the writes of a batch from a place on promises, behind the changes of those before.
use Rattle.std.specs.Prelude.{◌≡◌, ℕ, ◌+◌, ◌<◌, ◌≤◌, List, map, length, slice_get, Option, None, Some, Result, Err, MatchResult, All}
use Rattle.pq_base.specs.declared.refusal.Refusal.{Refusal}
use Rattle.pq_row_code.specs.declared.changes.Change.{Change as Coded}
use Rattle.pq_schema.specs.Schema.{Schema}
use Rattle.pq_content.specs.Pairs.{Change, Pair, changed_content}
use Rattle.pq_content.specs.Standing.{change_of, AreIntended}
use Rattle.pq_content.specs.Tables.{Rows, Keeps}
use Rattle.pq_store.specs.Content.{Content}
use Rattle.pq_store.specs.declared.damage.Damage.{Damage}
use Rattle.pq_pending.specs.Pending.{seen_content, seen_answers}
use Rattle.pq_index_keep.specs.Promises.{IsShortChange}
use Rattle.pq_index_keep.specs.declared.write.Write.{Write}
use Rattle.pq_tallies.specs.Counters.{all_pairs, AreFewRows}
use Rattle.pq_tallies.specs.Defined.{counters_in}
use Rattle.pq_counters.specs.Whole.{CanRefuseWhole}
use Rattle.pq_batch.specs.Promises.{AreOfWritesBefore}
use Rattle.pq_batch.specs.Batches.{Unmade, InBatch, TooLong, made_from, unless_long, changes_length}
use Rattle.pq_batch.specs.declared.plan.PlannedBatch.{PlannedBatch}
use Rattle.pq_batch.specs.declared.plan.PlannedBatch.TheVariants as planned

-- an intent may hold the changes, and each is short
pub record AreAhead (changes : List Change) : Type 0 where
  pub short : All IsShortChange changes
  pub intended : AreIntended changes

-- the changes themselves where their code is no longer than an intent's may be, and else its length
abbrev pub FinishesAs : List Change → PlannedBatch → Type 0
FinishesAs changes (planned.Changes all) = (map change_of all ≡ changes) × (changes_length changes ≤ 1048576)
FinishesAs changes (planned.Refused place cause) = ⊥
FinishesAs changes (planned.TooLong length) = (length ≡ changes_length changes) × (1048576 < length)

-- the changes make the content of these rows of the one that there was, and the rows keep their tables and counters
pub record MakesFrom (schema : Schema) (before : Content) (others : List Pair) (changes : List Coded) (made : Rows) :
    Type 0 where
  pub content : changed_content (map change_of changes) before
      ≡ all_pairs schema.tables (counters_in schema) made others
  pub keeps : Keeps schema.tables made
  pub few : AreFewRows (counters_in schema) made

-- the changes where the effect is this one, and else why there is none
abbrev pub PlansAs : Schema → Content → List Pair → Result Rows Unmade → PlannedBatch → Type 0
PlansAs schema before others effect (planned.Changes changes) =
    MatchResult effect (MakesFrom schema before others changes) (λ why. ⊥)
PlansAs schema before others effect (planned.Refused place cause) = effect ≡ Err (InBatch place cause)
PlansAs schema before others effect (planned.TooLong length) = effect ≡ Err (TooLong length)

-- the same of writes from a place on, each on the rows of the one before
abbrev pub PlansFrom : Schema → ℕ → Rows → List Change → List Write → Content → List Pair → PlannedBatch → Type 0
PlansFrom schema place rows changes writes before others planned =
    PlansAs schema before others (unless_long (made_from schema place rows changes writes)) planned

-- the write at this place, where the first has that one, can be refused so
pub record CanRefuseFrom (schema : Schema) (writes : List Write) (first place : ℕ) (cause : Refusal) : Type 0 where
  pub write : Write
  pub before : ℕ
  pub at : place ≡ before + first
  pub there : slice_get writes before ≡ Some write
  pub can : CanRefuseWhole schema write cause

abbrev pub RefusesFrom : Schema → List Write → ℕ → PlannedBatch → Type 0
RefusesFrom schema writes first (planned.Changes changes) = Unit {0}
RefusesFrom schema writes first (planned.Refused place cause) = CanRefuseFrom schema writes first place cause
RefusesFrom schema writes first (planned.TooLong length) = 1048576 < length

-- ---- damage behind the changes of those before

-- it shows in the content with these changes
abbrev pub ShowsSeen : List Change → (Option Content → Damage → Type 0) → Option Content → Damage → Type 0
ShowsSeen changes shows told damage = shows (seen_content changes told) damage

-- or with those of some of the writes behind them
abbrev pub ShowsFrom : Schema → List Write → List Change → (Option Content → Damage → Type 0) → Option Content → Damage
    → Type 0
ShowsFrom schema writes before shows told damage = (changes : List Change)
    × AreOfWritesBefore schema told writes before changes × shows (seen_content changes told) damage

abbrev pub AnswersFrom : Schema → List Write → List Change → (List ℕ → Option (List ℕ) → Type 0) → List ℕ
    → Option (List ℕ) → Type 0
AnswersFrom schema writes before answers key value = (changes : List Change)
    × AreOfWritesBefore schema None writes before changes × seen_answers answers changes key value
