-- What calls that see pending changes spend, and why one stops.
use Rattle.std.specs.Prelude.{ℕ, ◌≤◌, ◌+◌, List, Option}
use Rattle.pq_base.specs.declared.number.Bound.{Bound}
use Rattle.pq_calls.specs.World.{Affords}
use Rattle.pq_pending.specs.Calls.{Uses, Fails, answers_of}
use Rattle.pq_pending.specs.declared.calls.PendingCalls.{PendingCalls}
use Rattle.pq_schema.specs.declared.table.Table.{Table}
use Rattle.pq_store.specs.Breaks.{IsAnswered}
use Rattle.pq_store.specs.Content.{Content}
use Rattle.pq_store.specs.declared.damage.Broke.{Broke}
use Rattle.pq_store.specs.declared.damage.Damage.{Damage}
use Rattle.pq_store.specs.declared.store.Store.{Ghosts}
use Rattle.pq_index_keep.specs.Bounds.{row_behind, tested_limits, children_behind, referring_count}
use Rattle.pq_index_keep.specs.Rounds.{test_rounds}
use Rattle.pq_index_keep.specs.declared.write.Scope.{Scope}

-- few of the pending changes' writes remove pairs, and so much is left of the allowance
pub record CanSpend {S L : Type 0} (calls : PendingCalls S L) (bound : Bound) : Type 0 where
  pub removers : calls.pending.now.removers ≤ 256
  pub left : Affords calls.allowance.now bound.ops bound.entries

module _ {S L : Type 0} (s : Ghosts S L) where
  -- at most so much was used, and the store was asked at most so often
  pub record Spends (before after : PendingCalls S L) (bound : Bound) (most : ℕ) : Type 0 where
    pub uses : Uses s.content s.faults before after bound.ops bound.entries
    pub rounds : s.rounds after.store.now ≤ s.rounds before.store.now + most

  -- why a call stops; damage is told with a value that the store may answer
  pub record Stops (shows : Option Content → Damage → Type 0) (before after : PendingCalls S L) (error : Broke) :
      Type 0 where
    pub cause : Fails shows s.content s.faults before after error
    pub answered : IsAnswered (answers_of s.answers before) error

  -- what the tests of a row take by foreign keys and limits that are touched, behind what is pending
  abbrev pub SpendsOnRow : (before after : PendingCalls S L) → Scope → Table → Type 0
  SpendsOnRow before after of table =
      Spends before after (row_behind before.pending.now.removers of table)
      (test_rounds before.pending.now.changes (tested_limits of table.limits))

  -- what those of all foreign keys take that refer to the table
  abbrev pub SpendsOnChildren : (before after : PendingCalls S L) → List Table → ℕ → Type 0
  SpendsOnChildren before after tables t =
      Spends before after (children_behind before.pending.now.removers tables t)
      (test_rounds before.pending.now.changes (referring_count tables t))
