-- What calls that write promise of the store, the allowance and the meter.
use Rattle.std.specs.Prelude.{◌≡◌, ℕ, ◌≤◌, ◌+◌, List, Result, OnOk, OnErr, IfErr, IsErrOf}
use Rattle.std.specs.Option.{option_map}
use Rattle.pq_content.specs.Pairs.{Change}
use Rattle.pq_store.specs.declared.damage.Broke.{Broke}
use Rattle.pq_store.specs.declared.damage.Broke.TheVariants as broke
use Rattle.pq_store.specs.declared.store.Store.{Ghosts}
use Rattle.pq_store.specs.Breaks.{IsUndamaged, IsAnswered}
use Rattle.pq_store.specs.Content.{HasBrokeCause, written_content}
use Rattle.pq_store.specs.Counts.{Counts, AllowedCounts}
use Rattle.pq_intent.specs.Changing.{content_after, IsPartway, MayChange, StopsBefore}
use Rattle.pq_intent.specs.Spending.{Spends}

module _ {S L : Type 0} (s : Ghosts S L) where
  -- at most so many operations and no entries are spent, in as many rounds, and an error has its cause
  pub record WritesWithin (ops : ℕ) (before after : S) (allowed left : AllowedCounts) (counts now : Counts) {A : Type 0} (result : Result A Broke) : Type 0 where
    pub spends : Spends ops allowed left counts now
    pub rounds : s.rounds after ≤ s.rounds before + ops
    pub cause : HasBrokeCause (s.faults before) (s.faults after) result
    pub answered : IfErr result (IsAnswered s.answers)

  -- the change is made, or the call that failed has made it or not
  pub record MakesOne (change : Change) (before after : S) {A : Type 0} (result : Result A Broke) : Type 0 where
    pub made : OnOk result (s.content after ≡ option_map (written_content change.0 change.1) (s.content before))
    pub stopped : OnErr result (MayChange change (s.content before) (s.content after))
    pub sound : IfErr result IsUndamaged
    pub memory : IsErrOf result broke.NoMem → s.content after ≡ s.content before

  -- the changes are made in order, or the first of them
  pub record MakesAll (changes : List Change) (before after : S) (counts now : Counts) {A : Type 0} (result : Result A Broke) : Type 0 where
    pub made : OnOk result (s.content after ≡ content_after changes (s.content before))
    pub stopped : OnErr result (IsPartway changes (s.content before) (s.content after))
    pub sound : IfErr result IsUndamaged
    pub memory : IsErrOf result broke.NoMem → StopsBefore changes counts now (s.content before) (s.content after)
