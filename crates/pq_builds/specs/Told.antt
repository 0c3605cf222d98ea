-- What a call makes of a content that is told, and what it leaves of one that isn't.
use Rattle.std.specs.Prelude.{◌≡◌, ℕ, List, length, Option, Result, IfSome, IfErr}
use Rattle.pq_store.specs.Breaks.{IsAnsweredBut}
use Rattle.pq_store.specs.Content.{Content, HasBrokeCause}
use Rattle.pq_store.specs.declared.damage.Broke.{Broke}
use Rattle.pq_store.specs.declared.store.Store.{Ghosts}
use Rattle.pq_intent.specs.Changing.{StaysUntold}
use Rattle.pq_builds.specs.Filling.{row_pairs_in, NamesKey}

-- where the table has so many rows
abbrev pub WithRows : {X : Type 0} → ℕ → ℕ → (Content → X → Type 0) → Content → X → Type 0
WithRows table count holds content x = length (row_pairs_in table content) ≡ count → holds content x

module _ {S L : Type 0} (s : Ghosts S L) where
  -- of the content before, where it is told, the one behind the call is made so
  abbrev pub Turns : S → S → (Content → Option Content → Type 0) → Type 0
  Turns before after makes = IfSome (s.content before) (λ content. makes content (s.content after))

  -- the content before, where it is told, shows this
  abbrev pub Shows : {X : Type 0} → S → (Content → X → Type 0) → X → Type 0
  Shows before shows x = IfSome (s.content before) (λ content. shows content x)

  -- a content that isn't told stays so, and a call that fails has its cause
  pub record LeavesStore {A : Type 0} (before after : S) (result : Result A Broke) : Type 0 where
    pub untold : StaysUntold (s.content before) (s.content after)
    pub cause : HasBrokeCause (s.faults before) (s.faults after) result

  -- and damage is what was answered, or has no value and names the key of the definition
  pub record LeavesNaming {A : Type 0} (key : List ℕ) (before after : S) (result : Result A Broke) : Type 0 where
    pub leaves : LeavesStore before after result
    pub names : IfErr result (NamesKey key)
    pub answered : IfErr result (IsAnsweredBut s.answers key)
