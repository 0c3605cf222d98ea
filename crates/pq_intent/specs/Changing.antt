-- What calls that make changes leave of a content, at whichever of them they stop.
use Rattle.std.specs.Prelude.{◌≡◌, ◌⊎◌, ℕ, ◌+◌, List, [], ◌∷◌, ◌++◌, map, take, Option, Some, None}
use Rattle.std.specs.Option.{option_map}
use Rattle.pq_row_code.specs.declared.changes.Change.{Change as Coded}
use Rattle.pq_row_code.specs.Changes.{changes_code}
use Rattle.pq_key_code.specs.KeyCode.{intent_key}
use Rattle.pq_content.specs.Pairs.{Change, changed_content}
use Rattle.pq_content.specs.Standing.{change_of}
use Rattle.pq_store.specs.Breaks.{IfDamaged}
use Rattle.pq_store.specs.Content.{Content, written_content}
use Rattle.pq_store.specs.Counts.{Counts}
use Rattle.pq_store.specs.declared.damage.Broke.{Broke}

-- the content after the changes, where it is told
abbrev pub content_after : List Change → Option Content → Option Content
content_after changes old = option_map (changed_content changes) old

-- the content after some of the changes, from the first on
pub record IsPartway (changes : List Change) (old new : Option Content) : Type 0 where
  pub made : ℕ
  pub is : new ≡ content_after (take made changes) old

-- the content as it was, or after this change
abbrev pub MayChange : Change → Option Content → Option Content → Type 0
MayChange change old new = (new ≡ old) ⊎ (new ≡ option_map (written_content change.0 change.1) old)

-- some of the writes are made, from the first on, and one call more changed nothing
pub record StopsBefore (writes : List Change) (before after : Counts) (old new : Option Content) : Type 0 where
  pub made : ℕ
  pub counted : after.ops ≡ before.ops + made + 1
  pub is : new ≡ content_after (take made writes) old

-- memory was wanting before the first call, or the last call alone was not made
abbrev pub WantsMemory : List Change → Counts → Counts → Option Content → Option Content → Type 0
WantsMemory writes before after old new =
    ((after.ops ≡ before.ops) × (new ≡ old)) ⊎ StopsBefore writes before after old new

-- the writes of changes by an intent: it is put, they are made, and it is removed
abbrev pub intent_writes : List Coded → List Change
intent_writes changes = (intent_key, Some (changes_code changes)) ∷ (map change_of changes ++ (intent_key, None) ∷ [])

-- the writes of a commit: of one change that one alone, and of more of them those by an intent
abbrev pub commit_writes : List Coded → List Change
commit_writes [] = []
commit_writes (change ∷ []) = change_of change ∷ []
commit_writes (change ∷ more ∷ rest) = intent_writes (change ∷ more ∷ rest)

-- where damage is told, the content is as it was
abbrev pub IfDamagedSame : Option Content → Option Content → Broke → Type 0
IfDamagedSame old new = IfDamaged (λ damage. new ≡ old)

-- a store that told nothing tells nothing still
abbrev pub StaysUntold : Option Content → Option Content → Type 0
StaysUntold old new = old ≡ None → new ≡ None
