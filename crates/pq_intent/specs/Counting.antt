-- The numbers of a settling.
use Rattle.std.specs.Prelude.{◌≡◌, ℕ, ◌+◌, ◌<◌, List, length, Option, Some, None, IfSome, MatchOption}
use Rattle.std.specs.FinMap.{get}
use Rattle.pq_row_code.specs.declared.changes.Change.{Change as Coded}
use Rattle.pq_store.specs.Content.{Content}
use Rattle.pq_key_code.specs.KeyCode.{intent_key}
use Rattle.pq_intent.specs.Settling.{IsIntentOf}
use Rattle.pq_intent.specs.declared.settles.Settled.{Settled}

-- no intent: one read
abbrev pub nothing_settled : Settled
nothing_settled = record { changes = 0; used = record { ops = 1; entries = 0 } }

-- an intent of so many changes: one read with its entry, the changes, and the removal of the intent
abbrev pub settled_changes : ℕ → Settled
settled_changes changes = record { changes = changes; used = record { ops = changes + 2; entries = 1 } }

-- an intent with this value is settled
pub record CountsIntent (value : List ℕ) (settled : Settled) : Type 0 where
  pub changes : List Coded
  pub intent : IsIntentOf changes value
  pub counts : settled ≡ settled_changes (length changes)

-- the numbers are those of what the content has at the intent's key
abbrev pub CountsChanges : Content → Settled → Type 0
CountsChanges content settled = MatchOption (get content intent_key) (settled ≡ nothing_settled)
    (λ value. CountsIntent value settled)

-- so many changes, where there are any, fit in an intent
abbrev pub AreFewChanges : Option ℕ → Type 0
AreFewChanges changes = IfSome changes (λ many. many < 65536)

-- the numbers of an intent of so many changes, or of none
abbrev pub settled_of : Option ℕ → Settled
settled_of None = nothing_settled
settled_of (Some changes) = settled_changes changes

-- the numbers are those of an intent or of none
pub record HasNumbers (settled : Settled) : Type 0 where
  pub changes : Option ℕ
  pub few : AreFewChanges changes
  pub is : settled ≡ settled_of changes

-- ---- how many changes a content has at the intent's key

-- an intent with so many changes
pub record IsIntentOfMany (value : List ℕ) (many : Option ℕ) : Type 0 where
  pub changes : List Coded
  pub intent : IsIntentOf changes value
  pub many_are : many ≡ Some (length changes)

-- or none
abbrev pub HasChanges : Content → Option ℕ → Type 0
HasChanges content many = MatchOption (get content intent_key) (many ≡ None) (λ value. IsIntentOfMany value many)
