-- Contents with an intent, and without one.
use Rattle.std.specs.Prelude.{◌≡◌, ◌⊎◌, ℕ, List, [], ◌∷◌, ◌++◌, map, Option, Some, None}
use Rattle.std.specs.FinMap.{get}
use Rattle.pq_row_code.specs.declared.changes.Change.{Change as Coded}
use Rattle.pq_row_code.specs.Changes.{changes_code, AreChanges}
use Rattle.pq_store.specs.Content.{Content}
use Rattle.pq_content.specs.Standing.{change_of, AreIntended, SettlesTo}
use Rattle.pq_key_code.specs.KeyCode.{intent_key}
use Rattle.pq_intent.specs.Changing.{IsPartway}

-- changes that an intent may hold, whose code is this value
pub record IsIntentOf (changes : List Coded) (value : List ℕ) : Type 0 where
  pub code : changes_code changes ≡ value
  pub coded : AreChanges changes
  pub intended : AreIntended (map change_of changes)

-- no such changes have this code
abbrev pub IsNoIntent : List ℕ → Type 0
IsNoIntent value = (changes : List Coded) → IsIntentOf changes value → ⊥

-- a told content that has no intent
pub record IsSettled (content : Option Content) (settled : Content) : Type 0 where
  pub told : content ≡ Some settled
  pub no_intent : get settled intent_key ≡ None

-- a told content that settles to this one
pub record Settles (content : Option Content) (settled : Content) : Type 0 where
  pub pairs : Content
  pub told : content ≡ Some pairs
  pub settles : SettlesTo pairs settled

-- a told content that has an intent, whatever its value
pub record HasIntent (content : Option Content) : Type 0 where
  pub pairs : Content
  pub told : content ≡ Some pairs
  pub value : List ℕ
  pub found : get pairs intent_key ≡ Some value

-- what a content settles to is there after a settling
pub record LeavesSettled (pairs : Content) (new : Option Content) : Type 0 where
  pub settled : Content
  pub settles : SettlesTo pairs settled
  pub stands : IsSettled new settled

-- the content has an intent, of whose changes with its removal behind them some are made, from the first on
pub record IsPartSettled (pairs : Content) (new : Option Content) : Type 0 where
  pub value : List ℕ
  pub found : get pairs intent_key ≡ Some value
  pub changes : List Coded
  pub intent : IsIntentOf changes value
  pub partway : IsPartway (map change_of changes ++ (intent_key, None) ∷ []) (Some pairs) new

-- where a settling stops: the content as it was, or with some of the changes of its intent
abbrev pub StopsSettling : Content → Option Content → Type 0
StopsSettling pairs new = (new ≡ Some pairs) ⊎ IsPartSettled pairs new
