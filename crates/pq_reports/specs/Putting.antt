-- What calls on a store make of its content.
use Rattle.std.specs.Prelude.{◌≡◌, ℕ, ◌⊎◌, Bool, true, false, List, Option, Some, None, IsSome}
use Rattle.std.specs.FinMap.{get, insert}
use Rattle.pq_store.specs.Content.{Content}

-- the key was absent, and now has the value; or it was there, and nothing changed
abbrev pub PutsNew : Bool → List ℕ → List ℕ → Option Content → Option Content → Type 0
PutsNew fresh key value None now = now ≡ None
PutsNew true key value (Some content) now = (get content key ≡ None) × (now ≡ Some (insert content key value))
PutsNew false key value (Some content) now = IsSome (get content key) × (now ≡ Some content)

-- nothing changed, or the key was absent and now has the value
abbrev pub MayPut : List ℕ → List ℕ → Option Content → Option Content → Type 0
MayPut key value None now = now ≡ None
MayPut key value (Some content) now = (now ≡ Some content)
    ⊎ ((get content key ≡ None) × (now ≡ Some (insert content key value)))
