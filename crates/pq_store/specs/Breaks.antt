-- The errors of calls over a store, and what damage of a content they tell.
use Rattle.std.specs.Prelude.{◌≡◌, ◌⊎◌, ℕ, List, Option, Some, None}
use Rattle.std.specs.FinMap.{get}
use Rattle.pq_store.specs.Content.{Content}
use Rattle.pq_store.specs.declared.store.StoreErr.{StoreErr}
use Rattle.pq_store.specs.declared.store.StoreErr.TheVariants as store_err
use Rattle.pq_store.specs.declared.damage.Broke.{Broke}
use Rattle.pq_store.specs.declared.damage.Broke.TheVariants as broke
use Rattle.pq_store.specs.declared.damage.Damage.{Damage}

-- what a caller hands on of a store's error
abbrev pub broke_of : StoreErr → Broke
broke_of store_err.Failed = broke.Failed
broke_of store_err.NoMem = broke.NoMem

-- whatever damage is told has this
abbrev pub IfDamaged : (Damage → Type 0) → Broke → Type 0
IfDamaged shows broke.Failed = Unit {0}
IfDamaged shows broke.NoMem = Unit {0}
IfDamaged shows (broke.Damaged damage) = shows damage

-- no damage is told
abbrev pub IsUndamaged : Broke → Type 0
IsUndamaged = IfDamaged (λ damage. ⊥)

-- damage is told with a key and the value that a call may answer for it
abbrev pub IsAnswered : (List ℕ → Option (List ℕ) → Type 0) → Broke → Type 0
IsAnswered answers = IfDamaged (λ damage. answers damage.key damage.value)

-- or of this key, without a value
abbrev pub IsAnsweredBut : (List ℕ → Option (List ℕ) → Type 0) → List ℕ → Broke → Type 0
IsAnsweredBut answers key = IfDamaged (λ damage. answers damage.key damage.value
    ⊎ ((damage.key ≡ key) × (damage.value ≡ None)))

-- the key, which had to be absent, has a value
pub record IsPresent (key : List ℕ) (content : Content) (damage : Damage) : Type 0 where
  pub value : List ℕ
  pub at : damage.key ≡ key
  pub has : damage.value ≡ None
  pub there : get content key ≡ Some value
