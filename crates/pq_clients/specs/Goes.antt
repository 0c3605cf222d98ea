-- What a call of a store leaves and answers, over every store.
use Rattle.std.specs.Prelude.{◌≡◌, ℕ, ◌+◌, ◌≤◌, ◌⊎◌, Option, IfSome, option_map, Result, Ok, Err}
use Rattle.pq_base.specs.declared.list.NoMem.{NoMem}
use Rattle.pq_store.specs.Content.{Content, HasRisen}
use Rattle.pq_store.specs.Counts.{Counts}
use Rattle.pq_store.specs.declared.store.StoreErr.{StoreErr}
use Rattle.pq_store.specs.declared.store.StoreErr.TheVariants as store_err
use Rattle.pq_clients.specs.declared.halt.Halt.{Halt}
use Rattle.pq_clients.specs.declared.halt.Halt.TheVariants as halt

-- what a caller hands on of a store's error
abbrev pub halt_of : StoreErr → Halt
halt_of store_err.Failed = halt.Failed
halt_of store_err.NoMem = halt.NoMem

-- want of memory is handed on
abbrev pub Memory : {A : Type 0} → Result A NoMem → Result A Halt → Type 0
Memory (Ok a) result = result ≡ Ok a
Memory (Err error) result = result ≡ Err halt.NoMem

-- a store's content where it tells it, its faults, and what the meter counted
pub record Spot : Type 0 where
  pub told : Option Content
  pub faults : ℕ
  pub used : Counts

abbrev pub spot : Option Content → ℕ → Counts → Spot
spot told faults used = record { told = told; faults = faults; used = used }

-- one call was made, which leaves this of a content
pub record Called (leaves : Content → Content) (before after : Spot) : Type 0 where
  pub told : after.told ≡ option_map leaves before.told
  pub later : before.faults ≤ after.faults
  pub once : after.used.ops ≡ before.used.ops + 1

-- one call was made and failed, done or not
pub record Fell (leaves : Content → Content) (before after : Spot) : Type 0 where
  pub told : (after.told ≡ before.told) ⊎ (after.told ≡ option_map leaves before.told)
  pub later : before.faults ≤ after.faults
  pub risen : HasRisen before.faults after.faults
  pub once : after.used.ops ≡ before.used.ops + 1

-- there was no memory, before the one call or for it, and the content is as it was
pub record Starved (before after : Spot) : Type 0 where
  pub told : after.told ≡ before.told
  pub later : before.faults ≤ after.faults
  pub once : (after.used.ops ≡ before.used.ops) ⊎ (after.used.ops ≡ before.used.ops + 1)

abbrev pub Halts : (Content → Content) → Spot → Spot → Halt → Type 0
Halts leaves before after halt.Failed = Fell leaves before after
Halts leaves before after halt.NoMem = Starved before after

-- the answer, as it is seen, and what is left, are those of this function where a content is told
abbrev pub Goes : {R T : Type 0} → (R → T) → (Content → Content × T) → Spot → Spot → Result R Halt → Type 0
Goes see gone before after (Ok r) =
    (IfSome before.told (λ c. see r ≡ (gone c).1)) × Called (λ c. (gone c).0) before after
Goes see gone before after (Err halt) = Halts (λ c. (gone c).0) before after halt
