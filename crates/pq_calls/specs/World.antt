-- What calls over a store see and change, what they spend of an allowance, and why one gives up.
use Rattle.std.specs.Prelude.{◌≡◌, ℕ, ◌≤◌, ◌+◌, Option, IfSome}
use Rattle.pq_store.specs.Content.{Content, HasRisen}
use Rattle.pq_store.specs.Counts.{Counts, AllowedCounts}
pub use Rattle.pq_store.specs.Rounds.{Affords}
use Rattle.pq_store.specs.declared.damage.Broke.{Broke}
use Rattle.pq_store.specs.declared.damage.Broke.TheVariants as broke
use Rattle.pq_store.specs.declared.damage.Damage.{Damage}

-- the store's content and faults, the allowance and the meter
pub record World : Type 0 where
  pub told : Option Content
  pub faults : ℕ
  pub allowed : AllowedCounts
  pub used : Counts

abbrev pub world : Option Content → ℕ → AllowedCounts → Counts → World
world told faults allowed used = record { told = told; faults = faults; allowed = allowed; used = used }

-- the content is as it was, and what the meter rose by was spent, at most so much
pub record Reads (before after : World) (ops entries : ℕ) : Type 0 where
  pub same : after.told ≡ before.told
  pub later : before.faults ≤ after.faults
  pub granted : after.allowed.granted ≡ before.allowed.granted
  pub spent_ops : after.allowed.left.ops + after.used.ops ≡ before.allowed.left.ops + before.used.ops
  pub spent_entries : after.allowed.left.entries + after.used.entries
      ≡ before.allowed.left.entries + before.used.entries
  pub rise_ops : before.used.ops ≤ after.used.ops
  pub rise_entries : before.used.entries ≤ after.used.entries
  pub few_ops : after.used.ops ≤ before.used.ops + ops
  pub few_entries : after.used.entries ≤ before.used.entries + entries

-- ---- why a call gives up

-- what damage may be told, by the content where that is told: none, or what a told content shows
abbrev pub no_damage : Option Content → Damage → Type 0
no_damage told damage = ⊥

abbrev pub where_told : (Content → Damage → Type 0) → Option Content → Damage → Type 0
where_told shows told damage = IfSome told (λ content. shows content damage)

-- the count of faults has risen, there was no memory, or there is damage that shows
abbrev pub Explains : (Option Content → Damage → Type 0) → World → World → Broke → Type 0
Explains shows before after broke.Failed = HasRisen before.faults after.faults
Explains shows before after broke.NoMem = Unit {0}
Explains shows before after (broke.Damaged damage) = shows before.told damage
