-- What damage is told with where a run stops for it.
use Rattle.std.specs.Prelude.{◌≡◌, ◌⊎◌, ℕ, List, Option, None, Result}
use Rattle.pq_base.specs.declared.refusal.Refusal.{Refusal}
use Rattle.pq_store.specs.Breaks.{IsAnsweredBut}
use Rattle.pq_store.specs.declared.damage.Broke.TheVariants as broke
use Rattle.pq_store.specs.declared.damage.Damage.{Damage}
use Rattle.pq_key_code.specs.KeyCode.{catalog_key}
use Rattle.pq_schema.specs.Schema.{Schema}
use Rattle.pq_statement.specs.Actions.{Action}
use Rattle.pq_reports.specs.Evidence.{AnswersFor}
use Rattle.pq_catalog.specs.Stands.{next_key}
use Rattle.pq_opening.specs.Opening.{HasAnswer}
use Rattle.pq_console.specs.declared.stop.Stop.{Stop}
use Rattle.pq_console.specs.declared.stop.Stop.TheVariants as stops

-- damage is told with a key and the value that a call may answer for it; or without it, with a key for which a call
-- may answer one, or with that of a definition
abbrev pub IsAnsweredDamage : (List ℕ → Option (List ℕ) → Type 0) → Damage → Type 0
IsAnsweredDamage answers damage = answers damage.key damage.value
    ⊎ ((damage.value ≡ None) × (HasAnswer answers damage.key ⊎ ((n : ℕ) × (damage.key ≡ catalog_key n))))

-- where the opening stops for damage
abbrev pub IsAnsweredStop : (List ℕ → Option (List ℕ) → Type 0) → Stop → Type 0
IsAnsweredStop answers stops.StoreFailed = Unit {0}
IsAnsweredStop answers stops.WriteFailed = Unit {0}
IsAnsweredStop answers stops.NoMem = Unit {0}
IsAnsweredStop answers (stops.Damaged damage) = IsAnsweredDamage answers damage

-- and where a statement does: with a key and the value that a call may answer to what is asked for; or, where an index
-- is made, with the key of the next definition, and no value
abbrev pub IsAnsweredFor : Schema → (List ℕ → Option (List ℕ) → Type 0) → Result Action Refusal → Damage → Type 0
IsAnsweredFor schema answers asked damage =
    IsAnsweredBut (AnswersFor schema asked answers) (next_key schema) (broke.Damaged damage)
