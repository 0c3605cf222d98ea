-- Why a call broke off.
use Rattle.std.specs.Prelude.{◌≡◌, List, ℕ, Some, ⊤}
use Rattle.std.specs.FinMap.{get}
use Rattle.pq_store.specs.declared.damage.Broke.{Broke}
use Rattle.pq_store.specs.declared.damage.Broke.TheVariants.{Failed, NoMem, Damaged}
use Rattle.pq_store.specs.Content.{Content}
use Rattle.pq_key_code.specs.KeyCode.{intent_key}
use Rattle.pq_intent.specs.Settling.{IsNoIntent}

-- damage names the intent's key with what the content has there, which is no intent
abbrev pub ShowsNoIntent : Content → Broke → Type 0
ShowsNoIntent content Failed = ⊤
ShowsNoIntent content NoMem = ⊤
ShowsNoIntent content (Damaged damage) = (value : List ℕ) × (damage.key ≡ intent_key)
    × (damage.value ≡ Some value) × (get content intent_key ≡ Some value) × IsNoIntent value
