-- Why a run stops, and what its faults show.
use Rattle.std.specs.Prelude.{◌≡◌, ℕ, ◌≤◌, List, Option, Result, IsErrOf}
use Rattle.std.specs.Io.KnownBytes.{append_known}
use Rattle.pq_store.specs.Content.{HasRisen}
use Rattle.pq_store.specs.declared.damage.Broke.{Broke}
use Rattle.pq_store.specs.declared.damage.Broke.TheVariants as broke
use Rattle.pq_console.specs.Outside.{IsCut}
use Rattle.pq_console.specs.declared.stop.Stop.{Stop}
use Rattle.pq_console.specs.declared.stop.Stop.TheVariants as stops

-- why a run stops where a session breaks off
abbrev pub stop_of_broke : Broke → Stop
stop_of_broke broke.Failed = stops.StoreFailed
stop_of_broke broke.NoMem = stops.NoMem
stop_of_broke (broke.Damaged damage) = stops.Damaged damage

-- what a text that was cut off, or not begun, leaves in the sink
abbrev pub CutsOff : Stop → List ℕ → Option (List ℕ) → Option (List ℕ) → Type 0
CutsOff stops.StoreFailed text held held_now = ⊥
CutsOff (stops.Damaged damage) text held held_now = ⊥
CutsOff stops.NoMem text held held_now = held_now ≡ held
CutsOff stops.WriteFailed text held held_now = (part : List ℕ) × IsCut part text × (held_now ≡ append_known held part)

-- no count of faults has fallen, and each fault has its cause
pub record Causes {A : Type 0} (store store_now sink sink_now : ℕ) (result : Result A Stop) : Type 0 where
  pub store_later : store ≤ store_now
  pub sink_later : sink ≤ sink_now
  pub store_failed : IsErrOf result stops.StoreFailed → HasRisen store store_now
  pub write_failed : IsErrOf result stops.WriteFailed → HasRisen sink sink_now
