-- Runs over a content whose intent or catalog is flawed.
use Rattle.std.specs.Prelude.{◌≡◌, ℕ, List, Option, Some, Result, Ok, Err, IfSome}
use Rattle.std.specs.Io.KnownBytes.{append_known}
use Rattle.pq_store.specs.Content.{Content}
use Rattle.pq_print.specs.Report.{damage_line}
use Rattle.pq_opening.specs.Opening.{ShowsFlaw}
use Rattle.pq_shell.specs.declared.status.Status.{Status}
use Rattle.pq_shell.specs.declared.status.Status.TheVariants as status
use Rattle.pq_console.specs.declared.stop.Stop.{Stop}
use Rattle.pq_console.specs.declared.stop.Stop.TheVariants as stops

-- the key of the content's first flaw
abbrev pub IsFlaw : Content → List ℕ → Type 0
IsFlaw content key = (value : List ℕ) × ShowsFlaw content (record { key = key; value = Some value })

-- the run stopped: for the flaw, with nothing written; or a call failed, or there was no memory
abbrev pub HaltsAtFlaw : List ℕ → Stop → Option (List ℕ) → Option (List ℕ) → Type 0
HaltsAtFlaw key (stops.Damaged damage) held held_now = (damage.key ≡ key) × (held_now ≡ held)
HaltsAtFlaw key stops.StoreFailed held held_now = Unit {0}
HaltsAtFlaw key stops.WriteFailed held held_now = Unit {0}
HaltsAtFlaw key stops.NoMem held held_now = Unit {0}

abbrev pub StopsAtFlaw : {A : Type 0} → List ℕ → Result A Stop → Option (List ℕ) → Option (List ℕ) → Type 0
StopsAtFlaw key (Ok answer) held held_now = ⊥
StopsAtFlaw key (Err stop) held held_now = HaltsAtFlaw key stop held held_now

-- the line that names the flaw is all that was written; or a call failed, or there was no memory
abbrev pub EndsAtFlaw : List ℕ → Status → Option (List ℕ) → Option (List ℕ) → Type 0
EndsAtFlaw key status.Damaged held held_now = held_now ≡ append_known held (damage_line key)
EndsAtFlaw key status.WriteFault held held_now = Unit {0}
EndsAtFlaw key status.StoreFault held held_now = Unit {0}
EndsAtFlaw key status.NoMem held held_now = Unit {0}
EndsAtFlaw key _ held held_now = ⊥

-- over a told content with a flaw the run stops so, or ends so
abbrev pub StopsWhereFlawed : {A : Type 0} → Option Content → Result A Stop → Option (List ℕ) → Option (List ℕ) → Type 0
StopsWhereFlawed told outcome held held_now =
    IfSome told (λ content. (key : List ℕ) → IsFlaw content key → StopsAtFlaw key outcome held held_now)

abbrev pub EndsWhereFlawed : Option Content → Status → Option (List ℕ) → Option (List ℕ) → Type 0
EndsWhereFlawed told status held held_now =
    IfSome told (λ content. (key : List ℕ) → IsFlaw content key → EndsAtFlaw key status held held_now)
