-- What a call sees of a store that it calls by an allowance, and what it makes of that.
use Rattle.std.specs.Prelude.{◌≡◌, ℕ, ◌≤◌, ◌+◌, Option, Result, IfErr}
use Rattle.pq_store.specs.Content.{Content}
use Rattle.pq_store.specs.declared.damage.Broke.{Broke}
use Rattle.pq_store.specs.declared.damage.Damage.{Damage}
use Rattle.pq_store.specs.declared.store.Store.{Ghosts}
use Rattle.pq_store.specs.Breaks.{IsAnswered}
use Rattle.pq_calls.specs.declared.calls.Calls.{Calls}
use Rattle.pq_calls.specs.World.{World, world, Reads, Explains}

abbrev pub seen_world : {S L : Type 0} → (S → Option Content) → (S → ℕ) → Calls S L → World
seen_world content faults calls =
    world (content calls.store.now) (faults calls.store.now) calls.allowance.now calls.meter.now

-- it is the same store, allowance and meter, and at most so much was read
pub record Uses {S L : Type 0} (content : S → Option Content) (faults : S
    → ℕ) (before after : Calls S L) (ops entries : ℕ) : Type 0 where
  pub same_store : after.store.ghost_name ≡ before.store.ghost_name
  pub same_allowance : after.allowance.ghost_name ≡ before.allowance.ghost_name
  pub same_meter : after.meter.ghost_name ≡ before.meter.ghost_name
  pub reads : Reads (seen_world content faults before) (seen_world content faults after) ops entries

-- why a call gives up
abbrev pub Fails : (Option Content → Damage → Type 0) → {S L : Type 0} → (S → Option Content) → (S → ℕ)
    → Calls S L → Calls S L → Broke → Type 0
Fails shows content faults before after error =
    Explains shows (seen_world content faults before) (seen_world content faults after) error

-- what calls ask: at most so much is read, in at most so many rounds, and each error has its cause
pub record Asks {S L : Type 0} (s : Ghosts S L) (shows : Option Content → Damage → Type 0) (before after : Calls S L)
    (ops entries most_rounds : ℕ) {A : Type 0} (result : Result A Broke) : Type 0 where
  pub uses : Uses s.content s.faults before after ops entries
  pub rounds : s.rounds after.store.now ≤ s.rounds before.store.now + most_rounds
  pub cause : IfErr result (Fails shows s.content s.faults before after)
  pub answered : IfErr result (IsAnswered s.answers)
