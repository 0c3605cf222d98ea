-- A content has one first flaw, and none where it tells a schema.
use Rattle.std.proofs.Common.{◌≡◌, ℕ, List, [], Option, Some, None, Result, Ok, Err, refl, sym, ap, ◌∙◌, subst, inl, inr}
use Rattle.std.specs.Prelude.{IfSome}
use Rattle.std.specs.FinMap.{get}
use Rattle.std.specs.Io.KnownBytes.{append_known}
use Rattle.pq_store.specs.Content.{Content}
use Rattle.pq_store.specs.declared.damage.Damage.{Damage}
use Rattle.pq_store.specs.declared.damage.Broke.{Broke}
use Rattle.pq_store.specs.declared.damage.Broke.TheVariants.{Failed, NoMem, Damaged}
use Rattle.pq_schema.specs.Schema.{Schema}
use Rattle.pq_print.specs.Report.{damage_line}
use Rattle.pq_content.specs.Standing.{SettlesTo}
use Rattle.pq_key_code.specs.KeyCode.{intent_key}
use Rattle.pq_content.proofs.Settling.{settles_once}
use Rattle.pq_intent.specs.Settling.{IsNoIntent}
use Rattle.pq_intent.proofs.Ends.{no_settling}
use Rattle.pq_catalog.specs.declared.format.Mark.TheVariants.{Building}
use Rattle.pq_opening.specs.Opening.{SchemaAndMark, none_added, added_from, catalog_in, TellsSchema, ShowsFlaw, NamesFlaw}
use Rattle.pq_shell.specs.Flaw.{IsFlaw, HaltsAtFlaw, StopsAtFlaw, EndsAtFlaw}
use Rattle.pq_shell.specs.Run.{Closes}
use Rattle.pq_console.specs.Stops.{stop_of_broke}
use Rattle.pq_shell.specs.declared.serving.Ended.{Ended}
use Rattle.pq_shell.specs.declared.status.Status.{Status}
use Rattle.pq_shell.specs.declared.status.Status.TheVariants as status
use Rattle.pq_console.specs.declared.stop.Stop.{Stop}
use Rattle.pq_console.specs.declared.stop.Stop.TheVariants as stops

abbrev Flaw : Type 0
Flaw = List ℕ × List ℕ

abbrev key_or : List ℕ → Result SchemaAndMark Flaw → List ℕ
key_or other (Ok added) = other
key_or other (Err flaw) = flaw.0

abbrev IsErrAnswer : Result SchemaAndMark Flaw → Type 0
IsErrAnswer (Ok added) = ⊥
IsErrAnswer (Err flaw) = Unit {0}

-- a value that is no intent settles to nothing
no_intent_settles : (c settled : Content) (value : List ℕ) → get c intent_key ≡ Some value → IsNoIntent value → SettlesTo c settled → ⊥
no_intent_settles c settled value found none settles = no_settling c settled value (Some c) refl found none (record { pairs = c; told = refl; settles = settles })

one_flaw : (c : Content) (key : List ℕ) (damage : Damage) → IsFlaw c key → ShowsFlaw c damage → damage.key ≡ key
one_flaw c key damage flaw named =
    elim flaw.1.2 [
      | inl a ↦ elim named.2 [
        | inl b ↦ b.0 ∙ sym a.0
        | inr b ↦ absurd (no_intent_settles c b.0 flaw.1.0 a.1 a.2 b.1)
      ]
      | inr a ↦ elim named.2 [
        | inl b ↦ absurd (no_intent_settles c a.0 named.0 b.1 b.2 a.1)
        | inr b ↦ ap (key_or []) (sym b.2 ∙ ap (λ (s : Content). added_from none_added (catalog_in s)) (settles_once c b.0 a.0 b.1 a.1) ∙ a.2)
      ]
    ]

-- what settles to definitions has no flaw
no_flaw_in : (c settled : Content) (added : SchemaAndMark) (key : List ℕ) → SettlesTo c settled → added_from none_added (catalog_in settled) ≡ Ok added → IsFlaw c key → ⊥
no_flaw_in c settled added key settles is flaw =
    elim flaw.1.2 [
      | inl a ↦ no_intent_settles c settled flaw.1.0 a.1 a.2 settles
      | inr a ↦ subst IsErrAnswer (sym a.2 ∙ ap (λ (s : Content). added_from none_added (catalog_in s)) (settles_once c a.0 settled a.1 settles) ∙ is) tt
    ]

same_flaw : (c : Content) (key : List ℕ) (damage : Damage) → IsFlaw c key → NamesFlaw c (Damaged damage) → damage.key ≡ key
same_flaw c key damage flaw (inl named) = one_flaw c key damage flaw named
same_flaw c key damage flaw (inr left) = absurd (no_flaw_in c left.settled (left.schema, Building) key left.settles left.left flaw)

no_flaw : (c : Content) (schema : Schema) (key : List ℕ) → TellsSchema c schema → IsFlaw c key → ⊥
no_flaw c schema key told flaw = no_flaw_in c told.settled (schema, told.mark) key told.settles told.opened flaw

-- ---- the opening

-- over a content, where this key is its first flaw
abbrev pub AtFlaws : Option Content → (List ℕ → Type 0) → Type 0
AtFlaws content P = IfSome content (λ pairs. (key : List ℕ) → IsFlaw pairs key → P key)

pub broke_at_flaw : (content : Option Content) (broke : Broke) (held : Option (List ℕ)) → IfSome content (λ pairs. NamesFlaw pairs broke) → AtFlaws content (λ key. HaltsAtFlaw key (stop_of_broke broke) held held)
broke_at_flaw None broke held named = tt
broke_at_flaw (Some c) Failed held named = λ key flaw. tt
broke_at_flaw (Some c) NoMem held named = λ key flaw. tt
broke_at_flaw (Some c) (Damaged damage) held named = λ key flaw. (same_flaw c key damage flaw named, refl)

-- where the content tells a schema, it has no flaw
pub told_at_flaw : (content : Option Content) (schema : Schema) (P : List ℕ → Type 0) → IfSome content (λ pairs. TellsSchema pairs schema) → AtFlaws content P
told_at_flaw None schema P told = tt
told_at_flaw (Some c) schema P told = λ key flaw. absurd (no_flaw c schema key told flaw)

-- ---- the run

-- after an opening that was answered there is no flaw
pub never_at_flaw : (content : Option Content) (P : List ℕ → Type 0) → AtFlaws content (λ key. ⊥) → AtFlaws content P
never_at_flaw None P never = tt
never_at_flaw (Some c) P never = λ key flaw. absurd (never key flaw)

closed_at_flaw : (key : List ℕ) (outcome : Result Ended Stop) (is : Status) (held mid held_now : Option (List ℕ)) → StopsAtFlaw key outcome held mid → Closes outcome is mid held_now → EndsAtFlaw key is held held_now
closed_at_flaw key (Ok ended) is held mid held_now at closes = absurd at
closed_at_flaw key (Err stops.StoreFailed) is held mid held_now at closes = subst (λ (s : Status). EndsAtFlaw key s held held_now) (sym closes.0) tt
closed_at_flaw key (Err stops.WriteFailed) is held mid held_now at closes = subst (λ (s : Status). EndsAtFlaw key s held held_now) (sym closes.0) tt
closed_at_flaw key (Err stops.NoMem) is held mid held_now at closes = subst (λ (s : Status). EndsAtFlaw key s held held_now) (sym closes.0) tt
closed_at_flaw key (Err (stops.Damaged damage)) status.Damaged held mid held_now at closes = closes ∙ (λ i. append_known (at.1 i) (damage_line (at.0 i)))
closed_at_flaw key (Err (stops.Damaged damage)) status.WriteFault held mid held_now at closes = tt
closed_at_flaw key (Err (stops.Damaged damage)) status.NoMem held mid held_now at closes = tt
closed_at_flaw key (Err (stops.Damaged damage)) status.Good held mid held_now at closes = absurd closes
closed_at_flaw key (Err (stops.Damaged damage)) status.SomeRefused held mid held_now at closes = absurd closes
closed_at_flaw key (Err (stops.Damaged damage)) status.Usage held mid held_now at closes = absurd closes
closed_at_flaw key (Err (stops.Damaged damage)) status.ReadFault held mid held_now at closes = absurd closes
closed_at_flaw key (Err (stops.Damaged damage)) status.StoreFault held mid held_now at closes = tt
closed_at_flaw key (Err (stops.Damaged damage)) status.TooLong held mid held_now at closes = absurd closes

pub ends_at_flaw : (content : Option Content) (outcome : Result Ended Stop) (is : Status) (held mid held_now : Option (List ℕ)) → AtFlaws content (λ key. StopsAtFlaw key outcome held mid) → Closes outcome is mid held_now → AtFlaws content (λ key. EndsAtFlaw key is held held_now)
ends_at_flaw None outcome is held mid held_now at closes = tt
ends_at_flaw (Some c) outcome is held mid held_now at closes = λ key flaw. closed_at_flaw key outcome is held mid held_now (at key flaw) closes
