-- A step is what its call leaves, whatever becomes of the call.
use Rattle.std.proofs.Common.{◌≡◌, ℕ, zero, suc, ◌==◌, Bool, true, false, cond, List, [], ◌∷◌, Some, refl, sym, subst}
use Rattle.std.specs.List.{AllByRecursion, slice_get}
use Rattle.std.specs.Prelude.{slice_set}
use Rattle.std.proofs.lemmas.Bool.{eqb-false, ne_eqb}
use Rattle.pq_schema.specs.declared.table.Table.{Table}
use Rattle.pq_store.specs.Content.{Content}
use Rattle.pq_clients.specs.declared.outcome.Outcome.TheVariants as outcome
use Rattle.pq_clients.specs.declared.outcome.Step.TheVariants as step
use Rattle.pq_clients.specs.Clients.{View, is_over}
use Rattle.pq_clients.specs.Steps.{Then, Ends, gone_on, After, after_call, Fate, Answers, NotDone, DoneUnseen, NoMemory, met, stepped}
use Rattle.pq_clients.proofs.Whole.{Differ, at_place}

module _ (tables : List Table) where
  -- what the call leaves, and how the write goes on
  abbrev pub call_by : View → Content → Fate → Content × Then
  call_by v c Answers = gone_on tables v v.next c
  call_by v c NotDone = (c, Ends outcome.Failed)
  call_by v c DoneUnseen = ((gone_on tables v v.next c).0, Ends outcome.Failed)
  call_by v c NoMemory = (c, Ends outcome.NoMem)

  met_call : (v : View) (c : Content) (fate : Fate) → after_call v (call_by v c fate) ≡ met tables v c fate
  met_call v c Answers = refl
  met_call v c NotDone = refl
  met_call v c DoneUnseen = refl
  met_call v c NoMemory = refl

  pub by_call : (v : View) (c : Content) (fate : Fate) (P : After → Type 0) → (is_over v ≡ true → P (record { content = c; view = v; step = step.Over }))
      → (is_over v ≡ false → P (after_call v (call_by v c fate))) → P (stepped tables v c fate)
  by_call v c fate P over going = by (is_over v) refl
    where
      by : (b : Bool) → is_over v ≡ b → P (cond b (record { content = c; view = v; step = step.Over }) (met tables v c fate))
      by true e = over e
      by false e = subst P (met_call v c fate) (going e)

-- one client's view is another, and what is said of the others is changed to something else
pub set_others : (P Q : View → Type 0) (vs : List View) (p : ℕ) (v w : View) → Differ vs → slice_get vs p ≡ Some v
    → ((u : View) → (v.number == u.number) ≡ false → P u → Q u) → Q w → AllByRecursion P vs → AllByRecursion Q (slice_set vs p w)
set_others P Q [] p v w d is change h all = tt
set_others P Q (x ∷ vs) zero v w d is change h all = (h, each vs d.0 all.1)
  where
    here : x ≡ v
    here = cc

    each : (us : List View) → AllByRecursion (λ (u : View). (x.number == u.number) ≡ false) us → AllByRecursion P us → AllByRecursion Q us
    each [] apart all = tt
    each (u ∷ us) apart all = (change u (subst (λ (v : View). (v.number == u.number) ≡ false) here apart.0) all.0, each us apart.1 all.1)
set_others P Q (x ∷ vs) (suc p) v w d is change h all =
    let apart = at_place (λ (u : View). (x.number == u.number) ≡ false) vs p v d.0 is in
    (change x (ne_eqb v.number x.number (λ e. eqb-false x.number v.number apart (sym e))) all.0, set_others P Q vs p v w d.1 is change h all.1)
