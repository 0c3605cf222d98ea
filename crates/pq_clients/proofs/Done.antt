-- Done is told exactly where the free of an own row is answered with true.
use Rattle.std.proofs.Common.{◌≡◌, ℕ, Bool, true, false, cond, List, ◌∷◌, Option, Some, None, refl, sym, ap, ◌∙◌}
use Rattle.std.specs.FinMap.{get}
use Rattle.std.proofs.lemmas.Bool.{false≢true}
use Rattle.pq_schema.specs.declared.table.Table.{Table}
use Rattle.pq_store.specs.Content.{Content, written_content}
use Rattle.pq_index_keep.specs.declared.write.Write.{Write}
use Rattle.pq_clients.specs.declared.outcome.Outcome.{Outcome}
use Rattle.pq_clients.specs.declared.outcome.Outcome.TheVariants as outcome
use Rattle.pq_clients.specs.declared.outcome.Step.{Step}
use Rattle.pq_clients.specs.declared.outcome.Step.TheVariants as step
use Rattle.pq_clients.specs.Held.{held_value}
use Rattle.pq_clients.specs.Flights.{Flight, flight_key, new_code, fresh_entries, stale_entries, flight_checks, check_refusal, test_refusal}
use Rattle.pq_clients.specs.Clients.{Checking, Adding, Testing, Putting, Clearing, Freeing, Undoing, Releasing, Next, Reading, Taking, Looking, Flying, View, write_at, is_over}
use Rattle.pq_clients.specs.Steps.{is_just, read_on, Then, On, Puts, Ends, testing, checking, clearing, undoing, passes, has_room, refused, damaged, gone_on, after_call, Fate, Answers, NotDone, DoneUnseen, NoMemory, met, stepped}
use Rattle.pq_clients.specs.Promises.{Frees, TellsOutcome}
use Rattle.pq_clients.proofs.EndsWith.{ends_with, if_not, cond_not, reads_not}
use Rattle.pq_clients.proofs.Shaped.{just_this, just_itself}

module _ (tables : List Table) where
  unfoldable pub is_done : Outcome → Bool
  is_done outcome.Done = true
  is_done (outcome.Refused r) = false
  is_done (outcome.Busy found) = false
  is_done (outcome.Conflict read found) = false
  is_done outcome.Failed = false
  is_done outcome.NoMem = false
  is_done (outcome.Damaged d) = false

  reads_done : (client : ℕ) (w : Option Write) (c : Content) → ends_with is_done (read_on tables client w c).1 ≡ false
  unfolding is_done
  reads_done client w c = reads_not tables is_done (λ r. refl) (λ found. refl) (λ damage. refl) client w c

  -- the guard of a free
  abbrev pub Own : View → Content → Flight → Type 0
  Own v c f = is_just (Some (held_value v.number v.at (new_code tables f))) (get c (flight_key tables f)) ≡ true

  abbrev pub AtFree : View → Content → Next → Type 0
  AtFree v c next = (f : Flight) × (next ≡ Flying f Freeing) × Own v c f

  not_done : (v : View) (c : Content) (next : Next) (t : Then) → ends_with is_done t ≡ false → ends_with is_done t ≡ true → AtFree v c next
  not_done v c next t h e = absurd (false≢true (sym h ∙ e))

  gone_done : (v : View) (c : Content) (next : Next) → ends_with is_done (gone_on tables v next c).1 ≡ true → AtFree v c next
  unfolding is_done
  gone_done v c Reading = not_done v c Reading (read_on tables v.number (write_at v.writes v.at) c).1 (reads_done v.number (write_at v.writes v.at) c)
  gone_done v c (Taking g) = not_done v c (Taking g) (gone_on tables v (Taking g) c).1 (cond_not is_done (is_just g.read (get c (flight_key tables g))) (written_content (flight_key tables g) (Some (held_value v.number v.at g.read)) c) c (On (Flying g (checking tables g (flight_checks tables g)))) (On (Looking g)) refl refl)
  gone_done v c (Looking g) = not_done v c (Looking g) (gone_on tables v (Looking g) c).1 refl
  gone_done v c (Flying g (Checking check left)) = not_done v c (Flying g (Checking check left)) (gone_on tables v (Flying g (Checking check left)) c).1 (if_not is_done (passes tables check c) (On (Flying g (checking tables g left))) (On (Flying g (Releasing (check_refusal tables g check)))) refl refl)
  gone_done v c (Flying g (Adding entry left added)) = not_done v c (Flying g (Adding entry left added)) (gone_on tables v (Flying g (Adding entry left added)) c).1 refl
  gone_done v c (Flying g (Testing place left passed)) = not_done v c (Flying g (Testing place left passed)) (gone_on tables v (Flying g (Testing place left passed)) c).1 (if_not is_done (has_room tables g place c) (On (Flying g (testing left (place ∷ passed)))) (On (Flying g (undoing (fresh_entries tables g) (test_refusal tables g place)))) refl refl)
  gone_done v c (Flying g Putting) = not_done v c (Flying g Putting) (gone_on tables v (Flying g Putting) c).1 (cond_not is_done (is_just (Some (held_value v.number v.at g.read)) (get c (flight_key tables g))) (written_content (flight_key tables g) (Some (held_value v.number v.at (new_code tables g))) c) c (Puts (Flying g (clearing (stale_entries tables g)))) (damaged (flight_key tables g) None) refl refl)
  gone_done v c (Flying g (Clearing entry left)) = not_done v c (Flying g (Clearing entry left)) (gone_on tables v (Flying g (Clearing entry left)) c).1 refl
  gone_done v c (Flying g Freeing) = by (is_just (Some (held_value v.number v.at (new_code tables g))) (get c (flight_key tables g))) refl
    where
      by : (b : Bool) → is_just (Some (held_value v.number v.at (new_code tables g))) (get c (flight_key tables g)) ≡ b → ends_with is_done (cond {A = Content × Then} b (written_content (flight_key tables g) (new_code tables g) c, Ends outcome.Done) (c, damaged (flight_key tables g) None)).1 ≡ true → AtFree v c (Flying g Freeing)
      by true h e = (g, refl, h)
      by false h e = absurd (false≢true e)
  gone_done v c (Flying g (Undoing entry left r)) = not_done v c (Flying g (Undoing entry left r)) (gone_on tables v (Flying g (Undoing entry left r)) c).1 refl
  gone_done v c (Flying g (Releasing r)) = not_done v c (Flying g (Releasing r)) (gone_on tables v (Flying g (Releasing r)) c).1 (cond_not is_done (is_just (Some (held_value v.number v.at g.read)) (get c (flight_key tables g))) (written_content (flight_key tables g) g.read c) c (refused r) (damaged (flight_key tables g) None) refl refl)

  unfoldable pub step_done : Step → Bool
  step_done step.Moved = false
  step_done (step.Put wrote) = false
  step_done (step.Tells told) = is_done told.outcome
  step_done step.Over = false

  call_done : (v : View) (c : Content) (t : Then) → step_done (after_call v (c, t)).step ≡ ends_with is_done t
  unfolding step_done
  call_done v c (On next) = refl
  call_done v c (Puts next) = refl
  call_done v c (Ends o) = refl

  met_done : (v : View) (c : Content) (fate : Fate) → step_done (met tables v c fate).step ≡ true → (fate ≡ Answers) × AtFree v c v.next
  unfolding step_done is_done
  met_done v c Answers e = (refl, gone_done v c v.next (sym (call_done v (gone_on tables v v.next c).0 (gone_on tables v v.next c).1) ∙ e))
  met_done v c NotDone e = absurd (false≢true e)
  met_done v c DoneUnseen e = absurd (false≢true e)
  met_done v c NoMemory e = absurd (false≢true e)

  pub over_done : (v : View) (c : Content) (fate : Fate) → step_done (stepped tables v c fate).step ≡ true → (is_over v ≡ false) × (fate ≡ Answers) × AtFree v c v.next
  unfolding step_done
  over_done v c fate = by (is_over v) refl
    where
      by : (b : Bool) → is_over v ≡ b → step_done (cond b (record { content = c; view = v; step = step.Over }) (met tables v c fate)).step ≡ true → (is_over v ≡ false) × (fate ≡ Answers) × AtFree v c v.next
      by true h e = absurd (false≢true e)
      by false h e = let m = met_done v c fate e in (h, m.0, m.1)

  pub done_frees : (v : View) (c : Content) (fate : Fate) → TellsOutcome tables v c fate outcome.Done → Frees tables v c fate
  unfolding step_done is_done
  done_frees v c fate is =
      let h = over_done v c fate (ap step_done is) in
      (h.2.0, h.2.1, h.1, h.0, just_this (Some (held_value v.number v.at (new_code tables h.2.0))) (get c (flight_key tables h.2.0)) h.2.2)

  pub frees_done : (v : View) (c : Content) (fate : Fate) → Frees tables v c fate → TellsOutcome tables v c fate outcome.Done
  frees_done v c fate h =
      ap (λ b. (cond b (record { content = c; view = v; step = step.Over }) (met tables v c fate)).step) h.3
      ∙ ap (λ (fate : Fate). (met tables v c fate).step) h.2
      ∙ ap (λ (next : Next). (after_call v (gone_on tables v next c)).step) h.1
      ∙ ap (λ b. (after_call v (cond {A = Content × Then} b (written_content (flight_key tables h.0) (new_code tables h.0) c, Ends outcome.Done) (c, damaged (flight_key tables h.0) None))).step)
      (ap (is_just (Some (held_value v.number v.at (new_code tables h.0)))) h.4 ∙ just_itself (Some (held_value v.number v.at (new_code tables h.0))))
