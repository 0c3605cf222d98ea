-- Failed and NoMem are told of a call that failed, all else of a call that answered.
use Rattle.std.proofs.Common.{◌≡◌, ℕ, Bool, true, false, cond, inl, inr, List, ◌∷◌, Option, Some, None, refl, sym, subst}
use Rattle.std.specs.FinMap.{get}
use Rattle.std.proofs.lemmas.Bool.{false≢true}
use Rattle.pq_schema.specs.declared.table.Table.{Table}
use Rattle.pq_store.specs.Content.{Content, written_content}
use Rattle.pq_index_keep.specs.declared.write.Write.{Write}
use Rattle.pq_clients.specs.declared.outcome.Outcome.{Outcome}
use Rattle.pq_clients.specs.declared.outcome.Outcome.TheVariants as outcome
use Rattle.pq_clients.specs.declared.outcome.Step.{Step}
use Rattle.pq_clients.specs.declared.outcome.Step.TheVariants as step
use Rattle.pq_clients.specs.Held.{held_value}
use Rattle.pq_clients.specs.Flights.{flight_key, new_code, fresh_entries, stale_entries, flight_checks, check_refusal, test_refusal}
use Rattle.pq_clients.specs.Clients.{Checking, Adding, Testing, Putting, Clearing, Freeing, Undoing, Releasing, Next, Reading, Taking, Looking, Flying, View, write_at, is_over}
use Rattle.pq_clients.specs.Steps.{is_just, read_on, Then, On, Puts, Ends, testing, checking, clearing, undoing, passes, has_room, refused, damaged, gone_on, after_call, Fate, Answers, NotDone, DoneUnseen, NoMemory, met, stepped}
use Rattle.pq_clients.specs.Promises.{IsFailure, TellsOutcome}
use Rattle.pq_clients.proofs.EndsWith.{ends_with, if_not, cond_not, reads_not}

module _ (tables : List Table) where
  is_failed : Outcome → Bool
  is_failed outcome.Done = false
  is_failed (outcome.Refused r) = false
  is_failed (outcome.Busy found) = false
  is_failed (outcome.Conflict read found) = false
  is_failed outcome.Failed = true
  is_failed outcome.NoMem = true
  is_failed (outcome.Damaged d) = false

  reads_falls : (client : ℕ) (w : Option Write) (c : Content) → ends_with is_failed (read_on tables client w c).1 ≡ false
  unfolding is_failed
  reads_falls client w c = reads_not tables is_failed (λ r. refl) (λ found. refl) (λ damage. refl) client w c

  gone_falls : (v : View) (c : Content) (next : Next) → ends_with is_failed (gone_on tables v next c).1 ≡ false
  unfolding is_failed
  gone_falls v c Reading = reads_falls v.number (write_at v.writes v.at) c
  gone_falls v c (Taking g) = cond_not is_failed (is_just g.read (get c (flight_key tables g))) (written_content (flight_key tables g) (Some (held_value v.number v.at g.read)) c) c (On (Flying g (checking tables g (flight_checks tables g)))) (On (Looking g)) refl refl
  gone_falls v c (Looking g) = refl
  gone_falls v c (Flying g (Checking check left)) = if_not is_failed (passes tables check c) (On (Flying g (checking tables g left))) (On (Flying g (Releasing (check_refusal tables g check)))) refl refl
  gone_falls v c (Flying g (Adding entry left added)) = refl
  gone_falls v c (Flying g (Testing place left passed)) = if_not is_failed (has_room tables g place c) (On (Flying g (testing left (place ∷ passed)))) (On (Flying g (undoing (fresh_entries tables g) (test_refusal tables g place)))) refl refl
  gone_falls v c (Flying g Putting) = cond_not is_failed (is_just (Some (held_value v.number v.at g.read)) (get c (flight_key tables g))) (written_content (flight_key tables g) (Some (held_value v.number v.at (new_code tables g))) c) c (Puts (Flying g (clearing (stale_entries tables g)))) (damaged (flight_key tables g) None) refl refl
  gone_falls v c (Flying g (Clearing entry left)) = refl
  gone_falls v c (Flying g Freeing) = cond_not is_failed (is_just (Some (held_value v.number v.at (new_code tables g))) (get c (flight_key tables g))) (written_content (flight_key tables g) (new_code tables g) c) c (Ends outcome.Done) (damaged (flight_key tables g) None) refl refl
  gone_falls v c (Flying g (Undoing entry left r)) = refl
  gone_falls v c (Flying g (Releasing r)) = cond_not is_failed (is_just (Some (held_value v.number v.at g.read)) (get c (flight_key tables g))) (written_content (flight_key tables g) g.read c) c (refused r) (damaged (flight_key tables g) None) refl refl

  abbrev Fits : Step → Fate → Type 0
  Fits step.Moved fate = Unit {0}
  Fits (step.Put wrote) fate = Unit {0}
  Fits (step.Tells told) fate = IsFailure told.outcome fate
  Fits step.Over fate = Unit {0}

  answered : (o : Outcome) → is_failed o ≡ false → IsFailure o Answers
  unfolding is_failed
  answered outcome.Done h = refl
  answered (outcome.Refused r) h = refl
  answered (outcome.Busy found) h = refl
  answered (outcome.Conflict read found) h = refl
  answered outcome.Failed h = absurd (false≢true (sym h))
  answered outcome.NoMem h = absurd (false≢true (sym h))
  answered (outcome.Damaged d) h = refl

  call_fits : (v : View) (c : Content) (t : Then) → ends_with is_failed t ≡ false → Fits (after_call v (c, t)).step Answers
  call_fits v c (On next) h = tt
  call_fits v c (Puts next) h = tt
  call_fits v c (Ends o) h = answered o h

  met_fits : (v : View) (c : Content) (fate : Fate) → Fits (met tables v c fate).step fate
  met_fits v c Answers = call_fits v (gone_on tables v v.next c).0 (gone_on tables v v.next c).1 (gone_falls v c v.next)
  met_fits v c NotDone = inl refl
  met_fits v c DoneUnseen = inr refl
  met_fits v c NoMemory = refl

  step_fits : (v : View) (c : Content) (fate : Fate) → Fits (stepped tables v c fate).step fate
  step_fits v c fate = by (is_over v)
    where
      by : (b : Bool) → Fits (cond b (record { content = c; view = v; step = step.Over }) (met tables v c fate)).step fate
      by true = tt
      by false = met_fits v c fate

  -- the second half of `HasCauses.told`
  pub failure_told : (v : View) (c : Content) (fate : Fate) (o : Outcome) → TellsOutcome tables v c fate o → IsFailure o fate
  failure_told v c fate o is = subst (λ (s : Step). Fits s fate) is (step_fits v c fate)
