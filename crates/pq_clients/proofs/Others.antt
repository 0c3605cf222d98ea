-- A step leaves each row's pair at a key that is not its own as it is, and puts at no other step than the put.
use Rattle.std.proofs.Common.{◌≡◌, ℕ, ◌-◌, Bool, true, false, cond, List, [], ◌∷◌, Option, Some, None, refl, subst}
use Rattle.std.specs.FinMap.{get}
use Rattle.pq_schema.specs.declared.table.Table.{Table}
use Rattle.pq_content.specs.Pairs.{is_in_space}
use Rattle.pq_content.proofs.Keys.{key_itself}
use Rattle.pq_store.specs.Content.{Content, written_content}
use Rattle.pq_index_keep.specs.declared.write.Write.{Write}
use Rattle.pq_index_keep.specs.Sound.{AreWritable, IsWrite}
use Rattle.pq_clients.specs.declared.outcome.Outcome.TheVariants as outcome
use Rattle.pq_clients.specs.Held.{held_value}
use Rattle.pq_clients.specs.Flights.{Flight, pair_key, flight_key, new_code, stale_entries, fresh_entries, flight_checks, check_refusal, test_refusal}
use Rattle.pq_clients.specs.Clients.{Checking, Adding, Testing, Putting, Clearing, Freeing, Undoing, Releasing, Next, Reading, Taking, Looking, Flying, View, write_at}
use Rattle.pq_clients.specs.Steps.{is_just, Then, On, Puts, Ends, after_read, checking, clearing, undoing, testing, passes, has_room, refused, damaged, if_own, read_on, gone_on}
use Rattle.pq_clients.specs.Invariant.{Names, is_key, NextFits, ViewFits, IsShaped}
use Rattle.pq_clients.proofs.Basics.{get_apart, space_apart, not_both, or_first}
use Rattle.pq_clients.proofs.Owners.{entry_space}
use Rattle.pq_clients.proofs.Coded.{names_code}
use Rattle.pq_clients.proofs.Shaped.{Begins, begun, all_at, write_place}

module _ (tables : List Table) (sound : AreWritable tables) where
  -- the key that a step may write
  abbrev pub NotKey : Next → List ℕ → Type 0
  NotKey Reading k = Unit {0}
  NotKey (Taking f) k = k ≡ flight_key tables f → ⊥
  NotKey (Looking f) k = Unit {0}
  NotKey (Flying f stage) k = k ≡ flight_key tables f → ⊥

  pub entry_apart : (c : Content) (e : List ℕ) (x : Option (List ℕ)) (K k : List ℕ) → Names tables K e → is_in_space 2 k ≡ true → get (written_content e x c) k ≡ get c k
  entry_apart c e x K k names space = get_apart e x c k (λ same. space_apart 2 k e space (not_both e (entry_space tables K e names)) same)

  own_apart : (client number : ℕ) (f : Flight) (p : Option (List ℕ)) (c : Content) (new : Option (List ℕ)) (next : Then) (k : List ℕ) → (k ≡ flight_key tables f → ⊥) → get (if_own tables client number f p c new next).0 k ≡ get c k
  own_apart client number f p c new next k ne =
      elim (is_just (Some (held_value client number p)) (get c (flight_key tables f))) as (λ b. get (cond {A = Content × Then} b (written_content (flight_key tables f) new c, next) (c, damaged (flight_key tables f) None)).0 k ≡ get c k) [
        | true ↦ get_apart (flight_key tables f) new c k ne
        | false ↦ refl
      ]

  pub others_same : (c : Content) (v : View) → ViewFits tables v → (next : Next) → v.next ≡ next → (k : List ℕ) → is_in_space 2 k ≡ true → NotKey next k → get (gone_on tables v next c).0 k ≡ get c k
  others_same c v h Reading is k space ne = by (write_at v.writes v.at)
    where
      by : (w : Option Write) → get (read_on tables v.number w c).0 k ≡ get c k
      by None = refl
      by (Some w) = refl
  others_same c v h (Taking f) is k space ne =
      elim (is_just f.read (get c (flight_key tables f))) as (λ b. get (cond {A = Content × Then} b (written_content (flight_key tables f) (Some (held_value v.number v.at f.read)) c, On (Flying f (checking tables f (flight_checks tables f)))) (c, On (Looking f))).0 k ≡ get c k) [
        | true ↦ get_apart (flight_key tables f) (Some (held_value v.number v.at f.read)) c k ne
        | false ↦ refl
      ]
  others_same c v h (Looking f) is k space ne = refl
  others_same c v h (Flying f (Checking check left)) is k space ne = refl
  others_same c v h (Flying f (Adding entry left added)) is k space ne =
      let fits = subst (λ (n : Next). NextFits tables v n) is h.next in
      entry_apart c entry (Some []) (flight_key tables f) k (names_code tables sound (flight_key tables f) (new_code tables f) entry fits.0.new ((fits.2 entry).2 (or_first (is_key entry entry) _ (key_itself entry)))) space
  others_same c v h (Flying f (Testing place left passed)) is k space ne = refl
  others_same c v h (Flying f Putting) is k space ne = own_apart v.number v.at f f.read c (Some (held_value v.number v.at (new_code tables f))) (Puts (Flying f (clearing (stale_entries tables f)))) k ne
  others_same c v h (Flying f (Clearing entry left)) is k space ne =
      let fits = subst (λ (n : Next). NextFits tables v n) is h.next in
      entry_apart c entry None (flight_key tables f) k (names_code tables sound (flight_key tables f) f.read entry fits.0.read (fits.2.0 entry (or_first (is_key entry entry) _ (key_itself entry))).1) space
  others_same c v h (Flying f Freeing) is k space ne = own_apart v.number v.at f (new_code tables f) c (new_code tables f) (Ends outcome.Done) k ne
  others_same c v h (Flying f (Undoing entry left why)) is k space ne =
      let fits = subst (λ (n : Next). NextFits tables v n) is h.next in
      entry_apart c entry None (flight_key tables f) k (names_code tables sound (flight_key tables f) (new_code tables f) entry fits.0.new (fits.2.0 entry (or_first (is_key entry entry) _ (key_itself entry))).1) space
  others_same c v h (Flying f (Releasing why)) is k space ne = own_apart v.number v.at f f.read c f.read (refused why) k ne

  -- ---- no other step puts
  abbrev pub NotPuts : Then → Type 0
  NotPuts (On next) = Unit {0}
  NotPuts (Puts next) = ⊥
  NotPuts (Ends o) = Unit {0}

  abbrev pub IsNoPut : Next → Type 0
  IsNoPut (Flying f Putting) = ⊥
  IsNoPut next = Unit {0}

  begins_calm : (w : Write) (t : Then) → Begins tables w t → NotPuts t
  begins_calm w (On next) b = tt
  begins_calm w (Puts next) b = b
  begins_calm w (Ends o) b = tt

  cond_on : (b : Bool) (x y : Next) → NotPuts (cond b (On x) (On y))
  cond_on true x y = tt
  cond_on false x y = tt

  own_calm : (client number : ℕ) (f : Flight) (p : Option (List ℕ)) (c : Content) (new : Option (List ℕ)) (o : Then) → NotPuts o → NotPuts (if_own tables client number f p c new o).1
  own_calm client number f p c new o h =
      elim (is_just (Some (held_value client number p)) (get c (flight_key tables f))) as (λ b. NotPuts (cond {A = Content × Then} b (written_content (flight_key tables f) new c, o) (c, damaged (flight_key tables f) None)).1) [ true ↦ h | false ↦ tt ]

  pub calm : (c : Content) (others : List ℕ → Option (List ℕ)) → IsShaped tables c others → (v : View) → ViewFits tables v → (next : Next) → IsNoPut next → NotPuts (gone_on tables v next c).1
  calm c others shape v h Reading quiet = by (write_at v.writes v.at) refl
    where
      by : (w : Option Write) → write_at v.writes v.at ≡ w → NotPuts (read_on tables v.number w c).1
      by None is = tt
      by (Some w) is = begins_calm w (after_read tables v.number w (get c (pair_key tables w))) (begun tables sound c others shape v.number w (all_at (IsWrite tables) v.writes (v.at - 1) w h.writes (write_place v.writes v.at w is)))
  calm c others shape v h (Taking f) quiet =
      elim (is_just f.read (get c (flight_key tables f))) as (λ b. NotPuts (cond {A = Content × Then} b (written_content (flight_key tables f) (Some (held_value v.number v.at f.read)) c, On (Flying f (checking tables f (flight_checks tables f)))) (c, On (Looking f))).1) [ true ↦ tt | false ↦ tt ]
  calm c others shape v h (Looking f) quiet = tt
  calm c others shape v h (Flying f (Checking check left)) quiet = cond_on (passes tables check c) (Flying f (checking tables f left)) (Flying f (Releasing (check_refusal tables f check)))
  calm c others shape v h (Flying f (Adding entry left added)) quiet = tt
  calm c others shape v h (Flying f (Testing place left passed)) quiet = cond_on (has_room tables f place c) (Flying f (testing left (place ∷ passed))) (Flying f (undoing (fresh_entries tables f) (test_refusal tables f place)))
  calm c others shape v h (Flying f Putting) quiet = absurd quiet
  calm c others shape v h (Flying f (Clearing entry left)) quiet = tt
  calm c others shape v h (Flying f Freeing) quiet = own_calm v.number v.at f (new_code tables f) c (new_code tables f) (Ends outcome.Done) tt
  calm c others shape v h (Flying f (Undoing entry left why)) quiet = tt
  calm c others shape v h (Flying f (Releasing why)) quiet = own_calm v.number v.at f f.read c f.read (refused why) tt
