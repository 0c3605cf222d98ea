-- Each step of a client keeps what holds.
use Rattle.std.proofs.Common.{◌≡◌, ℕ, ◌+◌, ◌-◌, ◌^◌, ◌<◌, ◌==◌, true, false, cond, ◌⊎◌, inl, inr, List, [], ◌∷◌, length, Option, Some, None, refl, sym, ap, ◌∙◌, subst, arith}
use Rattle.std.specs.FinMap.{get}
use Rattle.std.proofs.lemmas.Bool.{eqb-true}
use Rattle.std.proofs.lemmas.Option.{slice_get_within}
use Rattle.pq_schema.specs.declared.table.Table.{Table}
use Rattle.pq_content.specs.Pairs.{is_in_space}
use Rattle.pq_content.proofs.Keys.{key_itself}
use Rattle.pq_store.specs.Content.{Content, written_content}
use Rattle.pq_index_keep.specs.declared.write.Write.{Write}
use Rattle.pq_index_keep.specs.Sound.{AreWritable}
use Rattle.pq_clients.specs.declared.outcome.Outcome.{Outcome}
use Rattle.pq_clients.specs.declared.outcome.Outcome.TheVariants as outcome
use Rattle.pq_clients.specs.Held.{Cell, cell_of, present_in, held_value}
use Rattle.pq_clients.specs.Flights.{Flight, flight_key, new_code, has_entry, fresh_entries, stale_entries, check_refusal, test_refusal}
use Rattle.pq_clients.specs.Clients.{Stage, Checking, Adding, Testing, Putting, Clearing, Freeing, Undoing, Releasing, Next, Reading, Flying, View, write_at}
use Rattle.pq_clients.specs.Steps.{testing, adding, checking, clearing, undoing, is_just, Then, On, Puts, Ends, passes, has_room, flown, if_own, damaged, refused, told_view, after_call, is_fault}
use Rattle.pq_clients.specs.Invariant.{MayStandAt, Stance, Idle, Holds, Left, Owns, is_key, Good, present_of, may_show, hold_of, remains_of, stance_at, stance_of, FlightFits, StageFits, NextFits, ViewFits, IsShaped}
use Rattle.pq_clients.proofs.Basics.{or_first, or_second}
use Rattle.pq_clients.proofs.Frame.{set_stance, set_self}
use Rattle.pq_clients.proofs.Cells.{held_cell, free_cell}
use Rattle.pq_clients.proofs.Coded.{key_space, names_code}
use Rattle.pq_clients.proofs.Flying.{AreStanding, ArePassed}
use Rattle.pq_clients.proofs.Landing.{left, idle}
use Rattle.pq_clients.proofs.Stages.{present_testing, present_adding, present_checking, present_clearing, present_undoing, fits_testing, fits_adding, fits_checking, fits_clearing, fits_undoing, clears_all, undoes_all, high_within}
use Rattle.pq_clients.proofs.Apart.{fresh_different, stale_different}
use Rattle.pq_clients.proofs.Moves.{adds_more, covers_more, check_passed, check_refused, entry_added, limit_passed, limit_refused, row_put, entry_cleared, entry_undone, row_freed, row_released}
use Rattle.pq_clients.proofs.Shaped.{write_place, just_itself, shaped_row, shaped_added, shaped_removed}

abbrev pub failed_view : View → View
failed_view v = told_view v outcome.Failed

pub set_twice : (stances : ℕ → Stance) (j : ℕ) (u v : Stance) → set_stance (set_stance stances j u) j v ≡ set_stance stances j v
set_twice stances j u v = λ i a. at a i
  where
    at : (a : ℕ) → set_stance (set_stance stances j u) j v a ≡ set_stance stances j v a
    at a = elim (a == j) as (λ b. cond b v (cond b u (stances a)) ≡ cond b v (stances a)) [ true ↦ refl | false ↦ refl ]

pub set_same : (stances : ℕ → Stance) (j : ℕ) → set_stance stances j (stances j) ≡ stances
set_same stances j = λ i a. at a i
  where
    at : (a : ℕ) → set_stance stances j (stances j) a ≡ stances a
    at a = elim (a == j) as (λ b. (a == j) ≡ b → cond b (stances j) (stances a) ≡ stances a) [ true ↦ λ is. ap stances (sym (same a j is)) | false ↦ λ _. refl ] refl
      where
        same : (a j : ℕ) → (a == j) ≡ true → a ≡ j
        same a j is = eqb-true a j is

module _ (tables : List Table) (sound : AreWritable tables) (others : List ℕ → Option (List ℕ)) where
  -- ---- what a call that answers, or that fails and is done, leaves
  pub record Kept (stances : ℕ → Stance) (v : View) (t : Content × Then) : Type 0 where
    pub shaped : IsShaped tables t.0 others
    pub fits : ViewFits tables (after_call v t).view
    pub number : (after_call v t).view.number ≡ v.number
    pub good : Good tables t.0 (set_stance stances v.number (stance_of tables (after_call v t).view))
    pub lost : Good tables t.0 (set_stance stances v.number (stance_of tables (failed_view v)))

  pub told_fits : (v : View) (o : Outcome) → ViewFits tables v → ViewFits tables (told_view v o)
  told_fits v o h = elim (is_fault o) as (λ b. ViewFits tables (cond b (record v { over = Some o }) (record v { at = v.at + 1; next = Reading }))) [
    | true ↦ record { small = h.small; from_one = h.from_one; writes = h.writes; few = h.few; next = h.next }
    | false ↦ record { small = h.small; from_one = omega arith; writes = h.writes; few = h.few; next = tt }
  ]

  pub few_at : (v : View) (w : Write) → ViewFits tables v → write_at v.writes v.at ≡ Some w → v.at < 2 ^ 32
  few_at v w h is = let inside : v.at - 1 < length v.writes = slice_get_within v.writes (v.at - 1) w (write_place v.writes v.at w is) in few v.at (length v.writes) (2 ^ 32) inside h.few
    where
      few : (a n limit : ℕ) → a - 1 < n → n < limit → a < limit
      few a n limit inside small = omega arith

  module _ (c : Content) (stances : ℕ → Stance) (shape : IsShaped tables c others) (g : Good tables c stances) (passed : ArePassed tables stances) where
    -- the view of a client that is not over
    module _ (v : View) (h : ViewFits tables v) (unbroken : v.over ≡ None) where
      -- a client that ends while it holds its key
      pub lost_hold : (d : Content) (f : Flight) (stage s : Stage) → FlightFits tables f → StageFits tables f s → Good tables d (set_stance stances v.number (Holds (hold_of tables v.at f s)))
          → (present_of tables f s ≡ present_of tables f stage) ⊎ (present_of tables f s ≡ may_show tables f stage)
          → Good tables d (set_stance stances v.number (Left (remains_of tables v.at f stage)))
      lost_hold d f stage s fits stage_fits good shows =
          subst (λ (st : ℕ → Stance). Good tables d st) (set_twice stances v.number (Holds (hold_of tables v.at f s)) (Left (remains_of tables v.at f stage)))
          (left tables sound d (set_stance stances v.number (Holds (hold_of tables v.at f s))) v.number v.at f s good (set_self stances v.number (Holds (hold_of tables v.at f s)))
          (remains_of tables v.at f stage) refl refl shows (λ e high. high_within tables sound f fits s stage_fits e high))

      pub lost_idle : (d : Content) (st : Stance) → Owns d v.number st → Good tables d (set_stance stances v.number Idle) → Good tables d (set_stance stances v.number st)
      lost_idle d st owned good =
          subst (λ (x : ℕ → Stance). Good tables d x) (set_twice stances v.number Idle st)
          (idle tables d (set_stance stances v.number Idle) v.number good (set_self stances v.number Idle) st owned)

      -- ---- a write that holds its key
      module _ (f : Flight) (stage : Stage) (next_is : v.next ≡ Flying f stage) (is : stances v.number ≡ Holds (hold_of tables v.at f stage)) where
        flight : FlightFits tables f
        flight = (subst (λ (n : Next). NextFits tables v n) next_is h.next).0

        at_hand : write_at v.writes v.at ≡ Some f.write
        at_hand = (subst (λ (n : Next). NextFits tables v n) next_is h.next).1

        of_stage : StageFits tables f stage
        of_stage = (subst (λ (n : Next). NextFits tables v n) next_is h.next).2

        lost_stance : Left (remains_of tables v.at f stage) ≡ stance_of tables (failed_view v)
        lost_stance = ap (stance_at tables v.at (Some outcome.Failed)) (sym next_is)

        on_stance : (s : Stage) → Holds (hold_of tables v.at f s) ≡ stance_at tables v.at v.over (Flying f s)
        on_stance s = ap (λ (o : Option Outcome). stance_at tables v.at o (Flying f s)) (sym unbroken)

        next_fits : (s : Stage) → StageFits tables f s → ViewFits tables (record v { next = Flying f s })
        next_fits s fits = record { small = h.small; from_one = h.from_one; writes = h.writes; few = h.few; next = (flight, at_hand, fits) }

        -- it goes on to another stage
        goes : (d : Content) (s : Stage) → IsShaped tables d others → StageFits tables f s → (present_of tables f s ≡ present_of tables f stage) ⊎ (present_of tables f s ≡ may_show tables f stage)
            → Good tables d (set_stance stances v.number (Holds (hold_of tables v.at f s))) → Kept stances v (d, On (Flying f s))
        goes d s shaped fits shows good = record {
          shaped = shaped;
          fits = next_fits s fits;
          number = refl;
          good = subst (λ (st : Stance). Good tables d (set_stance stances v.number st)) (on_stance s) good;
          lost = subst (λ (st : Stance). Good tables d (set_stance stances v.number st)) lost_stance (lost_hold d f stage s flight fits good shows);
        }

        put_on : (d : Content) (s : Stage) → IsShaped tables d others → StageFits tables f s → (present_of tables f s ≡ present_of tables f stage) ⊎ (present_of tables f s ≡ may_show tables f stage)
            → Good tables d (set_stance stances v.number (Holds (hold_of tables v.at f s))) → Kept stances v (d, Puts (Flying f s))
        put_on d s shaped fits shows good = record {
          shaped = shaped;
          fits = next_fits s fits;
          number = refl;
          good = subst (λ (st : Stance). Good tables d (set_stance stances v.number st)) (on_stance s) good;
          lost = subst (λ (st : Stance). Good tables d (set_stance stances v.number st)) lost_stance (lost_hold d f stage s flight fits good shows);
        }

        ends : (d : Content) (o : Outcome) → is_fault o ≡ false → IsShaped tables d others → Good tables d (set_stance stances v.number Idle) → Kept stances v (d, Ends o)
        ends d o fault shaped good =
            let view : told_view v o ≡ record v { at = v.at + 1; next = Reading } = ap (λ b. cond b (record v { over = Some o }) (record v { at = v.at + 1; next = Reading })) fault in
            record {
              shaped = shaped;
              fits = told_fits v o h;
              number = ap (λ (v : View). v.number) view;
              good = subst (λ (w : View). Good tables d (set_stance stances v.number (stance_of tables w))) (sym view) good;
              lost = subst (λ (st : Stance). Good tables d (set_stance stances v.number st)) lost_stance (lost_idle d (Left (remains_of tables v.at f stage)) tt good);
            }

        own_value : get c (flight_key tables f) ≡ Some (held_value v.number v.at (present_of tables f stage))
        own_value = let o : Owns c v.number (Holds (hold_of tables v.at f stage)) = subst (λ (st : Stance). Owns c v.number st) is (g.owns v.number) in o.1

        -- the guard of the own held value holds
        pub own_just : (p : Option (List ℕ)) → p ≡ present_of tables f stage → is_just (Some (held_value v.number v.at p)) (get c (flight_key tables f)) ≡ true
        own_just p same = ap (λ (p : Option (List ℕ)). is_just (Some (held_value v.number v.at p)) (get c (flight_key tables f))) same ∙ ap (is_just (Some (held_value v.number v.at (present_of tables f stage)))) own_value ∙ just_itself (Some (held_value v.number v.at (present_of tables f stage)))

        owned : (p new : Option (List ℕ)) (next : Then) → p ≡ present_of tables f stage → Kept stances v (written_content (flight_key tables f) new c, next) → Kept stances v (if_own tables v.number v.at f p c new next)
        owned p new next same kept = subst (λ (t : Content × Then). Kept stances v t) (sym (ap (λ b. cond {A = Content × Then} b (written_content (flight_key tables f) new c, next) (c, damaged (flight_key tables f) None)) (own_just p same))) kept

        space : is_in_space 2 (flight_key tables f) ≡ true
        space = key_space tables f.write

        few_writes : v.at < 2 ^ 32
        few_writes = few_at v f.write h at_hand

        standing_code : (p : Option (List ℕ)) → MayStandAt tables (flight_key tables f) p → MayStandAt tables (flight_key tables f) (present_in (cell_of (held_value v.number v.at p)))
        standing_code p stands = subst (λ (x : Cell). MayStandAt tables (flight_key tables f) (present_in x)) (sym (held_cell tables (flight_key tables f) v.number v.at p h.small few_writes stands)) stands

        may_put : (p : Option (List ℕ)) → MayStandAt tables (flight_key tables f) p → IsShaped tables (written_content (flight_key tables f) p c) others
        may_put None stands = shaped_row tables c others (flight_key tables f) None space tt shape
        may_put (Some code) stands = shaped_row tables c others (flight_key tables f) (Some code) space (subst (λ (x : Cell). MayStandAt tables (flight_key tables f) (present_in x)) (sym (free_cell tables (flight_key tables f) code sound stands)) stands) shape

      pub flown_kept : (f : Flight) (stage : Stage) → v.next ≡ Flying f stage → stances v.number ≡ Holds (hold_of tables v.at f stage) → AreStanding tables c → Kept stances v (flown tables v.number v.at f stage c)
      flown_kept f (Checking check left) next_is is standing =
          let fl = flight f (Checking check left) next_is is in
          elim (passes tables check c) as (λ b. Kept stances v (c, cond b (On (Flying f (checking tables f left))) (On (Flying f (Releasing (check_refusal tables f check)))))) [
            | true ↦ goes f (Checking check left) next_is is c (checking tables f left) shape (fits_checking tables sound f fl left) (inl (present_checking tables sound f fl left)) (check_passed tables sound f fl c stances v.number v.at g check left is)
            | false ↦ goes f (Checking check left) next_is is c (Releasing (check_refusal tables f check)) shape tt (inl refl) (check_refused tables sound f fl c stances v.number v.at g check left (check_refusal tables f check) is)
          ]
      flown_kept f (Adding entry left added) next_is is standing =
          let fl = flight f (Adding entry left added) next_is is in
          let adds = of_stage f (Adding entry left added) next_is is in
          goes f (Adding entry left added) next_is is (written_content entry (Some []) c) (adding tables f left (entry ∷ added))
          (shaped_added tables c others (flight_key tables f) entry (names_code tables sound (flight_key tables f) (new_code tables f) entry fl.new ((adds entry).2 (or_first (is_key entry entry) (has_entry entry left) (key_itself entry)))) shape)
          (fits_adding tables sound f fl left (entry ∷ added) (adds_more tables sound f fl entry left added adds))
          (inl (present_adding tables sound f fl left (entry ∷ added)))
          (entry_added tables sound f fl c stances v.number v.at g entry left added adds is)
      flown_kept f (Testing place left passed_places) next_is is standing =
          let fl = flight f (Testing place left passed_places) next_is is in
          let covers = of_stage f (Testing place left passed_places) next_is is in
          elim (has_room tables f place c) as (λ b. has_room tables f place c ≡ b → Kept stances v (c, cond b (On (Flying f (testing left (place ∷ passed_places)))) (On (Flying f (undoing (fresh_entries tables f) (test_refusal tables f place)))))) [
            | true ↦ λ room. goes f (Testing place left passed_places) next_is is c (testing left (place ∷ passed_places)) shape
                (fits_testing tables sound f fl left (place ∷ passed_places) (covers_more tables sound f fl place left passed_places covers))
                (inl (present_testing tables sound f fl left (place ∷ passed_places)))
                (limit_passed tables sound f fl c stances v.number v.at g standing passed place left passed_places covers room is)
            | false ↦ λ _. goes f (Testing place left passed_places) next_is is c (undoing (fresh_entries tables f) (test_refusal tables f place)) shape
                (fits_undoing tables sound f fl (fresh_entries tables f) (test_refusal tables f place) (undoes_all tables sound f fl) (fresh_different tables f))
                (inl (present_undoing tables sound f fl (fresh_entries tables f) (test_refusal tables f place)))
                (limit_refused tables sound f fl c stances v.number v.at g place left passed_places (test_refusal tables f place) is)
          ] refl
      flown_kept f Putting next_is is standing =
          let fl = flight f Putting next_is is in
          owned f Putting next_is is f.read (Some (held_value v.number v.at (new_code tables f))) (Puts (Flying f (clearing (stale_entries tables f)))) refl
          (put_on f Putting next_is is (written_content (flight_key tables f) (Some (held_value v.number v.at (new_code tables f))) c) (clearing (stale_entries tables f))
          (shaped_row tables c others (flight_key tables f) (Some (held_value v.number v.at (new_code tables f))) (space f Putting next_is is) (standing_code f Putting next_is is (new_code tables f) fl.new) shape)
          (fits_clearing tables sound f fl (stale_entries tables f) (clears_all tables sound f fl) (stale_different tables f))
          (inr (present_clearing tables sound f fl (stale_entries tables f)))
          (row_put tables sound f fl c stances v.number v.at g h.small (few_writes f Putting next_is is) is))
      flown_kept f (Clearing entry left) next_is is standing =
          let fl = flight f (Clearing entry left) next_is is in
          let clears = of_stage f (Clearing entry left) next_is is in
          goes f (Clearing entry left) next_is is (written_content entry None c) (clearing left)
          (shaped_removed tables c others (flight_key tables f) entry (names_code tables sound (flight_key tables f) f.read entry fl.read (clears.0 entry (or_first (is_key entry entry) (has_entry entry left) (key_itself entry))).1) shape)
          (fits_clearing tables sound f fl left (λ e there. clears.0 e (or_second (is_key e entry) (has_entry e left) there)) clears.1.1)
          (inl (present_clearing tables sound f fl left))
          (entry_cleared tables sound f fl c stances v.number v.at g entry left clears is)
      flown_kept f Freeing next_is is standing =
          let fl = flight f Freeing next_is is in
          owned f Freeing next_is is (new_code tables f) (new_code tables f) (Ends outcome.Done) refl
          (ends f Freeing next_is is (written_content (flight_key tables f) (new_code tables f) c) outcome.Done refl (may_put f Freeing next_is is (new_code tables f) fl.new) (row_freed tables sound f fl c stances v.number v.at g is))
      flown_kept f (Undoing entry left why) next_is is standing =
          let fl = flight f (Undoing entry left why) next_is is in
          let undoes = of_stage f (Undoing entry left why) next_is is in
          goes f (Undoing entry left why) next_is is (written_content entry None c) (undoing left why)
          (shaped_removed tables c others (flight_key tables f) entry (names_code tables sound (flight_key tables f) (new_code tables f) entry fl.new (undoes.0 entry (or_first (is_key entry entry) (has_entry entry left) (key_itself entry))).1) shape)
          (fits_undoing tables sound f fl left why (λ e there. undoes.0 e (or_second (is_key e entry) (has_entry e left) there)) undoes.1.1)
          (inl (present_undoing tables sound f fl left why))
          (entry_undone tables sound f fl c stances v.number v.at g entry left why undoes is)
      flown_kept f (Releasing why) next_is is standing =
          let fl = flight f (Releasing why) next_is is in
          owned f (Releasing why) next_is is f.read f.read (refused why) refl
          (ends f (Releasing why) next_is is (written_content (flight_key tables f) f.read c) (outcome.Refused why) refl (may_put f (Releasing why) next_is is f.read fl.read) (row_released tables sound f fl c stances v.number v.at g why is))
