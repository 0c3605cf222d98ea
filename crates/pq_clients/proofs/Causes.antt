-- What a step tells, and why.
use Rattle.std.proofs.Common.{◌≡◌, ℕ, zero, suc, ◌+◌, ◌≤◌, ◌<◌, ◌==◌, min, nat_le, nat_lt, Bool, true, false, cond, ◌⊎◌, inl, inr, List, [], ◌∷◌, length, Option, Some, None, is_some, refl, sym, ap, ◌∙◌, subst, arith}
use Rattle.std.specs.FinMap.{get}
use Rattle.std.proofs.lemmas.Bool.{false≢true}
use Rattle.std.proofs.lemmas.Bool.Decides.{nat_tests}
use Rattle.pq_base.specs.declared.refusal.Refusal.{Refusal}
use Rattle.pq_base.specs.declared.refusal.Refusal.TheVariants as refusal
use Rattle.pq_base.specs.declared.value.Value.{Value}
use Rattle.pq_key_code.specs.KeyCode.{past_code}
use Rattle.pq_schema.specs.declared.table.Table.{Table}
use Rattle.pq_schema.specs.Tables.{table_at}
use Rattle.pq_content.specs.Tables.{stored_code}
use Rattle.pq_store.specs.Content.{Content, written_content, pairs_within}
use Rattle.pq_index_keep.specs.declared.write.Write.{Write}
use Rattle.pq_index_keep.specs.declared.write.Write.TheVariants as write
use Rattle.pq_clients.specs.declared.outcome.Outcome.{Outcome}
use Rattle.pq_clients.specs.declared.outcome.Outcome.TheVariants as outcome
use Rattle.pq_clients.specs.declared.outcome.Step.TheVariants as step
use Rattle.pq_clients.specs.Held.{decoded_row, Cell, Free, Held, cell_of, present_row, held_value}
use Rattle.pq_clients.specs.Flights.{row_made, table_of, pair_key, Flight, Check, Parent, Child, flight_table, flight_key, new_code, fresh_entries, stale_entries, flight_checks, flight_tests, check_refusal, test_refusal, tested_front, tested_limit, row_refusal}
use Rattle.pq_clients.specs.Clients.{Stage, Checking, Adding, Testing, Putting, Clearing, Freeing, Undoing, Releasing, Next, Reading, Taking, Looking, Flying, View, write_at, is_over}
use Rattle.pq_clients.specs.Steps.{counted, is_just, taking_short, after_row, after_code, after_cell, after_read, read_on, is_held_by_other, Then, On, Puts, Ends, testing, adding, checking, clearing, undoing, passes, has_room, refused, damaged, if_own, flown, gone_on, is_fault, after_call, told_view, Fate, Answers, NotDone, DoneUnseen, NoMemory, met, stepped}
use Rattle.pq_clients.specs.Promises.{WillTell, ShowsRefusal}
use Rattle.pq_clients.proofs.Granting.{refused_or}

module _ (tables : List Table) where
  -- ---- a step turns to a refusal only where its call shows it

  no_tell : Stage → Type 0
  no_tell stage = (why : Refusal) → WillTell stage why → ⊥

  testing_tells : (left passed : List ℕ) (why : Refusal) → WillTell (testing left passed) why → ⊥
  testing_tells [] passed why h = h
  testing_tells (x ∷ left) passed why h = h

  adding_tells : (f : Flight) (left added : List (List ℕ)) (why : Refusal) → WillTell (adding tables f left added) why → ⊥
  adding_tells f [] added why h = testing_tells (flight_tests tables f) [] why h
  adding_tells f (x ∷ left) added why h = h

  checking_tells : (f : Flight) (left : List Check) (why : Refusal) → WillTell (checking tables f left) why → ⊥
  checking_tells f [] why h = adding_tells f (fresh_entries tables f) [] why h
  checking_tells f (x ∷ left) why h = h

  clearing_tells : (left : List (List ℕ)) (why : Refusal) → WillTell (clearing left) why → ⊥
  clearing_tells [] why h = h
  clearing_tells (x ∷ left) why h = h

  undoing_tells : (left : List (List ℕ)) (r why : Refusal) → WillTell (undoing left r) why → r ≡ why
  undoing_tells [] r why h = h
  undoing_tells (x ∷ left) r why h = h

  -- the stage behind a call, where it flies on
  abbrev Behind : Content → Flight → Stage → Then → Type 0
  Behind c f before t = (g : Flight) (stage : Stage) (why : Refusal) → t ≡ On (Flying g stage) → WillTell stage why → (g ≡ f) × (WillTell before why ⊎ ShowsRefusal tables c f before why)

  on_stage : (a b : Flight) (s u : Stage) → On (Flying a s) ≡ On (Flying b u) → (b ≡ a) × (s ≡ u)
  on_stage a b s u e = (cc, cc)

  none_present : {A : Type 0} (o : Option A) → is_some o ≡ false → o ≡ None
  none_present None h = refl
  none_present (Some x) h = absurd (false≢true (sym h))

  counted_some : (c : Content) (front : List ℕ) → (counted c front 1 == 0) ≡ false → 1 ≤ length (pairs_within c front (past_code front))
  unfolding counted
  counted_some c front h = by (length (pairs_within c front (past_code front))) h
    where
      by : (n : ℕ) → (min 1 n == 0) ≡ false → 1 ≤ n
      by zero h = absurd (false≢true (sym h))
      by (suc n) h = omega arith

  counted_many : (c : Content) (front : List ℕ) (n : ℕ) → nat_le (counted c front (n + 1)) n ≡ false → n < length (pairs_within c front (past_code front))
  unfolding counted
  counted_many c front n h = by n (length (pairs_within c front (past_code front))) h
    where
      by : (n k : ℕ) → nat_le (min (n + 1) k) n ≡ false → n < k
      by n k h = grind (arith, nat_tests)

  check_shows : (c : Content) (f : Flight) (check : Check) (left : List Check) → passes tables check c ≡ false → ShowsRefusal tables c f (Checking check left) (check_refusal tables f check)
  check_shows c f (Parent place u at) left h = (none_present (present_row (table_at tables u) (get c at)) h, refl)
  check_shows c f (Child u place front) left h = (counted_some c front h, refl)

  is_on : Then → Bool
  is_on (On next) = true
  is_on (Puts next) = false
  is_on (Ends o) = false

  not_on_puts : (a b : Next) → Puts a ≡ On b → ⊥
  unfolding is_on
  not_on_puts a b e = false≢true (ap is_on e)

  not_on_ends : (o : Outcome) (next : Next) → Ends o ≡ On next → ⊥
  unfolding is_on
  not_on_ends o next e = false≢true (ap is_on e)

  pub not_own : (client number : ℕ) (present : Option (List ℕ)) (c : Content) (f : Flight) (new : Option (List ℕ)) (o : Then) → ((next : Next) → o ≡ On next → ⊥) → (next : Next) → (if_own tables client number f present c new o).1 ≡ On next → ⊥
  not_own client number present c f new o never next = by (is_just (Some (held_value client number present)) (get c (flight_key tables f)))
    where
      by : (b : Bool) → (cond {A = Content × Then} b (written_content (flight_key tables f) new c, o) (c, Ends (outcome.Damaged (record { key = flight_key tables f; value = None })))).1 ≡ On next → ⊥
      by true e = never next e
      by false e = not_on_ends (outcome.Damaged (record { key = flight_key tables f; value = None })) next e

  flown_behind : (client number : ℕ) (c : Content) (f : Flight) (before : Stage) → Behind c f before (flown tables client number f before c).1
  flown_behind client number c f (Checking check left) g stage why = by (passes tables check c) refl
    where
      by : (b : Bool) → passes tables check c ≡ b → cond b (On (Flying f (checking tables f left))) (On (Flying f (Releasing (check_refusal tables f check)))) ≡ On (Flying g stage) → WillTell stage why → (g ≡ f) × (WillTell (Checking check left) why ⊎ ShowsRefusal tables c f (Checking check left) why)
      by true p is tell = let e = on_stage f g (checking tables f left) stage is in absurd (checking_tells f left why (subst (λ (s : Stage). WillTell s why) (sym e.1) tell))
      by false p is tell =
          let e = on_stage f g (Releasing (check_refusal tables f check)) stage is in
          let same : check_refusal tables f check ≡ why = subst (λ (s : Stage). WillTell s why) (sym e.1) tell in
          (e.0, inr (subst (λ (why : Refusal). ShowsRefusal tables c f (Checking check left) why) same (check_shows c f check left p)))
  flown_behind client number c f (Adding entry left added) g stage why = λ is tell.
      let e = on_stage f g (adding tables f left (entry ∷ added)) stage is in absurd (adding_tells f left (entry ∷ added) why (subst (λ (s : Stage). WillTell s why) (sym e.1) tell))
  flown_behind client number c f (Testing place left passed) g stage why = by (has_room tables f place c) refl
    where
      by : (b : Bool) → has_room tables f place c ≡ b → cond b (On (Flying f (testing left (place ∷ passed)))) (On (Flying f (undoing (fresh_entries tables f) (test_refusal tables f place)))) ≡ On (Flying g stage) → WillTell stage why → (g ≡ f) × (WillTell (Testing place left passed) why ⊎ ShowsRefusal tables c f (Testing place left passed) why)
      by true p is tell = let e = on_stage f g (testing left (place ∷ passed)) stage is in absurd (testing_tells left (place ∷ passed) why (subst (λ (s : Stage). WillTell s why) (sym e.1) tell))
      by false p is tell =
          let e = on_stage f g (undoing (fresh_entries tables f) (test_refusal tables f place)) stage is in
          let same : test_refusal tables f place ≡ why = undoing_tells (fresh_entries tables f) (test_refusal tables f place) why (subst (λ (s : Stage). WillTell s why) (sym e.1) tell) in
          (e.0, inr (counted_many c (tested_front tables f place) (tested_limit tables f place).n p, sym same))
  flown_behind client number c f Putting g stage why = λ is tell. absurd (not_own client number f.read c f (Some (held_value client number (new_code tables f))) (Puts (Flying f (clearing (stale_entries tables f)))) (λ next e. not_on_puts (Flying f (clearing (stale_entries tables f))) next e) (Flying g stage) is)
  flown_behind client number c f (Clearing entry left) g stage why = λ is tell.
      let e = on_stage f g (clearing left) stage is in absurd (clearing_tells left why (subst (λ (s : Stage). WillTell s why) (sym e.1) tell))
  flown_behind client number c f Freeing g stage why = λ is tell. absurd (not_own client number (new_code tables f) c f (new_code tables f) (Ends outcome.Done) (λ next e. not_on_ends outcome.Done next e) (Flying g stage) is)
  flown_behind client number c f (Undoing entry left r) g stage why = λ is tell.
      let e = on_stage f g (undoing left r) stage is in (e.0, inl (undoing_tells left r why (subst (λ (s : Stage). WillTell s why) (sym e.1) tell)))
  flown_behind client number c f (Releasing r) g stage why = λ is tell. absurd (not_own client number f.read c f f.read (refused r) (λ next e. not_on_ends (outcome.Refused r) next e) (Flying g stage) is)

  -- ---- the other steps of a write turn to no refusal of a test

  unfoldable pub flies : Then → Bool
  flies (On Reading) = false
  flies (On (Taking f)) = false
  flies (On (Looking f)) = false
  flies (On (Flying f stage)) = true
  flies (Puts next) = true
  flies (Ends o) = false

  short_lands : (f : Flight) (row : Option (List Value)) → flies (taking_short tables f row) ≡ false
  unfolding flies
  short_lands f None = refl
  short_lands f (Some row) = by (nat_lt 4096 (length (stored_code (flight_table tables f) row)))
    where
      by : (b : Bool) → flies (cond b (refused (refusal.RowLong (flight_table tables f).name (length (stored_code (flight_table tables f) row)))) (On (Taking f))) ≡ false
      by true = refl
      by false = refl

  row_lands : (w : Write) (read : Option (List ℕ)) (row : Option (List Value)) → flies (after_row tables w read row) ≡ false
  unfolding flies
  row_lands (write.Insert t new) read None = refl
  row_lands (write.Insert t new) read (Some old) = refl
  row_lands (write.Update t key sets conds) read None = refl
  row_lands (write.Update t key sets conds) read (Some old) =
      refused_or (λ t. flies t ≡ false) _ _ (λ why is. refl) (λ none. short_lands (record { write = write.Update t key sets conds; read = read }) (row_made (write.Update t key sets conds) (Some old)))
  row_lands (write.Delete t key conds) read None = refl
  row_lands (write.Delete t key conds) read (Some old) = refused_or (λ t. flies t ≡ false) (row_refusal tables (write.Delete t key conds) old) (On (Taking (record { write = write.Delete t key conds; read = read }))) (λ why is. refl) (λ none. refl)

  code_lands : (w : Write) (code : List ℕ) (row : Option (List Value)) → flies (after_code tables w code row) ≡ false
  unfolding flies
  code_lands w code None = refl
  code_lands w code (Some row) = row_lands w (Some code) (Some row)

  cell_lands : (client : ℕ) (w : Write) (value : List ℕ) (cell : Cell) → flies (after_cell tables client w value cell) ≡ false
  unfolding flies
  cell_lands client w value (Free code) = code_lands w value (decoded_row (table_of tables w) value)
  cell_lands client w value (Held holder number present) = by (is_held_by_other (table_of tables w) client (Held holder number present))
    where
      by : (b : Bool) → flies (cond b (Ends (outcome.Busy value)) (damaged (pair_key tables w) (Some value))) ≡ false
      by true = refl
      by false = refl

  read_lands : (client : ℕ) (w : Write) (o : Option (List ℕ)) → flies (after_read tables client w o) ≡ false
  read_lands client w None = row_lands w None None
  read_lands client w (Some value) = cell_lands client w value (cell_of value)

  lands_looking : (g : Flight) → flies (On (Looking g)) ≡ false
  unfolding flies
  lands_looking g = refl

  pub reads_on : (client : ℕ) (w : Option Write) (c : Content) → flies (read_on tables client w c).1 ≡ false
  unfolding flies
  reads_on client None c = refl
  reads_on client (Some w) c = read_lands client w (get c (pair_key tables w))

  -- ---- the whole step

  reading_lands : (f : Flight) (stage : Stage) → Reading ≡ Flying f stage → ⊥
  unfolding flies
  reading_lands f stage e = false≢true (ap (λ (n : Next). flies (On n)) e)

  abbrev Turns : View → Content → Next → Then → Type 0
  Turns v c next t = (f : Flight) (stage : Stage) (why : Refusal) → t ≡ On (Flying f stage) → WillTell stage why
      → (before : Stage) × (next ≡ Flying f before) × (WillTell before why ⊎ ShowsRefusal tables c f before why)

  not_flies : (t : Then) (f : Flight) (stage : Stage) → flies t ≡ false → t ≡ On (Flying f stage) → ⊥
  unfolding flies
  not_flies t f stage h e = false≢true (sym h ∙ ap flies e)

  gone_turns : (v : View) (c : Content) (next : Next) → Turns v c next (gone_on tables v next c).1
  gone_turns v c Reading f stage why is tell = absurd (not_flies (read_on tables v.number (write_at v.writes v.at) c).1 f stage (reads_on v.number (write_at v.writes v.at) c) is)
  gone_turns v c (Taking g) f stage why is tell = by (is_just g.read (get c (flight_key tables g))) is tell
    where
      by : (b : Bool) → (cond {A = Content × Then} b (written_content (flight_key tables g) (Some (held_value v.number v.at g.read)) c, On (Flying g (checking tables g (flight_checks tables g)))) (c, On (Looking g))).1 ≡ On (Flying f stage) → WillTell stage why → (before : Stage) × (Taking g ≡ Flying f before) × (WillTell before why ⊎ ShowsRefusal tables c f before why)
      by true is tell = absurd (checking_tells g (flight_checks tables g) why (subst (λ (s : Stage). WillTell s why) (sym (on_stage g f (checking tables g (flight_checks tables g)) stage is).1) tell))
      by false is tell = absurd (not_flies (On (Looking g)) f stage (lands_looking g) is)
  gone_turns v c (Looking g) f stage why is tell = absurd (not_on_ends (outcome.Conflict g.read (get c (flight_key tables g))) (Flying f stage) is)
  gone_turns v c (Flying g before) f stage why is tell =
      let h = flown_behind v.number v.at c g before f stage why is tell in
      (before, ap (λ (x : Flight). Flying x before) (sym h.0), subst (λ (x : Flight). WillTell before why ⊎ ShowsRefusal tables c x before why) (sym h.0) h.1)

  -- a put goes on to clear, and turns to no refusal
  abbrev PutTurns : Then → Type 0
  PutTurns t = (f : Flight) (stage : Stage) (why : Refusal) → t ≡ Puts (Flying f stage) → WillTell stage why → ⊥

  is_put : Then → Bool
  is_put (On next) = false
  is_put (Puts next) = true
  is_put (Ends o) = false

  not_put : (t : Then) → is_put t ≡ false → PutTurns t
  unfolding is_put
  not_put t h f stage why e tell = false≢true (sym h ∙ ap is_put e)

  no_put_read : (t : Then) → flies t ≡ false → is_put t ≡ false
  unfolding flies is_put
  no_put_read (On next) h = refl
  no_put_read (Puts next) h = absurd (false≢true (sym h))
  no_put_read (Ends o) h = refl

  put_stage : (a b : Flight) (s u : Stage) → Puts (Flying a s) ≡ Puts (Flying b u) → s ≡ u
  put_stage a b s u e = cc

  own_puts : (client number : ℕ) (present : Option (List ℕ)) (c : Content) (f : Flight) (new : Option (List ℕ)) (o : Then) → PutTurns o → PutTurns (if_own tables client number f present c new o).1
  unfolding is_put
  own_puts client number present c f new o ok g stage why = by (is_just (Some (held_value client number present)) (get c (flight_key tables f)))
    where
      by : (b : Bool) → (cond {A = Content × Then} b (written_content (flight_key tables f) new c, o) (c, Ends (outcome.Damaged (record { key = flight_key tables f; value = None })))).1 ≡ Puts (Flying g stage) → WillTell stage why → ⊥
      by true e tell = ok g stage why e tell
      by false e tell = not_put (Ends (outcome.Damaged (record { key = flight_key tables f; value = None }))) refl g stage why e tell

  cond_puts : (b : Bool) (c d : Content) (t u : Then) → is_put t ≡ false → is_put u ≡ false → is_put (cond {A = Content × Then} b (c, t) (d, u)).1 ≡ false
  cond_puts true c d t u h k = h
  cond_puts false c d t u h k = k

  if_puts : (b : Bool) (t u : Then) → is_put t ≡ false → is_put u ≡ false → is_put (cond b t u) ≡ false
  if_puts true t u h k = h
  if_puts false t u h k = k

  clear_puts : (f : Flight) → PutTurns (Puts (Flying f (clearing (stale_entries tables f))))
  clear_puts f g stage why e tell = clearing_tells (stale_entries tables f) why (subst (λ (s : Stage). WillTell s why) (sym (put_stage f g (clearing (stale_entries tables f)) stage e)) tell)

  gone_puts : (v : View) (c : Content) (next : Next) → PutTurns (gone_on tables v next c).1
  unfolding is_put
  gone_puts v c Reading = not_put (read_on tables v.number (write_at v.writes v.at) c).1 (no_put_read (read_on tables v.number (write_at v.writes v.at) c).1 (reads_on v.number (write_at v.writes v.at) c))
  gone_puts v c (Taking g) = not_put (gone_on tables v (Taking g) c).1 (cond_puts (is_just g.read (get c (flight_key tables g))) (written_content (flight_key tables g) (Some (held_value v.number v.at g.read)) c) c (On (Flying g (checking tables g (flight_checks tables g)))) (On (Looking g)) refl refl)
  gone_puts v c (Looking g) = not_put (Ends (outcome.Conflict g.read (get c (flight_key tables g)))) refl
  gone_puts v c (Flying g (Checking check left)) = not_put (gone_on tables v (Flying g (Checking check left)) c).1 (if_puts (passes tables check c) (On (Flying g (checking tables g left))) (On (Flying g (Releasing (check_refusal tables g check)))) refl refl)
  gone_puts v c (Flying g (Adding entry left added)) = not_put (On (Flying g (adding tables g left (entry ∷ added)))) refl
  gone_puts v c (Flying g (Testing place left passed)) = not_put (gone_on tables v (Flying g (Testing place left passed)) c).1 (if_puts (has_room tables g place c) (On (Flying g (testing left (place ∷ passed)))) (On (Flying g (undoing (fresh_entries tables g) (test_refusal tables g place)))) refl refl)
  gone_puts v c (Flying g Putting) = own_puts v.number v.at g.read c g (Some (held_value v.number v.at (new_code tables g))) (Puts (Flying g (clearing (stale_entries tables g)))) (clear_puts g)
  gone_puts v c (Flying g (Clearing entry left)) = not_put (On (Flying g (clearing left))) refl
  gone_puts v c (Flying g Freeing) = own_puts v.number v.at (new_code tables g) c g (new_code tables g) (Ends outcome.Done) (not_put (Ends outcome.Done) refl)
  gone_puts v c (Flying g (Undoing entry left r)) = not_put (On (Flying g (undoing left r))) refl
  gone_puts v c (Flying g (Releasing r)) = own_puts v.number v.at g.read c g g.read (refused r) (not_put (refused r) refl)

  abbrev Ended : View → Content → Next → Type 0
  Ended v c next = (f : Flight) (stage : Stage) (why : Refusal) → next ≡ Flying f stage → WillTell stage why
      → (before : Stage) × (v.next ≡ Flying f before) × (WillTell before why ⊎ ShowsRefusal tables c f before why)

  -- nothing is turned to: the refusal was on its way before
  abbrev Waits : View → Next → Type 0
  Waits v next = (f : Flight) (stage : Stage) (why : Refusal) → next ≡ Flying f stage → WillTell stage why
      → (before : Stage) × (v.next ≡ Flying f before) × WillTell before why

  told_waits : (v : View) (o : Outcome) → Waits v (told_view v o).next
  told_waits v o f stage why = by (is_fault o)
    where
      by : (b : Bool) → (cond b (record v { over = Some o }) (record v { at = v.at + 1; next = Reading })).next ≡ Flying f stage → WillTell stage why → (before : Stage) × (v.next ≡ Flying f before) × WillTell before why
      by true e tell = (stage, e, tell)
      by false e tell = absurd (reading_lands f stage e)

  call_turns : (v : View) (c after : Content) (t : Then) → Turns v c v.next t → PutTurns t → Ended v c (after_call v (after, t)).view.next
  call_turns v c after (On next) on put f stage why e tell = on f stage why (ap On e) tell
  call_turns v c after (Puts next) on put f stage why e tell = absurd (put f stage why (ap Puts e) tell)
  call_turns v c after (Ends o) on put f stage why e tell = let w = told_waits v o f stage why e tell in (w.0, w.1, inl w.2)

  -- the refusal was on its way before, or this call answers and shows it
  abbrev pub TurnsTo : View → Content → Fate → Next → Type 0
  TurnsTo v c fate next = (f : Flight) (stage : Stage) (why : Refusal) → next ≡ Flying f stage → WillTell stage why
      → (before : Stage) × (v.next ≡ Flying f before)
      × (WillTell before why ⊎ ((is_over v ≡ false) × (fate ≡ Answers) × ShowsRefusal tables c f before why))

  waits_turns : (v : View) (c : Content) (fate : Fate) (next : Next) → Waits v next → TurnsTo v c fate next
  waits_turns v c fate next waits f stage why e tell = let w = waits f stage why e tell in (w.0, w.1, inl w.2)

  met_turns : (v : View) (c : Content) (fate : Fate) → is_over v ≡ false → TurnsTo v c fate (met tables v c fate).view.next
  met_turns v c Answers going = answers_turn
    where
      answers_turn : TurnsTo v c Answers (met tables v c Answers).view.next
      answers_turn f stage why e tell =
          let t = call_turns v c (gone_on tables v v.next c).0 (gone_on tables v v.next c).1 (gone_turns v c v.next) (gone_puts v c v.next) f stage why e tell in
          (t.0, t.1, elim t.2 [ inl before ↦ inl before | inr shows ↦ inr (going, refl, shows) ])
  met_turns v c NotDone going = waits_turns v c NotDone (told_view v outcome.Failed).next (told_waits v outcome.Failed)
  met_turns v c DoneUnseen going = waits_turns v c DoneUnseen (told_view v outcome.Failed).next (told_waits v outcome.Failed)
  met_turns v c NoMemory going = waits_turns v c NoMemory (told_view v outcome.NoMem).next (told_waits v outcome.NoMem)

  -- a step turns to the refusal of a test only where its call shows it
  pub turns_shown : (v : View) (c : Content) (fate : Fate) → TurnsTo v c fate (stepped tables v c fate).view.next
  turns_shown v c fate f stage why = by (is_over v) refl
    where
      by : (b : Bool) → is_over v ≡ b → (cond b (record { content = c; view = v; step = step.Over }) (met tables v c fate)).view.next ≡ Flying f stage → WillTell stage why
          → (before : Stage) × (v.next ≡ Flying f before) × (WillTell before why ⊎ ((is_over v ≡ false) × (fate ≡ Answers) × ShowsRefusal tables c f before why))
      by true over e tell = (stage, e, inl tell)
      by false over e tell = met_turns v c fate over f stage why e tell
