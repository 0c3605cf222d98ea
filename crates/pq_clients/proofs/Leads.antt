-- What each step leads to: from a read to a take, from a take to what its guard found, from a put only where it was answered with true.
use Rattle.std.proofs.Common.{◌≡◌, ℕ, ◌+◌, Bool, true, false, cond, not, ◌⊎◌, inl, inr, List, [], ◌∷◌, length, Option, Some, None, is_some, refl, sym, ap, ◌∙◌, subst}
use Rattle.std.specs.Prelude.{nat_lt}
use Rattle.std.specs.FinMap.{get}
use Rattle.std.proofs.lemmas.Bool.{false≢true}
use Rattle.pq_base.specs.Members.{In}
use Rattle.pq_base.specs.declared.refusal.Refusal.{Refusal}
use Rattle.pq_base.specs.declared.refusal.Refusal.TheVariants as refusal
use Rattle.pq_base.specs.declared.value.Value.{Value}
use Rattle.pq_schema.specs.declared.table.Table.{Table}
use Rattle.pq_content.specs.Tables.{stored_code}
use Rattle.pq_store.specs.Content.{Content, written_content}
use Rattle.pq_index_keep.specs.declared.write.Write.{Write}
use Rattle.pq_index_keep.specs.declared.write.Write.TheVariants as write
use Rattle.pq_clients.specs.declared.outcome.Outcome.{Outcome}
use Rattle.pq_clients.specs.declared.outcome.Outcome.TheVariants as outcome
use Rattle.pq_clients.specs.declared.outcome.Step.{Step}
use Rattle.pq_clients.specs.declared.outcome.Step.TheVariants as step
use Rattle.pq_clients.specs.declared.outcome.Wrote.{Wrote}
use Rattle.pq_clients.specs.Held.{decoded_row, Cell, Free, Held, cell_of, held_value}
use Rattle.pq_clients.specs.Flights.{row_made, table_of, pair_key, Flight, Check, flight_table, flight_key, new_code, fresh_entries, stale_entries, flight_checks, flight_tests, check_refusal, test_refusal, row_refusal}
use Rattle.pq_clients.specs.Clients.{Stage, Checking, Adding, Testing, Putting, Clearing, Freeing, Undoing, Releasing, Next, Reading, Taking, Looking, Flying, View, write_at, is_over}
use Rattle.pq_clients.specs.Steps.{is_just, taking_short, after_row, after_code, after_cell, after_read, read_on, is_held_by_other, Then, On, Puts, Ends, testing, adding, checking, clearing, undoing, passes, has_room, refused, damaged, if_own, flown, gone_on, is_fault, After, after_call, told_view, Fate, Answers, NotDone, DoneUnseen, NoMemory, stepped}
use Rattle.pq_clients.specs.Promises.{Reads, PutsOwn, is_insert, IsOwnTest}
use Rattle.pq_clients.proofs.Shaped.{just_this, just_itself}
use Rattle.pq_clients.proofs.ByCalls.{call_by, by_call}
use Rattle.pq_clients.proofs.Granting.{refused_or}

module _ (tables : List Table) where
  -- ---- the tests of a stage are those of its write

  abbrev pub OfStage : Flight → Stage → Type 0
  OfStage f (Checking check left) = (x : Check) → In x (check ∷ left) → In x (flight_checks tables f)
  OfStage f (Testing place left passed) = (x : ℕ) → In x (place ∷ left) → In x (flight_tests tables f)
  OfStage f stage = Unit {0}

  testing_of : (f : Flight) (left passed : List ℕ) → ((x : ℕ) → In x left → In x (flight_tests tables f)) → OfStage f (testing left passed)
  testing_of f [] passed h = tt
  testing_of f (place ∷ left) passed h = h

  adding_of : (f : Flight) (left added : List (List ℕ)) → OfStage f (adding tables f left added)
  adding_of f [] added = testing_of f (flight_tests tables f) [] (λ x i. i)
  adding_of f (entry ∷ left) added = tt

  checking_of : (f : Flight) (left : List Check) → ((x : Check) → In x left → In x (flight_checks tables f)) → OfStage f (checking tables f left)
  checking_of f [] h = adding_of f (fresh_entries tables f) []
  checking_of f (check ∷ left) h = h

  clearing_of : (f : Flight) (left : List (List ℕ)) → OfStage f (clearing left)
  clearing_of f [] = tt
  clearing_of f (entry ∷ left) = tt

  undoing_of : (f : Flight) (left : List (List ℕ)) (why : Refusal) → OfStage f (undoing left why)
  undoing_of f [] why = tt
  undoing_of f (entry ∷ left) why = tt

  -- an INSERT found nothing, and another write found a row
  abbrev pub Matches : Flight → Type 0
  Matches f = is_insert f.write ≡ not (is_some f.read)

  abbrev pub OfNext : Next → Type 0
  OfNext Reading = Unit {0}
  OfNext (Taking f) = Matches f
  OfNext (Looking f) = Matches f
  OfNext (Flying f stage) = Matches f × OfStage f stage

  -- ---- what a call leads to

  -- the step behind a call, from the step before it
  abbrev pub LeadsTo : View → Content → Next → Next → Type 0
  LeadsTo v c before Reading = Unit {0}
  LeadsTo v c before (Taking f) = (before ≡ Reading) × (write_at v.writes v.at ≡ Some f.write) × (get c (pair_key tables f.write) ≡ f.read) × Matches f
  LeadsTo v c before (Looking f) = before ≡ Taking f
  LeadsTo v c before (Flying f stage) = ((b : Stage) × (before ≡ Flying f b) × (OfStage f b → OfStage f stage))
      ⊎ ((before ≡ Taking f) × (get c (flight_key tables f) ≡ f.read) × OfStage f stage)

  abbrev PutAt : View → Content → Next → Type 0
  PutAt v c before = (f : Flight) × (before ≡ Flying f Putting) × (get c (flight_key tables f) ≡ Some (held_value v.number v.at f.read))

  abbrev Leads : View → Content → Next → Then → Type 0
  Leads v c before (On next) = LeadsTo v c before next
  Leads v c before (Puts next) = LeadsTo v c before next × PutAt v c before
  Leads v c before (Ends o) = Unit {0}

  module _ (v : View) (c : Content) where
    if_leads : (next : Next) (b : Bool) (t u : Then) → Leads v c next t → Leads v c next u → Leads v c next (cond b t u)
    if_leads next true t u h k = h
    if_leads next false t u h k = k

    cond_leads : (next : Next) (b : Bool) (d e : Content) (t u : Then) → (b ≡ true → Leads v c next t) → (b ≡ false → Leads v c next u) → Leads v c next (cond {A = Content × Then} b (d, t) (e, u)).1
    cond_leads next true d e t u h k = h refl
    cond_leads next false d e t u h k = k refl

    -- ---- a read
    module _ (w : Write) (at : write_at v.writes v.at ≡ Some w) where
      short_leads : (f : Flight) (row : Option (List Value)) → LeadsTo v c Reading (Taking f) → Leads v c Reading (taking_short tables f row)
      short_leads f None h = h
      short_leads f (Some row) h =
          if_leads Reading (nat_lt 4096 (length (stored_code (flight_table tables f) row))) (refused (refusal.RowLong (flight_table tables f).name (length (stored_code (flight_table tables f) row)))) (On (Taking f)) tt h

      taken : (u : Write) (read : Option (List ℕ)) → u ≡ w → get c (pair_key tables w) ≡ read → is_insert u ≡ not (is_some read) → LeadsTo v c Reading (Taking (record { write = u; read = read }))
      taken u read same there fits = (refl, at ∙ ap Some (sym same), ap (λ (w : Write). get c (pair_key tables w)) same ∙ there, fits)

      row_leads : (u : Write) → u ≡ w → (read : Option (List ℕ)) (row : Option (List Value)) → is_some row ≡ is_some read → get c (pair_key tables w) ≡ read → Leads v c Reading (after_row tables u read row)
      row_leads (write.Insert t new) same read None fits there = taken (write.Insert t new) read same there (ap not fits)
      row_leads (write.Insert t new) same read (Some old) fits there = tt
      row_leads (write.Update t key sets conds) same read None fits there = tt
      row_leads (write.Update t key sets conds) same read (Some old) fits there =
          refused_or (Leads v c Reading) _ _ (λ why is. tt)
          (λ none. short_leads (record { write = write.Update t key sets conds; read = read }) (row_made (write.Update t key sets conds) (Some old)) (taken (write.Update t key sets conds) read same there (ap not fits)))
      row_leads (write.Delete t key conds) same read None fits there = tt
      row_leads (write.Delete t key conds) same read (Some old) fits there = refused_or (Leads v c Reading) (row_refusal tables (write.Delete t key conds) old) (On (Taking (record { write = write.Delete t key conds; read = read }))) (λ why is. tt) (λ none. taken (write.Delete t key conds) read same there (ap not fits))

      code_leads : (code : List ℕ) (row : Option (List Value)) → get c (pair_key tables w) ≡ Some code → Leads v c Reading (after_code tables w code row)
      code_leads code None there = tt
      code_leads code (Some row) there = row_leads w refl (Some code) (Some row) refl there

      cell_leads : (value : List ℕ) (cell : Cell) → get c (pair_key tables w) ≡ Some value → Leads v c Reading (after_cell tables v.number w value cell)
      cell_leads value (Free code) there = code_leads value (decoded_row (table_of tables w) value) there
      cell_leads value (Held holder number present) there =
          if_leads Reading (is_held_by_other (table_of tables w) v.number (Held holder number present)) (Ends (outcome.Busy value)) (damaged (pair_key tables w) (Some value)) tt tt

      read_leads : (found : Option (List ℕ)) → get c (pair_key tables w) ≡ found → Leads v c Reading (after_read tables v.number w found)
      read_leads None there = row_leads w refl None None refl there
      read_leads (Some value) there = cell_leads value (cell_of value) there

    begins_leads : (w : Option Write) → write_at v.writes v.at ≡ w → Leads v c Reading (read_on tables v.number w c).1
    begins_leads None at = tt
    begins_leads (Some w) at = read_leads w at (get c (pair_key tables w)) refl

    -- ---- a write that holds its key
    flies : (f : Flight) (b stage : Stage) → (OfStage f b → OfStage f stage) → LeadsTo v c (Flying f b) (Flying f stage)
    flies f b stage h = inl (b, refl, h)

    own_leads : (next : Next) (f : Flight) (present new : Option (List ℕ)) (t : Then) → (get c (flight_key tables f) ≡ Some (held_value v.number v.at present) → Leads v c next t)
        → Leads v c next (if_own tables v.number v.at f present c new t).1
    own_leads next f present new t h =
        cond_leads next (is_just (Some (held_value v.number v.at present)) (get c (flight_key tables f))) (written_content (flight_key tables f) new c) c t (damaged (flight_key tables f) None)
        (λ just. h (just_this (Some (held_value v.number v.at present)) (get c (flight_key tables f)) just)) (λ _. tt)

    flown_leads : (f : Flight) (stage : Stage) → Leads v c (Flying f stage) (flown tables v.number v.at f stage c).1
    flown_leads f (Checking check left) =
        if_leads (Flying f (Checking check left)) (passes tables check c) (On (Flying f (checking tables f left))) (On (Flying f (Releasing (check_refusal tables f check))))
        (flies f (Checking check left) (checking tables f left) (λ h. checking_of f left (λ x i. h x (inr i)))) (flies f (Checking check left) (Releasing (check_refusal tables f check)) (λ _. tt))
    flown_leads f (Adding entry left added) = flies f (Adding entry left added) (adding tables f left (entry ∷ added)) (λ _. adding_of f left (entry ∷ added))
    flown_leads f (Testing place left passed) =
        if_leads (Flying f (Testing place left passed)) (has_room tables f place c) (On (Flying f (testing left (place ∷ passed)))) (On (Flying f (undoing (fresh_entries tables f) (test_refusal tables f place))))
        (flies f (Testing place left passed) (testing left (place ∷ passed)) (λ h. testing_of f left (place ∷ passed) (λ x i. h x (inr i))))
        (flies f (Testing place left passed) (undoing (fresh_entries tables f) (test_refusal tables f place)) (λ _. undoing_of f (fresh_entries tables f) (test_refusal tables f place)))
    flown_leads f Putting =
        own_leads (Flying f Putting) f f.read (Some (held_value v.number v.at (new_code tables f))) (Puts (Flying f (clearing (stale_entries tables f))))
        (λ own. (flies f Putting (clearing (stale_entries tables f)) (λ _. clearing_of f (stale_entries tables f)), (f, refl, own)))
    flown_leads f (Clearing entry left) = flies f (Clearing entry left) (clearing left) (λ _. clearing_of f left)
    flown_leads f Freeing = own_leads (Flying f Freeing) f (new_code tables f) (new_code tables f) (Ends outcome.Done) (λ _. tt)
    flown_leads f (Undoing entry left why) = flies f (Undoing entry left why) (undoing left why) (λ _. undoing_of f left why)
    flown_leads f (Releasing why) = own_leads (Flying f (Releasing why)) f f.read f.read (refused why) (λ _. tt)

    gone_leads : (next : Next) → Leads v c next (gone_on tables v next c).1
    gone_leads Reading = begins_leads (write_at v.writes v.at) refl
    gone_leads (Taking g) =
        cond_leads (Taking g) (is_just g.read (get c (flight_key tables g))) (written_content (flight_key tables g) (Some (held_value v.number v.at g.read)) c) c (On (Flying g (checking tables g (flight_checks tables g)))) (On (Looking g))
        (λ just. inr (refl, just_this g.read (get c (flight_key tables g)) just, checking_of g (flight_checks tables g) (λ x i. i))) (λ _. refl)
    gone_leads (Looking g) = tt
    gone_leads (Flying g stage) = flown_leads g stage

    -- ---- one step

    -- the step behind this one is the same, or the call answered and led to it, or it is the read of the next write
    abbrev pub Goes : Fate → Next → Type 0
    Goes fate next = (v.next ≡ next) ⊎ ((is_over v ≡ false) × (fate ≡ Answers) × LeadsTo v c v.next next)

    told_goes : (fate : Fate) (o : Outcome) → Goes fate (told_view v o).next ⊎ ((told_view v o).next ≡ Reading)
    told_goes fate o = by (is_fault o)
      where
        by : (b : Bool) → Goes fate (cond b (record v { over = Some o }) (record v { at = v.at + 1; next = Reading })).next ⊎ ((cond b (record v { over = Some o }) (record v { at = v.at + 1; next = Reading })).next ≡ Reading)
        by true = inl (inl refl)
        by false = inr refl

    call_goes : (fate : Fate) (d : Content) (t : Then) → is_over v ≡ false → fate ≡ Answers → Leads v c v.next t → Goes fate (after_call v (d, t)).view.next ⊎ ((after_call v (d, t)).view.next ≡ Reading)
    call_goes fate d (On next) going answers h = inl (inr (going, answers, h))
    call_goes fate d (Puts next) going answers h = inl (inr (going, answers, h.0))
    call_goes fate d (Ends o) going answers h = told_goes fate o

    met_goes : (fate : Fate) → is_over v ≡ false → Goes fate (after_call v (call_by tables v c fate)).view.next ⊎ ((after_call v (call_by tables v c fate)).view.next ≡ Reading)
    met_goes Answers going = call_goes Answers (gone_on tables v v.next c).0 (gone_on tables v v.next c).1 going refl (gone_leads v.next)
    met_goes NotDone going = told_goes NotDone outcome.Failed
    met_goes DoneUnseen going = told_goes DoneUnseen outcome.Failed
    met_goes NoMemory going = told_goes NoMemory outcome.NoMem

    pub step_goes : (fate : Fate) → Goes fate (stepped tables v c fate).view.next ⊎ ((stepped tables v c fate).view.next ≡ Reading)
    step_goes fate = by_call tables v c fate (λ (a : After). Goes fate a.view.next ⊎ (a.view.next ≡ Reading)) (λ _. inl (inl refl)) (met_goes fate)

    -- ---- the promises of one step

    -- a take comes behind a read that answered what the take goes by
    pub reads_taken : (fate : Fate) (f : Flight) → (stepped tables v c fate).view.next ≡ Taking f
        → (v.next ≡ Taking f) ⊎ ((is_over v ≡ false) × (fate ≡ Answers) × Reads tables v c f.write f.read)
    reads_taken fate f is = by (step_goes fate)
      where
        next : Next
        next = (stepped tables v c fate).view.next

        by : Goes fate next ⊎ (next ≡ Reading) → (v.next ≡ Taking f) ⊎ ((is_over v ≡ false) × (fate ≡ Answers) × Reads tables v c f.write f.read)
        by (inl (inl same)) = inl (same ∙ is)
        by (inl (inr h)) = let l = subst (λ (n : Next). LeadsTo v c v.next n) is h.2 in inr (h.0, h.1, (l.0, l.1, l.2))
        by (inr reading) = let wrong : Reading ≡ Taking f = sym reading ∙ is in absurd (cc)

    -- a write holds its key from a take that found what was read
    pub takes_found : (fate : Fate) (f : Flight) (stage : Stage) → (stepped tables v c fate).view.next ≡ Flying f stage
        → ((before : Stage) × (v.next ≡ Flying f before)) ⊎ ((v.next ≡ Taking f) × (is_over v ≡ false) × (fate ≡ Answers) × (get c (flight_key tables f) ≡ f.read))
    takes_found fate f stage is = by (step_goes fate)
      where
        next : Next
        next = (stepped tables v c fate).view.next

        led : is_over v ≡ false → fate ≡ Answers → LeadsTo v c v.next (Flying f stage)
            → ((before : Stage) × (v.next ≡ Flying f before)) ⊎ ((v.next ≡ Taking f) × (is_over v ≡ false) × (fate ≡ Answers) × (get c (flight_key tables f) ≡ f.read))
        led going answers (inl l) = inl (l.0, l.1)
        led going answers (inr l) = inr (l.0, going, answers, l.1)

        by : Goes fate next ⊎ (next ≡ Reading) → ((before : Stage) × (v.next ≡ Flying f before)) ⊎ ((v.next ≡ Taking f) × (is_over v ≡ false) × (fate ≡ Answers) × (get c (flight_key tables f) ≡ f.read))
        by (inl (inl same)) = inl (stage, same ∙ is)
        by (inl (inr h)) = led h.0 h.1 (subst (λ (n : Next). LeadsTo v c v.next n) is h.2)
        by (inr reading) = let wrong : Reading ≡ Flying f stage = sym reading ∙ is in absurd (cc)

    -- a look comes of a call that answered
    pub looks_going : (fate : Fate) (f : Flight) → (stepped tables v c fate).view.next ≡ Looking f → (v.next ≡ Looking f) ⊎ ((is_over v ≡ false) × (fate ≡ Answers) × (v.next ≡ Taking f))
    looks_going fate f is = by (step_goes fate)
      where
        next : Next
        next = (stepped tables v c fate).view.next

        by : Goes fate next ⊎ (next ≡ Reading) → (v.next ≡ Looking f) ⊎ ((is_over v ≡ false) × (fate ≡ Answers) × (v.next ≡ Taking f))
        by (inl (inl same)) = inl (same ∙ is)
        by (inl (inr h)) = inr (h.0, h.1, subst (λ (n : Next). LeadsTo v c v.next n) is h.2)
        by (inr reading) = let wrong : Reading ≡ Looking f = sym reading ∙ is in absurd (cc)

    -- ---- the puts

    abbrev SaysPut : Fate → Step → Type 0
    SaysPut fate step.Moved = Unit {0}
    SaysPut fate (step.Put wrote) = (wrote ≡ record { client = v.number; number = v.at }) × PutsOwn tables v c fate
    SaysPut fate (step.Tells told) = Unit {0}
    SaysPut fate step.Over = Unit {0}

    call_says : (fate : Fate) (d : Content) (t : Then) → is_over v ≡ false → fate ≡ Answers → Leads v c v.next t → SaysPut fate (after_call v (d, t)).step
    call_says fate d (On next) going answers h = tt
    call_says fate d (Puts next) going answers h = (refl, (h.1.0, h.1.1, answers, going, h.1.2))
    call_says fate d (Ends o) going answers h = tt

    met_says : (fate : Fate) → is_over v ≡ false → SaysPut fate (after_call v (call_by tables v c fate)).step
    met_says Answers going = call_says Answers (gone_on tables v v.next c).0 (gone_on tables v v.next c).1 going refl (gone_leads v.next)
    met_says NotDone going = tt
    met_says DoneUnseen going = tt
    met_says NoMemory going = tt

    -- a step says Put only where the put is answered with true
    pub put_says : (fate : Fate) (wrote : Wrote) → (stepped tables v c fate).step ≡ step.Put wrote → (wrote ≡ record { client = v.number; number = v.at }) × PutsOwn tables v c fate
    put_says fate wrote is = subst (λ (s : Step). SaysPut fate s) is (by_call tables v c fate (λ (a : After). SaysPut fate a.step) (λ _. tt) (met_says fate))

    -- and there it says it
    pub put_answered : (fate : Fate) → PutsOwn tables v c fate → (stepped tables v c fate).step ≡ step.Put (record { client = v.number; number = v.at })
    put_answered fate h = by_call tables v c fate (λ (a : After). a.step ≡ step.Put (record { client = v.number; number = v.at }))
        (λ over. absurd (false≢true (sym h.3 ∙ over)))
        (λ _. ap (λ (fate : Fate). (after_call v (call_by tables v c fate)).step) h.2
        ∙ ap (λ (next : Next). (after_call v (gone_on tables v next c)).step) h.1
        ∙ ap (λ b. (after_call v (cond {A = Content × Then} b (written_content (flight_key tables h.0) (Some (held_value v.number v.at (new_code tables h.0))) c, Puts (Flying h.0 (clearing (stale_entries tables h.0)))) (c, damaged (flight_key tables h.0) None))).step)
        (ap (is_just (Some (held_value v.number v.at h.0.read))) h.4 ∙ just_itself (Some (held_value v.number v.at h.0.read))))

    -- ---- what is kept of a write at hand
    goes_of : (next : Next) → OfNext v.next → LeadsTo v c v.next next → OfNext next
    goes_of Reading h l = tt
    goes_of (Taking f) h l = l.3
    goes_of (Looking f) h l = subst OfNext l h
    goes_of (Flying f stage) h (inl l) = let k = subst OfNext l.1 h in (k.0, l.2 k.1)
    goes_of (Flying f stage) h (inr l) = (subst OfNext l.0 h, l.2)

    pub step_of : (fate : Fate) → OfNext v.next → OfNext (stepped tables v c fate).view.next
    step_of fate h = by (stepped tables v c fate).view.next (step_goes fate)
      where
        by : (next : Next) → Goes fate next ⊎ (next ≡ Reading) → OfNext next
        by next (inl (inl same)) = subst OfNext same h
        by next (inl (inr l)) = goes_of next h l.2
        by next (inr reading) = subst OfNext (sym reading) tt

  -- a test of a stage is one of its write
  pub own_test : (f : Flight) (stage : Stage) → OfStage f stage → IsOwnTest tables f stage
  own_test f (Checking check left) h = h check (inl refl)
  own_test f (Adding entry left added) h = tt
  own_test f (Testing place left passed) h = h place (inl refl)
  own_test f Putting h = tt
  own_test f (Clearing entry left) h = tt
  own_test f Freeing h = tt
  own_test f (Undoing entry left why) h = tt
  own_test f (Releasing why) h = tt
