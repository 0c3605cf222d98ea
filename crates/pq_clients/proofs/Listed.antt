-- What was told Done was put, and a write behind its put is in the list of puts.
use Rattle.std.proofs.Common.{◌≡◌, ℕ, ◌+◌, Bool, true, false, cond, not, inl, inr, List, [], ◌∷◌, ◌++◌, Option, Some, None, refl, sym, ap, ◌∙◌, subst}
use Rattle.std.specs.List.{AllByRecursion, slice_get}
use Rattle.std.specs.FinMap.{get}
use Rattle.std.proofs.lemmas.Bool.{false≢true}
use Rattle.pq_base.specs.Members.{In}
use Rattle.pq_base.specs.declared.refusal.Refusal.{Refusal}
use Rattle.pq_schema.specs.declared.table.Table.{Table}
use Rattle.pq_store.specs.Content.{Content, written_content}
use Rattle.pq_clients.specs.declared.outcome.Outcome.{Outcome}
use Rattle.pq_clients.specs.declared.outcome.Outcome.TheVariants as outcome
use Rattle.pq_clients.specs.declared.outcome.Step.{Step}
use Rattle.pq_clients.specs.declared.outcome.Step.TheVariants as step
use Rattle.pq_clients.specs.declared.outcome.Told.{Told}
use Rattle.pq_clients.specs.declared.outcome.Wrote.{Wrote}
use Rattle.pq_clients.specs.Held.{held_value}
use Rattle.pq_clients.specs.Flights.{Flight, Check, flight_key, new_code, stale_entries, fresh_entries, flight_tests, flight_checks, check_refusal, test_refusal}
use Rattle.pq_clients.specs.Clients.{Checking, Adding, Testing, Putting, Clearing, Freeing, Undoing, Releasing, Next, Reading, Taking, Looking, Flying, View, write_at, is_over}
use Rattle.pq_clients.specs.Steps.{is_just, read_on, Then, On, Puts, Ends, testing, adding, checking, clearing, undoing, passes, has_room, refused, damaged, gone_on, is_fault, After, after_call, told_view, Fate, Answers, NotDone, DoneUnseen, NoMemory, met, stepped}
use Rattle.pq_clients.specs.Runs.{Event, Run, turned, turn, run, put_by, told_by}
use Rattle.pq_clients.specs.Promises.{TellsDone, Frees}
use Rattle.pq_clients.proofs.Whole.{at_place, set_place}
use Rattle.pq_clients.proofs.Causes.{flies, reads_on}
use Rattle.pq_clients.proofs.Once.{is_past, past_stage, all_snoc, all_nil, all_map}
use Rattle.pq_clients.proofs.Leads.{put_says, put_answered}
use Rattle.pq_clients.proofs.Done.{is_done, step_done, over_done, done_frees, frees_done}

pub in_front : {A : Type 0} (x : A) (xs ys : List A) → In x xs → In x (xs ++ ys)
in_front x [] ys i = elim i [ ]
in_front x (y ∷ xs) ys (inl e) = inl e
in_front x (y ∷ xs) ys (inr i) = inr (in_front x xs ys i)

pub in_last : {A : Type 0} (x : A) (xs : List A) → In x (xs ++ x ∷ [])
in_last x [] = inl refl
in_last x (y ∷ xs) = inr (in_last x xs)

module _ (tables : List Table) where
  -- no step but a put leads behind the put
  back_then : Then → Bool
  back_then (On next) = not (is_past tables next)
  back_then (Puts next) = true
  back_then (Ends o) = true

  testing_back : (left passed : List ℕ) → not (past_stage tables (testing left passed)) ≡ true
  unfolding past_stage
  testing_back [] passed = refl
  testing_back (x ∷ left) passed = refl

  adding_back : (f : Flight) (left added : List (List ℕ)) → not (past_stage tables (adding tables f left added)) ≡ true
  unfolding past_stage
  adding_back f [] added = testing_back (flight_tests tables f) []
  adding_back f (x ∷ left) added = refl

  checking_back : (f : Flight) (left : List Check) → not (past_stage tables (checking tables f left)) ≡ true
  unfolding past_stage
  checking_back f [] = adding_back f (fresh_entries tables f) []
  checking_back f (x ∷ left) = refl

  undoing_back : (left : List (List ℕ)) (r : Refusal) → not (past_stage tables (undoing left r)) ≡ true
  unfolding past_stage
  undoing_back [] r = refl
  undoing_back (x ∷ left) r = refl

  cond_back : (b : Bool) (c d : Content) (t u : Then) → back_then t ≡ true → back_then u ≡ true → back_then (cond {A = Content × Then} b (c, t) (d, u)).1 ≡ true
  cond_back true c d t u h k = h
  cond_back false c d t u h k = k

  if_back : (b : Bool) (t u : Then) → back_then t ≡ true → back_then u ≡ true → back_then (cond b t u) ≡ true
  if_back true t u h k = h
  if_back false t u h k = k

  read_back : (t : Then) → flies tables t ≡ false → back_then t ≡ true
  unfolding back_then flies is_past
  read_back (On Reading) h = refl
  read_back (On (Taking f)) h = refl
  read_back (On (Looking f)) h = refl
  read_back (On (Flying f stage)) h = absurd (false≢true (sym h))
  read_back (Puts next) h = refl
  read_back (Ends o) h = refl

  gone_back : (v : View) (c : Content) (next : Next) → is_past tables next ≡ false → back_then (gone_on tables v next c).1 ≡ true
  unfolding back_then is_past past_stage
  gone_back v c Reading h = read_back (read_on tables v.number (write_at v.writes v.at) c).1 (reads_on tables v.number (write_at v.writes v.at) c)
  gone_back v c (Taking g) h = cond_back (is_just g.read (get c (flight_key tables g))) (written_content (flight_key tables g) (Some (held_value v.number v.at g.read)) c) c (On (Flying g (checking tables g (flight_checks tables g)))) (On (Looking g)) (checking_back g (flight_checks tables g)) refl
  gone_back v c (Looking g) h = refl
  gone_back v c (Flying g (Checking check left)) h = if_back (passes tables check c) (On (Flying g (checking tables g left))) (On (Flying g (Releasing (check_refusal tables g check)))) (checking_back g left) refl
  gone_back v c (Flying g (Adding entry left added)) h = adding_back g left (entry ∷ added)
  gone_back v c (Flying g (Testing place left passed)) h = if_back (has_room tables g place c) (On (Flying g (testing left (place ∷ passed)))) (On (Flying g (undoing (fresh_entries tables g) (test_refusal tables g place)))) (testing_back left (place ∷ passed)) (undoing_back (fresh_entries tables g) (test_refusal tables g place))
  gone_back v c (Flying g Putting) h = cond_back (is_just (Some (held_value v.number v.at g.read)) (get c (flight_key tables g))) (written_content (flight_key tables g) (Some (held_value v.number v.at (new_code tables g))) c) c (Puts (Flying g (clearing (stale_entries tables g)))) (damaged (flight_key tables g) None) refl refl
  gone_back v c (Flying g (Clearing entry left)) h = absurd (false≢true (sym h))
  gone_back v c (Flying g Freeing) h = absurd (false≢true (sym h))
  gone_back v c (Flying g (Undoing entry left r)) h = undoing_back left r
  gone_back v c (Flying g (Releasing r)) h = cond_back (is_just (Some (held_value v.number v.at g.read)) (get c (flight_key tables g))) (written_content (flight_key tables g) g.read c) c (refused r) (damaged (flight_key tables g) None) refl refl

  -- ---- one step

  abbrev pub at_hand : View → Wrote
  at_hand v = record { client = v.number; number = v.at }

  abbrev pub Listed : List Wrote → View → Type 0
  Listed puts v = is_past tables v.next ≡ true → In (at_hand v) puts

  abbrev AfterListed : List Wrote → After → Type 0
  AfterListed puts a = Listed (puts ++ put_by a.step) a.view

  told_listed : (puts more : List Wrote) (v : View) (o : Outcome) → Listed puts v → Listed (puts ++ more) (told_view v o)
  unfolding is_past
  told_listed puts more v o h = by (is_fault o)
    where
      by : (b : Bool) → Listed (puts ++ more) (cond b (record v { over = Some o }) (record v { at = v.at + 1; next = Reading }))
      by true p = in_front (at_hand v) puts more (h p)
      by false p = absurd (false≢true p)

  on_past : (b : Bool) (next : Next) (puts : List Wrote) (v : View) → is_past tables v.next ≡ b → (is_past tables v.next ≡ false → not (is_past tables next) ≡ true) → Listed puts v → is_past tables next ≡ true → In (at_hand v) puts
  on_past true next puts v is back h p = h is
  on_past false next puts v is back h p = absurd (false≢true (sym (ap not p) ∙ back is))

  call_listed : (puts : List Wrote) (v : View) (c : Content) (t : Then) → (is_past tables v.next ≡ false → back_then t ≡ true) → Listed puts v → AfterListed puts (after_call v (c, t))
  unfolding back_then
  call_listed puts v c (On next) back h p = in_front (at_hand v) puts [] (on_past (is_past tables v.next) next puts v refl back h p)
  call_listed puts v c (Puts next) back h p = in_last (at_hand v) puts
  call_listed puts v c (Ends o) back h p = told_listed puts [] v o h p

  met_listed : (puts : List Wrote) (v : View) (c : Content) (fate : Fate) → Listed puts v → AfterListed puts (met tables v c fate)
  met_listed puts v c Answers = call_listed puts v (gone_on tables v v.next c).0 (gone_on tables v v.next c).1 (gone_back v c v.next)
  met_listed puts v c NotDone = told_listed puts [] v outcome.Failed
  met_listed puts v c DoneUnseen = told_listed puts [] v outcome.Failed
  met_listed puts v c NoMemory = told_listed puts [] v outcome.NoMem

  step_listed : (puts : List Wrote) (v : View) (c : Content) (fate : Fate) → Listed puts v → AfterListed puts (stepped tables v c fate)
  step_listed puts v c fate h = by (is_over v)
    where
      by : (b : Bool) → AfterListed puts (cond b (record { content = c; view = v; step = step.Over }) (met tables v c fate))
      by true p = in_front (at_hand v) puts [] (h p)
      by false p = met_listed puts v c fate h p

  free_past : (v : View) (c : Content) (fate : Fate) → Frees tables v c fate → is_past tables v.next ≡ true
  unfolding is_past past_stage
  free_past v c fate h = ap (is_past tables) h.1

  abbrev pub TellFacts : Step → View → Type 0
  TellFacts step.Moved v = Unit {0}
  TellFacts (step.Put wrote) v = Unit {0}
  TellFacts (step.Tells told) v = (told.client ≡ v.number) × (told.number ≡ v.at)
  TellFacts step.Over v = Unit {0}

  call_tells : (v : View) (c : Content) (t : Then) → TellFacts (after_call v (c, t)).step v
  call_tells v c (On next) = tt
  call_tells v c (Puts next) = tt
  call_tells v c (Ends o) = (refl, refl)

  met_tells : (v : View) (c : Content) (fate : Fate) → TellFacts (met tables v c fate).step v
  met_tells v c Answers = call_tells v (gone_on tables v v.next c).0 (gone_on tables v v.next c).1
  met_tells v c NotDone = (refl, refl)
  met_tells v c DoneUnseen = (refl, refl)
  met_tells v c NoMemory = (refl, refl)

  pub step_tells : (v : View) (c : Content) (fate : Fate) → TellFacts (stepped tables v c fate).step v
  step_tells v c fate = by (is_over v)
    where
      by : (b : Bool) → TellFacts (cond b (record { content = c; view = v; step = step.Over }) (met tables v c fate)).step v
      by true = tt
      by false = met_tells v c fate

  abbrev pub told_write : Told → Wrote
  told_write told = record { client = told.client; number = told.number }

  abbrev pub WasPut : List Wrote → Told → Type 0
  WasPut puts told = told.outcome ≡ outcome.Done → In (told_write told) puts

  step_told : (all : List Told) (puts : List Wrote) (v : View) (s : Step) → TellFacts s v → (step_done tables s ≡ true → In (at_hand v) puts) → AllByRecursion (WasPut puts) all → AllByRecursion (WasPut puts) (all ++ told_by s)
  unfolding step_done is_done
  step_told all puts v step.Moved f put h = all_nil (WasPut puts) all h
  step_told all puts v (step.Put wrote) f put h = all_nil (WasPut puts) all h
  step_told all puts v (step.Tells told) f put h = all_snoc (WasPut puts) all told h
      (λ is. subst (λ (w : Wrote). In w puts) (sym (ap (λ n. record { client = n; number = told.number }) f.0 ∙ ap (λ n. record { client = v.number; number = n }) f.1)) (put (ap (is_done tables) is)))
  step_told all puts v step.Over f put h = all_nil (WasPut puts) all h

  -- ---- every schedule

  pub record ListedRun (r : Run) : Type 0 where
    pub past : AllByRecursion (Listed r.puts) r.clients
    pub done : AllByRecursion (WasPut r.puts) r.told

  turn_by : (r : Run) (e : Event) (o : Option View) → slice_get r.clients e.place ≡ o → ListedRun r → ListedRun (turned tables r e o)
  unfolding is_past past_stage
  turn_by r e None is h = h
  turn_by r e (Some v) is h =
      let a = stepped tables v r.content e.fate in
      let own : Listed r.puts v = at_place (Listed r.puts) r.clients e.place v h.past is in
      record {
        past = set_place (Listed (r.puts ++ put_by a.step)) r.clients e.place a.view
            (all_map (Listed r.puts) (Listed (r.puts ++ put_by a.step)) r.clients (λ u l p. in_front (at_hand u) r.puts (put_by a.step) (l p)) h.past)
            (step_listed r.puts v r.content e.fate own);
        done = step_told r.told (r.puts ++ put_by a.step) v a.step (step_tells v r.content e.fate)
            (λ d. in_front (at_hand v) r.puts (put_by a.step) (own (ap (is_past tables) (over_done tables v r.content e.fate d).2.1)))
            (all_map (WasPut r.puts) (WasPut (r.puts ++ put_by a.step)) r.told (λ told w is. in_front (told_write told) r.puts (put_by a.step) (w is)) h.done);
      }

  pub run_listed : (es : List Event) (r : Run) → ListedRun r → ListedRun (run tables r es)
  run_listed [] r h = h
  run_listed (e ∷ es) r h = run_listed es (turn tables r e) (turn_by r e (slice_get r.clients e.place) refl h)

  pub in_all : {A : Type 0} (P : A → Type 0) (x : A) (xs : List A) → AllByRecursion P xs → In x xs → P x
  in_all P x [] all i = elim i [ ]
  in_all P x (y ∷ xs) all (inl e) = subst P e all.0
  in_all P x (y ∷ xs) all (inr i) = in_all P x xs all.1 i

  -- Done is told exactly where the free is answered with true, of a write that was put
  pub tells_done : (r : Run) → ListedRun r → TellsDone tables r
  tells_done r h = record {
    putting = λ p v fate wrote is says. put_says tables v r.content fate wrote says;
    answered = λ p v fate is own. put_answered tables v r.content fate own;
    put = λ client number i. in_all (WasPut r.puts) (record { client = client; number = number; outcome = outcome.Done }) r.told h.done i refl;
    freed = λ p v fate is tells. done_frees tables v r.content fate tells;
    told = λ p v fate is frees. (frees_done tables v r.content fate frees, at_place (Listed r.puts) r.clients p v h.past is (free_past v r.content fate frees));
  }
