-- What a write tests it tests in order, in every schedule: what came before a step was passed.
use Rattle.std.proofs.Common.{◌≡◌, ℕ, ◌+◌, ◌⊎◌, Bool, true, false, cond, inl, inr, List, [], ◌∷◌, ◌++◌, map, nat_lt, length, Option, Some, None, refl, sym, ap, ◌∙◌, subst, append_assoc}
use Rattle.std.specs.List.{AllByRecursion, slice_get}
use Rattle.std.specs.FinMap.{get}
use Rattle.std.proofs.lemmas.Bool.{false≢true}
use Rattle.std.proofs.lemmas.List.{append-nil}
use Rattle.pq_base.specs.declared.refusal.Refusal.{Refusal}
use Rattle.pq_base.specs.declared.refusal.Refusal.TheVariants as refusal
use Rattle.pq_base.specs.declared.value.Value.{Value}
use Rattle.pq_schema.specs.declared.table.Table.{Table}
use Rattle.pq_content.specs.Tables.{stored_code}
use Rattle.pq_store.specs.Content.{Content, written_content}
use Rattle.pq_index_keep.specs.declared.write.Write.{Write}
use Rattle.pq_index_keep.specs.declared.write.Write.TheVariants as write
use Rattle.pq_clients.specs.Held.{Cell, Free, Held, cell_of, decoded_row, held_value}
use Rattle.pq_clients.specs.Flights.{Flight, Check, row_made, table_of, pair_key, flight_table, flight_key, new_code, fresh_entries, stale_entries, flight_checks, flight_tests, check_refusal, test_refusal, row_refusal}
use Rattle.pq_clients.specs.Clients.{Stage, Checking, Adding, Testing, Putting, Clearing, Freeing, Undoing, Releasing, Next, Reading, Taking, Looking, Flying, View, write_at, is_over}
use Rattle.pq_clients.specs.Steps.{is_just, is_held_by_other, taking_short, after_row, after_code, after_cell, after_read, read_on, damaged, refused, Then, On, Puts, Ends, testing, adding, checking, clearing, undoing, passes, has_room, flown, gone_on, is_fault, After, after_call, Fate, Answers, NotDone, DoneUnseen, NoMemory, stepped}
use Rattle.pq_clients.specs.declared.outcome.Outcome.TheVariants as outcome
use Rattle.pq_clients.specs.Runs.{Event, Run, turned, run}
use Rattle.pq_clients.specs.Promises.{IsFresh}
use Rattle.pq_clients.specs.Testing.{Test, OfCheck, OfLimit, is_passed_by, limits_tested, all_tests, tests_left, test_of, is_refused, WasPassed, TestsBefore, TestsInOrder}
use Rattle.pq_clients.proofs.ByCalls.{call_by, by_call}
use Rattle.pq_clients.proofs.Once.{step_number, all_map, all_snoc}
use Rattle.pq_clients.proofs.Shown.{run-snoc, step_same}
use Rattle.pq_clients.proofs.Whole.{at_place, set_place}
use Rattle.pq_clients.proofs.Granting.{refused_or}

module _ (tables : List Table) where
  -- ---- what is left behind a step

  testing_left : (f : Flight) (left passed : List ℕ) → tests_left tables f (testing left passed) ≡ map OfLimit left
  testing_left f [] passed = refl
  testing_left f (place ∷ left) passed = refl

  adding_left : (f : Flight) (left added : List (List ℕ)) → tests_left tables f (adding tables f left added) ≡ limits_tested tables f
  adding_left f [] added = testing_left f (flight_tests tables f) []
  adding_left f (entry ∷ left) added = refl

  checking_left : (f : Flight) (left : List Check) → tests_left tables f (checking tables f left) ≡ map OfCheck left ++ limits_tested tables f
  checking_left f [] = adding_left f (fresh_entries tables f) []
  checking_left f (check ∷ left) = refl

  clearing_left : (f : Flight) (left : List (List ℕ)) → tests_left tables f (clearing left) ≡ []
  clearing_left f [] = refl
  clearing_left f (entry ∷ left) = refl

  undoing_refused : (left : List (List ℕ)) (why : Refusal) → is_refused (undoing left why) ≡ true
  undoing_refused [] why = refl
  undoing_refused (entry ∷ left) why = refl

  -- ---- how a step came to a stage

  -- no test was made; or one, which was passed; or the take was made
  abbrev Came : Content → Next → Flight → Stage → Type 0
  Came c next f stage =
      ((before : Stage) × (next ≡ Flying f before) × (is_refused before ≡ false) × (tests_left tables f before ≡ tests_left tables f stage))
      ⊎ (((before : Stage) × (test : Test) × (next ≡ Flying f before) × (is_refused before ≡ false) × (test_of before ≡ Some test)
      × (is_passed_by tables f c test ≡ true) × (tests_left tables f before ≡ test ∷ tests_left tables f stage))
      ⊎ ((next ≡ Taking f) × (all_tests tables f ≡ tests_left tables f stage)))

  abbrev CameNext : Content → Next → Next → Type 0
  CameNext c next Reading = Unit {0}
  CameNext c next (Taking f) = Unit {0}
  CameNext c next (Looking f) = Unit {0}
  CameNext c next (Flying f stage) = is_refused stage ≡ false → Came c next f stage

  abbrev CameThen : Content → Next → Then → Type 0
  CameThen c next (On to) = CameNext c next to
  CameThen c next (Puts to) = CameNext c next to
  CameThen c next (Ends o) = Unit {0}

  either_way : {A : Type 0} (P : A → Type 0) (b : Bool) (x y : A) → (b ≡ true → P x) → (b ≡ false → P y) → P (cond b x y)
  either_way P true x y first second = first refl
  either_way P false x y first second = second refl

  abbrev CameFrom : Content → Next → Content × Then → Type 0
  CameFrom c next gone = CameThen c next gone.1

  flown_came : (client number : ℕ) (f : Flight) (stage : Stage) (c : Content) → CameFrom c (Flying f stage) (flown tables client number f stage c)
  flown_came client number f (Checking check left) c =
      either_way (CameThen c (Flying f (Checking check left))) (passes tables check c) (On (Flying f (checking tables f left))) (On (Flying f (Releasing (check_refusal tables f check))))
      (λ pass _. inr (inl (Checking check left, OfCheck check, refl, refl, refl, pass, ap (λ (ts : List Test). OfCheck check ∷ ts) (sym (checking_left f left)))))
      (λ _ going. absurd (false≢true (sym going)))
  flown_came client number f (Adding entry left added) c = λ _. inl (Adding entry left added, refl, refl, sym (adding_left f left (entry ∷ added)))
  flown_came client number f (Testing place left passed) c =
      either_way (CameThen c (Flying f (Testing place left passed))) (has_room tables f place c) (On (Flying f (testing left (place ∷ passed)))) (On (Flying f (undoing (fresh_entries tables f) (test_refusal tables f place))))
      (λ room _. inr (inl (Testing place left passed, OfLimit place, refl, refl, refl, room, ap (λ (ts : List Test). OfLimit place ∷ ts) (sym (testing_left f left (place ∷ passed))))))
      (λ _ going. absurd (false≢true (sym going ∙ undoing_refused (fresh_entries tables f) (test_refusal tables f place))))
  flown_came client number f Putting c =
      either_way (CameFrom c (Flying f Putting)) (is_just (Some (held_value client number f.read)) (get c (flight_key tables f)))
      (written_content (flight_key tables f) (Some (held_value client number (new_code tables f))) c, Puts (Flying f (clearing (stale_entries tables f)))) (c, damaged (flight_key tables f) None)
      (λ _ _. inl (Putting, refl, refl, sym (clearing_left f (stale_entries tables f)))) (λ _. tt)
  flown_came client number f (Clearing entry left) c = λ _. inl (Clearing entry left, refl, refl, sym (clearing_left f left))
  flown_came client number f Freeing c =
      either_way (CameFrom c (Flying f Freeing)) (is_just (Some (held_value client number (new_code tables f))) (get c (flight_key tables f)))
      (written_content (flight_key tables f) (new_code tables f) c, Ends outcome.Done) (c, damaged (flight_key tables f) None) (λ _. tt) (λ _. tt)
  flown_came client number f (Undoing entry left why) c = λ going. absurd (false≢true (sym going ∙ undoing_refused left why))
  flown_came client number f (Releasing why) c =
      either_way (CameFrom c (Flying f (Releasing why))) (is_just (Some (held_value client number f.read)) (get c (flight_key tables f)))
      (written_content (flight_key tables f) f.read c, refused why) (c, damaged (flight_key tables f) None) (λ _. tt) (λ _. tt)

  module _ (c : Content) where
    short_came : (f : Flight) (new : Option (List Value)) → CameThen c Reading (taking_short tables f new)
    short_came f None = tt
    short_came f (Some row) =
        either_way (CameThen c Reading) (nat_lt 4096 (length (stored_code (flight_table tables f) row)))
        (refused (refusal.RowLong (flight_table tables f).name (length (stored_code (flight_table tables f) row)))) (On (Taking f)) (λ _. tt) (λ _. tt)

    row_came : (w : Write) (read : Option (List ℕ)) (old : Option (List Value)) → CameThen c Reading (after_row tables w read old)
    row_came (write.Insert t row) read None = tt
    row_came (write.Insert t row) read (Some old) = tt
    row_came (write.Update t key sets conds) read None = tt
    row_came (write.Update t key sets conds) read (Some old) =
        refused_or (CameThen c Reading) _ _ (λ why is. tt) (λ none. short_came (record { write = write.Update t key sets conds; read = read }) (row_made (write.Update t key sets conds) (Some old)))
    row_came (write.Delete t key conds) read None = tt
    row_came (write.Delete t key conds) read (Some old) = refused_or (CameThen c Reading) (row_refusal tables (write.Delete t key conds) old) (On (Taking (record { write = write.Delete t key conds; read = read }))) (λ why is. tt) (λ none. tt)

    code_came : (w : Write) (code : List ℕ) (row : Option (List Value)) → CameThen c Reading (after_code tables w code row)
    code_came w code None = tt
    code_came w code (Some row) = row_came w (Some code) (Some row)

    cell_came : (client : ℕ) (w : Write) (value : List ℕ) (cell : Cell) → CameThen c Reading (after_cell tables client w value cell)
    cell_came client w value (Free code) = code_came w value (decoded_row (table_of tables w) value)
    cell_came client w value (Held holder number present) =
        either_way (CameThen c Reading) (is_held_by_other (table_of tables w) client (Held holder number present))
        (Ends (outcome.Busy value)) (damaged (pair_key tables w) (Some value)) (λ _. tt) (λ _. tt)

    read_came : (client : ℕ) (w : Option Write) → CameFrom c Reading (read_on tables client w c)
    read_came client None = tt
    read_came client (Some w) = by (get c (pair_key tables w))
      where
        by : (found : Option (List ℕ)) → CameThen c Reading (after_read tables client w found)
        by None = row_came w None None
        by (Some value) = cell_came client w value (cell_of value)

    gone_came : (v : View) (next : Next) → CameFrom c next (gone_on tables v next c)
    gone_came v Reading = read_came v.number (write_at v.writes v.at)
    gone_came v (Taking f) =
        either_way (CameFrom c (Taking f)) (is_just f.read (get c (flight_key tables f)))
        (written_content (flight_key tables f) (Some (held_value v.number v.at f.read)) c, On (Flying f (checking tables f (flight_checks tables f)))) (c, On (Looking f))
        (λ _ _. inr (inr (refl, sym (checking_left f (flight_checks tables f))))) (λ _. tt)
    gone_came v (Looking f) = tt
    gone_came v (Flying f stage) = flown_came v.number v.at f stage c

    then_came : (v : View) (d : Content) (t : Then) (f : Flight) (stage : Stage) → CameThen c v.next t → (after_call v (d, t)).view.next ≡ Flying f stage → is_refused stage ≡ false
        → (v.next ≡ Flying f stage) ⊎ Came c v.next f stage
    then_came v d (On next) f stage came is going = inr (subst (CameNext c v.next) is came going)
    then_came v d (Puts next) f stage came is going = inr (subst (CameNext c v.next) is came going)
    then_came v d (Ends o) f stage came is going = by (is_fault o) is
      where
        by : (b : Bool) → (cond b (record v { over = Some o }) (record v { at = v.at + 1; next = Reading })).next ≡ Flying f stage → (v.next ≡ Flying f stage) ⊎ Came c v.next f stage
        by true is = inl is
        by false is = let wrong : Reading ≡ Flying f stage = is in absurd (cc)

    step_came : (v : View) (fate : Fate) (f : Flight) (stage : Stage) → (stepped tables v c fate).view.next ≡ Flying f stage → is_refused stage ≡ false
        → (v.next ≡ Flying f stage) ⊎ ((is_over v ≡ false) × (fate ≡ Answers) × Came c v.next f stage)
    step_came v fate f stage =
        by_call tables v c fate (λ (a : After). a.view.next ≡ Flying f stage → is_refused stage ≡ false → (v.next ≡ Flying f stage) ⊎ ((is_over v ≡ false) × (fate ≡ Answers) × Came c v.next f stage))
        (λ _ is _. inl is) (λ going. by fate going)
      where
        by : (fate : Fate) → is_over v ≡ false → (after_call v (call_by tables v c fate)).view.next ≡ Flying f stage → is_refused stage ≡ false
            → (v.next ≡ Flying f stage) ⊎ ((is_over v ≡ false) × (fate ≡ Answers) × Came c v.next f stage)
        by Answers over is going = elim (then_came v (gone_on tables v v.next c).0 (gone_on tables v v.next c).1 f stage (gone_came v v.next) is going) [ inl same ↦ inl same | inr came ↦ inr (over, refl, came) ]
        by NotDone over is going = inl is
        by DoneUnseen over is going = inl is
        by NoMemory over is going = inl is

  -- ---- over every schedule
  module _ (start : Run) where
    later : (done more : List Event) (client number : ℕ) (f : Flight) (test : Test) → WasPassed tables start done client number f test → WasPassed tables start (done ++ more) client number f test
    later done more client number f test w = record {
      front = w.front;
      event = w.event;
      back = w.back ++ more;
      split = ap (λ (es : List Event). es ++ more) w.split ∙ append_assoc w.front (w.event ∷ w.back) more;
      view = w.view;
      own = w.own;
      client_is = w.client_is;
      number_is = w.number_is;
      going = w.going;
      answers = w.answers;
      stage = w.stage;
      flies = w.flies;
      makes = w.makes;
      passed = w.passed;
    }

    all_later : (done more : List Event) (client number : ℕ) (f : Flight) (tests : List Test) → AllByRecursion (WasPassed tables start done client number f) tests → AllByRecursion (WasPassed tables start (done ++ more) client number f) tests
    all_later done more client number f tests all =
        all_map (WasPassed tables start done client number f) (WasPassed tables start (done ++ more) client number f) tests (λ test w. later done more client number f test w) all

    abbrev Tested : List Event → View → Type 0
    Tested done v = (f : Flight) (stage : Stage) → v.next ≡ Flying f stage → is_refused stage ≡ false → TestsBefore tables start done v.number v.at f stage

    more_tested : (done : List Event) (e : Event) (v : View) → Tested done v → Tested (done ++ e ∷ []) v
    more_tested done e v t f stage is going =
        let x = t f stage is going in
        record { before = x.before; all = x.all; passed = all_later done (e ∷ []) v.number v.at f x.before x.passed }

    step_tested : (done : List Event) (e : Event) (v : View) → slice_get (run tables start done).clients e.place ≡ Some v → Tested done v
        → Tested (done ++ e ∷ []) (stepped tables v (run tables start done).content e.fate).view
    step_tested done e v own t f stage is going =
        subst (λ n. TestsBefore tables start (done ++ e ∷ []) n (stepped tables v (run tables start done).content e.fate).view.at f stage) (sym (step_number tables v (run tables start done).content e.fate))
        (subst (λ n. TestsBefore tables start (done ++ e ∷ []) v.number n f stage) (sym (step_same tables v (run tables start done).content e.fate f stage is))
        (elim (step_came (run tables start done).content v e.fate f stage is going) [
          | inl same ↦ more_tested done e v t f stage same going
          | inr moved ↦ by moved.0 moved.1 moved.2
        ]))
      where
        by : is_over v ≡ false → e.fate ≡ Answers → Came (run tables start done).content v.next f stage → TestsBefore tables start (done ++ e ∷ []) v.number v.at f stage
        by over answers (inl (before, from, plain, left)) =
            let x = t f before from plain in
            record { before = x.before; all = x.all ∙ ap (λ (ts : List Test). x.before ++ ts) left; passed = all_later done (e ∷ []) v.number v.at f x.before x.passed }
        by over answers (inr (inl (before, test, from, plain, makes, pass, left))) =
            let x = t f before from plain in
            record {
              before = x.before ++ test ∷ [];
              all = x.all ∙ ap (λ (ts : List Test). x.before ++ ts) left ∙ sym (append_assoc x.before (test ∷ []) (tests_left tables f stage));
              passed = all_snoc (WasPassed tables start (done ++ e ∷ []) v.number v.at f) x.before test (all_later done (e ∷ []) v.number v.at f x.before x.passed) (record {
                front = done;
                event = e;
                back = [];
                split = refl;
                view = v;
                own = own;
                client_is = refl;
                number_is = refl;
                going = over;
                answers = answers;
                stage = before;
                flies = from;
                makes = makes;
                passed = pass;
              });
            }
        by over answers (inr (inr (taking, whole))) = record { before = []; all = whole; passed = tt }

    turn_tested : (done : List Event) (e : Event) (o : Option View) → slice_get (run tables start done).clients e.place ≡ o → AllByRecursion (Tested done) (run tables start done).clients
        → AllByRecursion (Tested (done ++ e ∷ [])) (turned tables (run tables start done) e o).clients
    turn_tested done e o own all = by o own (all_map (Tested done) (Tested (done ++ e ∷ [])) (run tables start done).clients (λ v h. more_tested done e v h) all)
      where
        by : (o : Option View) → slice_get (run tables start done).clients e.place ≡ o → AllByRecursion (Tested (done ++ e ∷ [])) (run tables start done).clients
            → AllByRecursion (Tested (done ++ e ∷ [])) (turned tables (run tables start done) e o).clients
        by None own more = more
        by (Some v) own more =
            set_place (Tested (done ++ e ∷ [])) (run tables start done).clients e.place (stepped tables v (run tables start done).content e.fate).view more
            (step_tested done e v own (at_place (Tested done) (run tables start done).clients e.place v all own))

    along : (es done : List Event) → AllByRecursion (Tested done) (run tables start done).clients → AllByRecursion (Tested (done ++ es)) (run tables start (done ++ es)).clients
    along [] done h = subst (λ (all : List Event). AllByRecursion (Tested all) (run tables start all).clients) (sym (append-nil done)) h
    along (e ∷ es) done h =
        let one = turn_tested done e (slice_get (run tables start done).clients e.place) refl h in
        let next : AllByRecursion (Tested (done ++ e ∷ [])) (run tables start (done ++ e ∷ [])).clients = subst (λ (r : Run). AllByRecursion (Tested (done ++ e ∷ [])) r.clients) (sym (run-snoc tables start done e)) one in
        subst (λ (all : List Event). AllByRecursion (Tested all) (run tables start all).clients) (append_assoc done (e ∷ []) es) (along es (done ++ e ∷ []) next)

    fresh_tested : (vs : List View) → AllByRecursion (IsFresh tables) vs → AllByRecursion (Tested []) vs
    fresh_tested [] all = tt
    fresh_tested (v ∷ vs) all = ((λ f stage is going. let wrong : Reading ≡ Flying f stage = sym (ap (λ (v : View). v.next) all.0.fresh) ∙ is in absurd (cc)), fresh_tested vs all.1)

    pub tests_in_order : AllByRecursion (IsFresh tables) start.clients → (events : List Event) → TestsInOrder tables start events
    tests_in_order fresh events p v f stage here is going = at_place (Tested events) (run tables start events).clients p v (along events [] (fresh_tested start.clients fresh)) here f stage is going
