-- The refusal of a test is told only of a write of which a call showed it, in every schedule.
use Rattle.std.proofs.Common.{◌≡◌, ℕ, ◌+◌, Bool, true, false, cond, inl, inr, List, [], ◌∷◌, ◌++◌, Option, Some, None, refl, sym, ap, ◌∙◌, subst, append_assoc}
use Rattle.std.specs.List.{AllByRecursion, slice_get}
use Rattle.std.proofs.lemmas.Bool.{false≢true}
use Rattle.std.proofs.lemmas.List.{append-nil}
use Rattle.pq_base.specs.Members.{In}
use Rattle.pq_base.specs.declared.refusal.Refusal.{Refusal}
use Rattle.pq_base.specs.declared.refusal.Refusal.TheVariants as refusal
use Rattle.pq_schema.specs.declared.table.Table.{Table}
use Rattle.pq_store.specs.Content.{Content}
use Rattle.pq_clients.specs.declared.outcome.Outcome.{Outcome}
use Rattle.pq_clients.specs.declared.outcome.Outcome.TheVariants as outcome
use Rattle.pq_clients.specs.declared.outcome.Step.{Step}
use Rattle.pq_clients.specs.declared.outcome.Step.TheVariants as step
use Rattle.pq_clients.specs.declared.outcome.Told.{Told}
use Rattle.pq_clients.specs.Flights.{Flight}
use Rattle.pq_clients.specs.Clients.{Stage, Releasing, Next, Reading, Flying, View, is_over}
use Rattle.pq_clients.specs.Steps.{Then, On, Puts, Ends, gone_on, is_fault, after_call, told_view, Fate, Answers, NotDone, DoneUnseen, NoMemory, met, stepped}
use Rattle.pq_clients.specs.Runs.{Event, Run, told_by, turned, turn, run}
use Rattle.pq_clients.specs.Promises.{IsFresh, HasReason, TellsOutcome, WillTell, is_of_test, ShowsRefusal}
use Rattle.pq_clients.proofs.Causes.{turns_shown}
use Rattle.pq_clients.proofs.Listed.{in_all, TellFacts, step_tells}
use Rattle.pq_clients.proofs.Once.{step_number, all_map, all_snoc, all_nil}
use Rattle.pq_clients.proofs.Whole.{at_place, set_place}

module _ (tables : List Table) where
  pub run-snoc : (r : Run) (es : List Event) (e : Event) → run tables r (es ++ e ∷ []) ≡ turn tables (run tables r es) e
  run-snoc r [] e = refl
  run-snoc r (x ∷ es) e = run-snoc (turn tables r x) es e

  -- ---- a step that flies on is of the same write

  told_same : (v : View) (o : Outcome) (f : Flight) (stage : Stage) → (told_view v o).next ≡ Flying f stage → (told_view v o).at ≡ v.at
  told_same v o f stage = by (is_fault o)
    where
      by : (b : Bool) → (cond b (record v { over = Some o }) (record v { at = v.at + 1; next = Reading })).next ≡ Flying f stage → (cond b (record v { over = Some o }) (record v { at = v.at + 1; next = Reading })).at ≡ v.at
      by true e = refl
      by false e = let wrong : Reading ≡ Flying f stage = e in absurd (cc)

  call_same : (v : View) (c : Content) (t : Then) (f : Flight) (stage : Stage) → (after_call v (c, t)).view.next ≡ Flying f stage → (after_call v (c, t)).view.at ≡ v.at
  call_same v c (On next) f stage e = refl
  call_same v c (Puts next) f stage e = refl
  call_same v c (Ends o) f stage e = told_same v o f stage e

  met_same : (v : View) (c : Content) (fate : Fate) (f : Flight) (stage : Stage) → (met tables v c fate).view.next ≡ Flying f stage → (met tables v c fate).view.at ≡ v.at
  met_same v c Answers = call_same v (gone_on tables v v.next c).0 (gone_on tables v v.next c).1
  met_same v c NotDone = told_same v outcome.Failed
  met_same v c DoneUnseen = told_same v outcome.Failed
  met_same v c NoMemory = told_same v outcome.NoMem

  pub step_same : (v : View) (c : Content) (fate : Fate) (f : Flight) (stage : Stage) → (stepped tables v c fate).view.next ≡ Flying f stage → (stepped tables v c fate).view.at ≡ v.at
  step_same v c fate f stage = by (is_over v)
    where
      by : (b : Bool) → (cond b (record { content = c; view = v; step = step.Over }) (met tables v c fate)).view.next ≡ Flying f stage → (cond b (record { content = c; view = v; step = step.Over }) (met tables v c fate)).view.at ≡ v.at
      by true e = refl
      by false e = met_same v c fate f stage e

  -- ---- what was shown so far

  -- at some moment a call of the client's write with this number answers, and shows the refusal
  pub record WasShown (start : Run) (events : List Event) (client number : ℕ) (why : Refusal) : Type 0 where
    pub front : List Event
    pub event : Event
    pub back : List Event
    pub split : events ≡ front ++ event ∷ back
    pub view : View
    pub own : slice_get (run tables start front).clients event.place ≡ Some view
    pub client_is : view.number ≡ client
    pub number_is : view.at ≡ number
    pub going : is_over view ≡ false
    pub answers : event.fate ≡ Answers
    pub flight : Flight
    pub stage : Stage
    pub flies : view.next ≡ Flying flight stage
    pub shows : ShowsRefusal tables (run tables start front).content flight stage why

  module _ (start : Run) where
    later : (done more : List Event) (client number : ℕ) (why : Refusal) → WasShown start done client number why → WasShown start (done ++ more) client number why
    later done more client number why w = record {
      front = w.front;
      event = w.event;
      back = w.back ++ more;
      split = ap (λ (es : List Event). es ++ more) w.split ∙ append_assoc w.front (w.event ∷ w.back) more;
      view = w.view;
      own = w.own;
      client_is = w.client_is;
      number_is = w.number_is;
      going = w.going;
      answers = w.answers;
      flight = w.flight;
      stage = w.stage;
      flies = w.flies;
      shows = w.shows;
    }

    -- what a client is on its way to tell was shown
    abbrev pub ShownNext : List Event → View → Type 0
    ShownNext done v = (f : Flight) (stage : Stage) (why : Refusal) → v.next ≡ Flying f stage → WillTell stage why → WasShown start done v.number v.at why

    -- and so was what was told
    abbrev pub ShownTold : List Event → Told → Type 0
    ShownTold done told = (why : Refusal) → is_of_test why ≡ true → told.outcome ≡ outcome.Refused why → WasShown start done told.client told.number why

    pub record ShownSoFar (done : List Event) (r : Run) : Type 0 where
      pub next : AllByRecursion (ShownNext done) r.clients
      pub told : AllByRecursion (ShownTold done) r.told

    -- each refusal of a test is told by a client that was on its way to tell it
    abbrev pub TellsReleased : Run → Event → Type 0
    TellsReleased r e = (v : View) (why : Refusal) → slice_get r.clients e.place ≡ Some v → is_of_test why ≡ true → TellsOutcome tables v r.content e.fate (outcome.Refused why)
        → (f : Flight) × (v.next ≡ Flying f (Releasing why))

    step_next : (done : List Event) (e : Event) (v : View) → slice_get (run tables start done).clients e.place ≡ Some v → ShownNext done v
        → ShownNext (done ++ e ∷ []) (stepped tables v (run tables start done).content e.fate).view
    step_next done e v own shown f stage why flying tell =
        let c = (run tables start done).content in
        let behind = (stepped tables v c e.fate).view in
        let t = turns_shown tables v c e.fate f stage why flying tell in
        let here : WasShown start (done ++ e ∷ []) v.number v.at why = elim t.2 [
          | inl before ↦ later done (e ∷ []) v.number v.at why (shown f t.0 why t.1 before)
          | inr shows ↦ record {
            front = done;
            event = e;
            back = [];
            split = refl;
            view = v;
            own = own;
            client_is = refl;
            number_is = refl;
            going = shows.0;
            answers = shows.1;
            flight = f;
            stage = t.0;
            flies = t.1;
            shows = shows.2;
          }
        ] in
        subst (λ n. WasShown start (done ++ e ∷ []) n behind.at why) (sym (step_number tables v c e.fate))
        (subst (λ n. WasShown start (done ++ e ∷ []) v.number n why) (sym (step_same v c e.fate f stage flying)) here)

    told_now : (done : List Event) (e : Event) (v : View) (all : List Told) (s : Step) → (stepped tables v (run tables start done).content e.fate).step ≡ s
        → slice_get (run tables start done).clients e.place ≡ Some v → ShownNext done v → TellsReleased (run tables start done) e
        → AllByRecursion (ShownTold (done ++ e ∷ [])) all → AllByRecursion (ShownTold (done ++ e ∷ [])) (all ++ told_by s)
    told_now done e v all step.Moved is own shown released old = all_nil (ShownTold (done ++ e ∷ [])) all old
    told_now done e v all (step.Put wrote) is own shown released old = all_nil (ShownTold (done ++ e ∷ [])) all old
    told_now done e v all (step.Tells told) is own shown released old = all_snoc (ShownTold (done ++ e ∷ [])) all told old one
      where
        facts : (told.client ≡ v.number) × (told.number ≡ v.at)
        facts = subst (λ (s : Step). TellFacts tables s v) is (step_tells tables v (run tables start done).content e.fate)

        told_is : (why : Refusal) → told.outcome ≡ outcome.Refused why → told ≡ record { client = v.number; number = v.at; outcome = outcome.Refused why }
        told_is why refused =
            ap (λ n. record { client = n; number = told.number; outcome = told.outcome }) facts.0
            ∙ ap (λ n. record { client = v.number; number = n; outcome = told.outcome }) facts.1
            ∙ ap (λ (o : Outcome). record { client = v.number; number = v.at; outcome = o }) refused

        one : ShownTold (done ++ e ∷ []) told
        one why test refused =
            let tells : TellsOutcome tables v (run tables start done).content e.fate (outcome.Refused why) = is ∙ ap (λ (told : Told). step.Tells told) (told_is why refused) in
            let at = released v why own test tells in
            subst (λ n. WasShown start (done ++ e ∷ []) n told.number why) (sym facts.0)
            (subst (λ n. WasShown start (done ++ e ∷ []) v.number n why) (sym facts.1)
            (later done (e ∷ []) v.number v.at why (shown at.0 (Releasing why) why at.1 refl)))
    told_now done e v all step.Over is own shown released old = all_nil (ShownTold (done ++ e ∷ [])) all old

    more_next : (done : List Event) (e : Event) (vs : List View) → AllByRecursion (ShownNext done) vs → AllByRecursion (ShownNext (done ++ e ∷ [])) vs
    more_next done e vs all = all_map (ShownNext done) (ShownNext (done ++ e ∷ [])) vs (λ v h f stage why is tell. later done (e ∷ []) v.number v.at why (h f stage why is tell)) all

    more_told : (done : List Event) (e : Event) (all : List Told) → AllByRecursion (ShownTold done) all → AllByRecursion (ShownTold (done ++ e ∷ [])) all
    more_told done e all h = all_map (ShownTold done) (ShownTold (done ++ e ∷ [])) all (λ told h why test is. later done (e ∷ []) told.client told.number why (h why test is)) h

    turn_shown : (done : List Event) (e : Event) (o : Option View) → slice_get (run tables start done).clients e.place ≡ o → TellsReleased (run tables start done) e
        → ShownSoFar done (run tables start done) → ShownSoFar (done ++ e ∷ []) (turned tables (run tables start done) e o)
    turn_shown done e None own released h = record { next = more_next done e (run tables start done).clients h.next; told = more_told done e (run tables start done).told h.told }
    turn_shown done e (Some v) own released h =
        let r = run tables start done in
        let a = stepped tables v r.content e.fate in
        let shown = at_place (ShownNext done) r.clients e.place v h.next own in
        record {
          next = set_place (ShownNext (done ++ e ∷ [])) r.clients e.place a.view (more_next done e r.clients h.next) (step_next done e v own shown);
          told = told_now done e v r.told a.step refl own shown released (more_told done e r.told h.told);
        }

    along : ((done : List Event) (e : Event) → TellsReleased (run tables start done) e) → (es done : List Event) → ShownSoFar done (run tables start done) → ShownSoFar (done ++ es) (run tables start (done ++ es))
    along released [] done h = subst (λ (all : List Event). ShownSoFar all (run tables start all)) (sym (append-nil done)) h
    along released (e ∷ es) done h =
        let one = turn_shown done e (slice_get (run tables start done).clients e.place) refl (released done e) h in
        let next : ShownSoFar (done ++ e ∷ []) (run tables start (done ++ e ∷ [])) = subst (λ (r : Run). ShownSoFar (done ++ e ∷ []) r) (sym (run-snoc start done e)) one in
        subst (λ (all : List Event). ShownSoFar all (run tables start all)) (append_assoc done (e ∷ []) es) (along released es (done ++ e ∷ []) next)

    pub tells_shown : ((done : List Event) (e : Event) → TellsReleased (run tables start done) e) → ShownSoFar [] start → (events : List Event) (client number : ℕ) (why : Refusal) → is_of_test why ≡ true
        → In (record { client = client; number = number; outcome = outcome.Refused why }) (run tables start events).told → WasShown start events client number why
    tells_shown released h events client number why test told =
        in_all tables (ShownTold events) (record { client = client; number = number; outcome = outcome.Refused why }) (run tables start events).told (along released events [] h).told told why test refl

  fresh_shown : (start : Run) (next : Next) (at client : ℕ) → next ≡ Reading → (f : Flight) (stage : Stage) (why : Refusal) → next ≡ Flying f stage → WillTell stage why → WasShown start [] client at why
  fresh_shown start next at client reading f stage why flying tell = let wrong : Reading ≡ Flying f stage = sym reading ∙ flying in absurd (cc)

  -- nothing is on its way and nothing was told before the first step
  pub none_shown : (start : Run) (vs : List View) → AllByRecursion (IsFresh tables) vs → AllByRecursion (ShownNext start []) vs
  none_shown start [] all = tt
  none_shown start (v ∷ vs) all = (fresh_shown start v.next v.at v.number (ap (λ (v : View). v.next) all.0.fresh), none_shown start vs all.1)

  -- what is told of a test is told by a release
  pub released_of : (v : View) (c : Content) (why : Refusal) → is_of_test why ≡ true → HasReason tables v c (outcome.Refused why) → (f : Flight) × (v.next ≡ Flying f (Releasing why))
  released_of v c (refusal.NoParent name place) test h = h
  released_of v c (refusal.Referenced name place) test h = h
  released_of v c (refusal.Cardinality name place n) test h = h
  released_of v c why test h = absurd (false≢true test)
