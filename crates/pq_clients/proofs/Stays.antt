-- From its take on a client holds its key, also where it ended, and a write that comes to its put finds present what it read.
use Rattle.std.proofs.Common.{◌≡◌, ℕ, ◌+◌, Bool, true, false, cond, not, ◌⊎◌, inl, inr, List, [], ◌∷◌, Option, Some, None, is_some, refl, sym, ap, ◌∙◌, subst}
use Rattle.std.specs.Prelude.{slice_set, option_and_then}
use Rattle.std.specs.List.{AllByRecursion, slice_get}
use Rattle.std.specs.FinMap.{get}
use Rattle.std.proofs.lemmas.Bool.{false≢true}
use Rattle.pq_schema.specs.declared.table.Table.{Table}
use Rattle.pq_content.specs.Pairs.{Pair, content_pairs}
use Rattle.pq_content.specs.Tables.{Rows, row_at}
use Rattle.pq_content.proofs.Keys.{key_itself}
use Rattle.pq_store.specs.Content.{Content, written_content}
use Rattle.pq_index_keep.specs.Sound.{AreWritable}
use Rattle.pq_index_keep.proofs.Inserting.{each_by}
use Rattle.pq_clients.specs.declared.outcome.Outcome.{Outcome}
use Rattle.pq_clients.specs.declared.outcome.Outcome.TheVariants as outcome
use Rattle.pq_clients.specs.declared.outcome.Step.TheVariants as step
use Rattle.pq_clients.specs.Held.{present_in, present_code, decoded_row, held_value}
use Rattle.pq_clients.specs.Flights.{Flight, pair_key, table_number, key_written, flight_table, flight_key, old_row, new_code, stale_entries}
use Rattle.pq_clients.specs.Clients.{Stage, Checking, Adding, Testing, Putting, Clearing, Freeing, Undoing, Releasing, Next, Reading, Flying, View, is_freeing, write_at, is_over}
use Rattle.pq_clients.specs.Steps.{Then, On, Puts, Ends, clearing, damaged, flown, gone_on, is_fault, after_call, tells, Fate, Answers, NotDone, DoneUnseen, NoMemory, met, stepped}
use Rattle.pq_clients.specs.Runs.{Event, Run, begun, turned, turn, run}
use Rattle.pq_clients.specs.Present.{present_rows}
use Rattle.pq_clients.specs.Promises.{IsFresh, Begins, TellsOutcome, reached, FitsFound}
use Rattle.pq_clients.specs.Invariant.{present_of, may_show, code_row, is_key, MayStandAt, Stance, Good, stance_of, FlightFits, StageFits, NextFits, ViewFits, IsShaped}
use Rattle.pq_clients.proofs.AtKeys.{present_row_at}
use Rattle.pq_clients.proofs.Basics.{get_here, or_first}
use Rattle.pq_clients.proofs.Begin.{begins_holding}
use Rattle.pq_clients.proofs.Cells.{held_cell}
use Rattle.pq_clients.proofs.Coded.{key_space, names_code, old_is, row_of_code}
use Rattle.pq_clients.proofs.Effects.{own_kinds}
use Rattle.pq_clients.proofs.Failures.{failure_told}
use Rattle.pq_clients.proofs.Leads.{OfNext, Matches}
use Rattle.pq_clients.proofs.Ofs.{OfView, run_of, fresh_of}
use Rattle.pq_clients.proofs.Others.{entry_apart}
use Rattle.pq_clients.proofs.Puts.{own_value, own_just}
use Rattle.pq_clients.proofs.Reasons.{TellsTests, fresh_tests, step_tests, reason_told}
use Rattle.pq_clients.proofs.CallSteps.{few_at}
use Rattle.pq_clients.proofs.Throughout.{holding}
use Rattle.pq_clients.proofs.Turns.{unbroken_of}
use Rattle.pq_clients.proofs.Whole.{stances_of, own_stance, at_place, set_place, are_passed, Holding, turn_holds}
use Rattle.pq_clients.proofs.Written.{all_by_place, present_stands, met_same}

-- a row is found by a read just where there is a code
pub old_some : (tables : List Table) (sound : AreWritable tables) (f : Flight) → FlightFits tables f → is_some (old_row tables f) ≡ is_some f.read
unfolding old_row
old_some tables sound f fits = by f.read refl fits.read
  where
    by : (q : Option (List ℕ)) → f.read ≡ q → MayStandAt tables (flight_key tables f) q → is_some (old_row tables f) ≡ is_some f.read
    by None e stands = ap (λ (q : Option (List ℕ)). is_some (option_and_then (decoded_row (flight_table tables f)) q)) e ∙ sym (ap is_some e)
    by (Some code) e stands = ap is_some (sym (old_is tables f) ∙ ap (code_row tables (flight_key tables f)) e ∙ (row_of_code tables sound (flight_key tables f) code stands).1) ∙ sym (ap is_some e)

-- what was read is what the write asks for
pub found_of : (tables : List Table) (sound : AreWritable tables) (f : Flight) → FlightFits tables f → Matches tables f → FitsFound tables f.write (old_row tables f)
found_of tables sound f fits of = (of ∙ ap not (sym (old_some tables sound f fits)), fits.granted)

module _ (tables : List Table) (sound : AreWritable tables) (others : List ℕ → Option (List ℕ)) where
  -- the key is held, with the row of the step present, or the one that may be
  pub record HeldAs (c : Content) (v : View) (f : Flight) (stage : Stage) : Type 0 where
    pub present : Option (List ℕ)
    pub stands : MayStandAt tables (flight_key tables f) present
    pub there : get c (flight_key tables f) ≡ Some (held_value v.number v.at present)
    pub row_is : (present ≡ present_of tables f stage) ⊎ (present ≡ may_show tables f stage)

  -- a client that ended holds its key still, but for a free that failed
  abbrev pub Stays : Content → View → Type 0
  Stays c v = (f : Flight) (stage : Stage) (o : Outcome) → v.over ≡ Some o → v.next ≡ Flying f stage → (o ≡ outcome.NoMem) ⊎ (is_freeing stage ≡ false) → HeldAs c v f stage

  module _ (c : Content) (stances : ℕ → Stance) (shape : IsShaped tables c others) (g : Good tables c stances) (v : View) (h : ViewFits tables v) (unbroken : v.over ≡ None) (is : stances v.number ≡ stance_of tables v) where
    module _ (f : Flight) (stage : Stage) (flying : v.next ≡ Flying f stage) where
      fits : FlightFits tables f × (write_at v.writes v.at ≡ Some f.write) × StageFits tables f stage
      fits = subst (λ (n : Next). NextFits tables v n) flying h.next

      pub held_now : HeldAs c v f stage
      held_now = record {
        present = present_of tables f stage;
        stands = present_stands tables sound f fits.0 stage;
        there = own_value tables sound c stances g v h unbroken is f stage flying;
        row_is = inl refl;
      }

      -- the step leaves the key as it is
      as_it_is : (d : Content) → get d (flight_key tables f) ≡ get c (flight_key tables f) → HeldAs d v f stage
      as_it_is d same = record {
        present = held_now.present;
        stands = held_now.stands;
        there = same ∙ held_now.there;
        row_is = held_now.row_is;
      }

    -- a call that is done and fails at a step that doesn't free the key
    held_unseen : (f : Flight) (stage : Stage) → v.next ≡ Flying f stage → is_freeing stage ≡ false → HeldAs (flown tables v.number v.at f stage c).0 v f stage
    held_unseen f (Checking check left) flying free = held_now f (Checking check left) flying
    held_unseen f (Adding entry left added) flying free =
        let x = fits f (Adding entry left added) flying in
        as_it_is f (Adding entry left added) flying (written_content entry (Some []) c)
        (entry_apart tables sound c entry (Some []) (flight_key tables f) (flight_key tables f) (names_code tables sound (flight_key tables f) (new_code tables f) entry x.0.new ((x.2 entry).2 (or_first (is_key entry entry) _ (key_itself entry)))) (key_space tables f.write))
    held_unseen f (Testing place left passed) flying free = held_now f (Testing place left passed) flying
    held_unseen f Putting flying free =
        let x = fits f Putting flying in
        record {
          present = new_code tables f;
          stands = x.0.new;
          there = ap (λ b. get (cond {A = Content × Then} b (written_content (flight_key tables f) (Some (held_value v.number v.at (new_code tables f))) c, Puts (Flying f (clearing (stale_entries tables f)))) (c, damaged (flight_key tables f) None)).0 (flight_key tables f)) (own_just tables sound c stances g v h unbroken is f Putting flying f.read refl)
              ∙ get_here (flight_key tables f) (Some (held_value v.number v.at (new_code tables f))) c;
          row_is = inr refl;
        }
    held_unseen f (Clearing entry left) flying free =
        let x = fits f (Clearing entry left) flying in
        as_it_is f (Clearing entry left) flying (written_content entry None c)
        (entry_apart tables sound c entry None (flight_key tables f) (flight_key tables f) (names_code tables sound (flight_key tables f) f.read entry x.0.read (x.2.0 entry (or_first (is_key entry entry) _ (key_itself entry))).1) (key_space tables f.write))
    held_unseen f Freeing flying free = absurd (false≢true (sym free))
    held_unseen f (Undoing entry left why) flying free =
        let x = fits f (Undoing entry left why) flying in
        as_it_is f (Undoing entry left why) flying (written_content entry None c)
        (entry_apart tables sound c entry None (flight_key tables f) (flight_key tables f) (names_code tables sound (flight_key tables f) (new_code tables f) entry x.0.new (x.2.0 entry (or_first (is_key entry entry) _ (key_itself entry))).1) (key_space tables f.write))
    held_unseen f (Releasing why) flying free = absurd (false≢true (sym free))

    -- a step of the client itself
    ends_fault : (t : Content × Then) (o : Outcome) → (after_call v t).view.over ≡ Some o → ((after_call v t).step ≡ tells v o) × (is_fault o ≡ true)
    ends_fault (d, On next) o e = let wrong : ◌≡◌ {A = Option Outcome} None (Some o) = sym unbroken ∙ e in absurd (cc)
    ends_fault (d, Puts next) o e = let wrong : ◌≡◌ {A = Option Outcome} None (Some o) = sym unbroken ∙ e in absurd (cc)
    ends_fault (d, Ends p) o e = by (is_fault p) refl e
      where
        by : (b : Bool) → is_fault p ≡ b → (cond b (record v { over = Some p }) (record v { at = v.at + 1; next = Reading })).over ≡ Some o → (tells v p ≡ tells v o) × (is_fault o ≡ true)
        by true fault e = let same : p ≡ o = cc in (ap (tells v) same, ap is_fault (sym same) ∙ fault)
        by false fine e = let wrong : ◌≡◌ {A = Option Outcome} None (Some o) = sym unbroken ∙ e in absurd (cc)

    own_stays : is_over v ≡ false → ((o : Outcome) → is_fault o ≡ true → TellsOutcome tables v c Answers o → ⊥) → (fate : Fate) → Stays (met tables v c fate).content (met tables v c fate).view
    own_stays going never Answers f stage o over flying kept =
        let e = ends_fault (gone_on tables v v.next c) o over in
        absurd (never o e.1 (ap (λ b. (cond b (record { content = c; view = v; step = step.Over }) (met tables v c Answers)).step) going ∙ e.0))
    own_stays going never NotDone f stage o over flying kept = again (held_now f stage flying)
      where
        again : HeldAs c v f stage → HeldAs c (record v { over = Some outcome.Failed }) f stage
        again x = record { present = x.present; stands = x.stands; there = x.there; row_is = x.row_is }
    own_stays going never DoneUnseen f stage o over flying (inl memory) = let wrong : outcome.Failed ≡ outcome.NoMem = failed o over ∙ memory in absurd (cc)
      where
        failed : (o : Outcome) → ◌≡◌ {A = Option Outcome} (Some outcome.Failed) (Some o) → outcome.Failed ≡ o
        failed o e = cc
    own_stays going never DoneUnseen f stage o over flying (inr free) = again (held_unseen f stage flying free)
      where
        again : HeldAs (flown tables v.number v.at f stage c).0 v f stage → HeldAs (gone_on tables v v.next c).0 (record v { over = Some outcome.Failed }) f stage
        again x = record { present = x.present; stands = x.stands; there = ap (λ (n : Next). get (gone_on tables v n c).0 (flight_key tables f)) flying ∙ x.there; row_is = x.row_is }
    own_stays going never NoMemory f stage o over flying kept = again (held_now f stage flying)
      where
        again : HeldAs c v f stage → HeldAs c (record v { over = Some outcome.NoMem }) f stage
        again x = record { present = x.present; stands = x.stands; there = x.there; row_is = x.row_is }

    -- another client's step
    other_stays : (u : View) → ViewFits tables u → stances u.number ≡ stance_of tables u → Stays c u → (fate : Fate) → Stays (met tables v c fate).content u
    other_stays u hu us old fate f stage o over flying kept =
        let x = old f stage o over flying kept in
        record {
          present = x.present;
          stands = x.stands;
          there = met_same tables sound c others shape stances g v h unbroken is u hu us o f stage over flying x.present x.stands x.there fate ∙ x.there;
          row_is = x.row_is;
        }

  -- ---- every schedule

  pub record StaysRun (r : Run) : Type 0 where
    pub stays : AllByRecursion (Stays r.content) r.clients
    pub tests : AllByRecursion (λ (v : View). TellsTests v.next) r.clients

  module _ (r : Run) (h : Holding tables sound others r) (s : StaysRun r) (p : ℕ) (v : View) (is : slice_get r.clients p ≡ Some v) where
    view : ViewFits tables v
    view = at_place (ViewFits tables) r.clients p v h.views is

    stance : stances_of tables r.clients v.number ≡ stance_of tables v
    stance = own_stance tables r.clients p v h.differ is

    own_tests : TellsTests v.next
    own_tests = at_place (λ (v : View). TellsTests v.next) r.clients p v s.tests is

    -- no call that answers ends its client by a fault
    never : (o : Outcome) → is_fault o ≡ true → TellsOutcome tables v r.content Answers o → ⊥
    never outcome.Done fault tells = false≢true fault
    never (outcome.Refused why) fault tells = false≢true fault
    never (outcome.Busy found) fault tells = false≢true fault
    never (outcome.Conflict read found) fault tells = false≢true fault
    never outcome.Failed fault tells = wrong (failure_told tables v r.content Answers outcome.Failed tells)
      where
        wrong : (Answers ≡ NotDone) ⊎ (Answers ≡ DoneUnseen) → ⊥
        wrong (inl e) = cc
        wrong (inr e) = cc
    never outcome.NoMem fault tells = let wrong : Answers ≡ NoMemory = failure_told tables v r.content Answers outcome.NoMem tells in cc
    never (outcome.Damaged damage) fault tells = reason_told tables sound others r.content (stances_of tables r.clients) h.shaped h.good (are_passed tables r.clients h.views) v view stance own_tests Answers (outcome.Damaged damage) tells

    each_stays : is_over v ≡ false → (fate : Fate) → AllByRecursion (Stays (met tables v r.content fate).content) (slice_set r.clients p (met tables v r.content fate).view)
    each_stays going fate =
        let unbroken = unbroken_of tables sound others v going in
        set_place (Stays (met tables v r.content fate).content) r.clients p (met tables v r.content fate).view
        (all_by_place (Stays (met tables v r.content fate).content) r.clients
        (λ q u place. other_stays r.content (stances_of tables r.clients) h.shaped h.good v view unbroken stance u (at_place (ViewFits tables) r.clients q u h.views place) (own_stance tables r.clients q u h.differ place) (at_place (Stays r.content) r.clients q u s.stays place) fate))
        (own_stays r.content (stances_of tables r.clients) h.shaped h.good v view unbroken stance going never fate)

    after_stays : (fate : Fate) → AllByRecursion (Stays (stepped tables v r.content fate).content) (slice_set r.clients p (stepped tables v r.content fate).view)
    after_stays fate = by (is_over v) refl
      where
        by : (b : Bool) → is_over v ≡ b → AllByRecursion (Stays (cond b (record { content = r.content; view = v; step = step.Over }) (met tables v r.content fate)).content) (slice_set r.clients p (cond b (record { content = r.content; view = v; step = step.Over }) (met tables v r.content fate)).view)
        by true over = set_place (Stays r.content) r.clients p v s.stays (at_place (Stays r.content) r.clients p v s.stays is)
        by false going = each_stays going fate

  turn_stays : (r : Run) (e : Event) (o : Option View) → slice_get r.clients e.place ≡ o → Holding tables sound others r → StaysRun r → StaysRun (turned tables r e o)
  turn_stays r e None is h s = s
  turn_stays r e (Some v) is h s = record {
    stays = after_stays r h s e.place v is e.fate;
    tests = set_place (λ (v : View). TellsTests v.next) r.clients e.place (stepped tables v r.content e.fate).view s.tests (step_tests tables v r.content e.fate (own_tests r h s e.place v is));
  }

  pub run_stays : (es : List Event) (r : Run) → Holding tables sound others r → StaysRun r → StaysRun (run tables r es)
  run_stays [] r h s = s
  run_stays (e ∷ es) r h s = run_stays es (turn tables r e) (turn_holds tables sound others r e h) (turn_stays r e (slice_get r.clients e.place) refl h s)

-- ---- from the beginning
module _ (tables : List Table) (rows : Rows) (pairs : List Pair) (clients : List View) (b : Begins tables rows pairs clients) where
  abbrev c0 : Content
  c0 = content_pairs tables rows pairs

  fresh_stays : (vs : List View) → AllByRecursion (IsFresh tables) vs → AllByRecursion (Stays tables b.sound (get c0) c0) vs
  fresh_stays [] all = tt
  fresh_stays (v ∷ vs) all = (λ f stage o over flying kept. let wrong : Reading ≡ Flying f stage = sym (ap (λ (v : View). v.next) all.0.fresh) ∙ flying in absurd (cc), fresh_stays vs all.1)

  module _ (events : List Event) where
    abbrev r : Run
    r = reached tables rows pairs clients events

    kept : StaysRun tables b.sound (get c0) r
    kept =
        let fresh = each_by (IsFresh tables) clients b.fresh.each in
        run_stays tables b.sound (get c0) events (begun c0 clients) (begins_holding tables rows pairs clients b) (record { stays = fresh_stays clients fresh; tests = fresh_tests tables clients fresh })

    h : Holding tables b.sound (get c0) r
    h = holding tables rows pairs clients b events

    -- from its take on a client holds its key, also where it ended, but for a free that failed
    pub held_still : (p : ℕ) (v : View) (f : Flight) (stage : Stage) → slice_get r.clients p ≡ Some v → v.next ≡ Flying f stage
        → (v.over ≡ None) ⊎ (v.over ≡ Some outcome.NoMem) ⊎ (is_freeing stage ≡ false)
        → (present : Option (List ℕ)) × (get r.content (flight_key tables f) ≡ Some (held_value v.number v.at present))
        × ((present ≡ present_of tables f stage) ⊎ ((is_some v.over ≡ true) × (present ≡ may_show tables f stage)))
    held_still p v f stage here flying kept_by = by v.over refl kept_by
      where
        going : v.over ≡ None → (present : Option (List ℕ)) × (get r.content (flight_key tables f) ≡ Some (held_value v.number v.at present)) × ((present ≡ present_of tables f stage) ⊎ ((is_some v.over ≡ true) × (present ≡ may_show tables f stage)))
        going unbroken = (present_of tables f stage, own_value tables b.sound r.content (stances_of tables r.clients) h.good v (at_place (ViewFits tables) r.clients p v h.views here) unbroken (own_stance tables r.clients p v h.differ here) f stage flying, inl refl)

        ended : (o : Outcome) → v.over ≡ Some o → (o ≡ outcome.NoMem) ⊎ (is_freeing stage ≡ false) → (present : Option (List ℕ)) × (get r.content (flight_key tables f) ≡ Some (held_value v.number v.at present)) × ((present ≡ present_of tables f stage) ⊎ ((is_some v.over ≡ true) × (present ≡ may_show tables f stage)))
        ended o over free =
            let x = at_place (Stays tables b.sound (get c0) r.content) r.clients p v kept.stays here f stage o over flying free in
            (x.present, x.there, elim x.row_is [ inl old ↦ inl old | inr new ↦ inr (ap is_some over, new) ])

        by : (o : Option Outcome) → v.over ≡ o → (o ≡ None) ⊎ (o ≡ Some outcome.NoMem) ⊎ (is_freeing stage ≡ false) → (present : Option (List ℕ)) × (get r.content (flight_key tables f) ≡ Some (held_value v.number v.at present)) × ((present ≡ present_of tables f stage) ⊎ ((is_some v.over ≡ true) × (present ≡ may_show tables f stage)))
        by None over k = going over
        by (Some o) over (inl wrong) = absurd (cc)
        by (Some o) over (inr (inl memory)) = let same : o ≡ outcome.NoMem = cc in ended o over (inl same)
        by (Some o) over (inr (inr free)) = ended o over (inr free)

    -- a write that comes to its put finds present what it read
    pub finds_present : (p : ℕ) (v : View) (f : Flight) → slice_get r.clients p ≡ Some v → v.over ≡ None → v.next ≡ Flying f Putting
        → (row_at tables (present_rows tables r.content) (table_number f.write) (key_written tables f.write) ≡ old_row tables f) × FitsFound tables f.write (old_row tables f)
    unfolding old_row pair_key
    finds_present p v f here unbroken putting = (present_row_at tables b.sound (get c0) r.content h.shaped (table_number f.write) (key_written tables f.write) (own_kinds tables f.write fits.0.write) ∙ ap (option_and_then (decoded_row (flight_table tables f))) code, found_of tables b.sound f fits.0 of.0)
      where
        view : ViewFits tables v
        view = at_place (ViewFits tables) r.clients p v h.views here

        fits : FlightFits tables f × (write_at v.writes v.at ≡ Some f.write) × StageFits tables f Putting
        fits = subst (λ (n : Next). NextFits tables v n) putting view.next

        of : OfNext tables (Flying f Putting)
        of = subst (λ (n : Next). OfNext tables n) putting (at_place (OfView tables) r.clients p v (run_of tables events (begun c0 clients) (fresh_of tables clients (each_by (IsFresh tables) clients b.fresh.each))) here)

        code : present_code (get r.content (flight_key tables f)) ≡ f.read
        code =
            ap present_code (own_value tables b.sound r.content (stances_of tables r.clients) h.good v view unbroken (own_stance tables r.clients p v h.differ here) f Putting putting)
            ∙ ap present_in (held_cell tables (flight_key tables f) v.number v.at f.read view.small (few_at tables b.sound (get c0) v f.write view fits.1) fits.0.read)
