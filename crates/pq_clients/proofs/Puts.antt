-- The present rows change by puts alone.
use Rattle.std.proofs.Common.{◌≡◌, ℕ, true, false, cond, List, [], ◌∷◌, Option, Some, None, refl, sym, ap, ◌∙◌, subst}
use Rattle.std.specs.List.{slice_get}
use Rattle.std.specs.FinMap.{get}
use Rattle.std.proofs.lemmas.Bool.{false≢true}
use Rattle.pq_schema.specs.declared.table.Table.{Table}
use Rattle.pq_content.specs.Pairs.{is_in_space}
use Rattle.pq_content.proofs.Keys.{same_key, key_itself}
use Rattle.pq_store.specs.Content.{Content, written_content}
use Rattle.pq_index_keep.specs.declared.write.Write.{Write}
use Rattle.pq_index_keep.specs.Sound.{AreWritable}
use Rattle.pq_clients.specs.declared.outcome.Outcome.{Outcome}
use Rattle.pq_clients.specs.declared.outcome.Outcome.TheVariants as outcome
use Rattle.pq_clients.specs.declared.outcome.Step.TheVariants as step
use Rattle.pq_clients.specs.Held.{present_in, present_code, held_value}
use Rattle.pq_clients.specs.Flights.{Flight, flight_key, new_code, stale_entries, flight_checks}
use Rattle.pq_clients.specs.Clients.{Stage, Checking, Adding, Testing, Putting, Clearing, Freeing, Undoing, Releasing, Next, Reading, Taking, Looking, Flying, View, write_at, is_over}
use Rattle.pq_clients.specs.Steps.{is_just, Then, On, Puts, Ends, checking, clearing, refused, damaged, if_own, flown, read_on, gone_on, Fate, Answers, NotDone, DoneUnseen, NoMemory, met, stepped}
use Rattle.pq_clients.specs.Runs.{Event, Run, turned, turn, run}
use Rattle.pq_clients.specs.Invariant.{Names, is_key, MayStandAt, Stance, Holds, Owns, Good, present_of, hold_of, stance_at, stance_of, FlightFits, StageFits, NextFits, ViewFits}
use Rattle.pq_clients.proofs.Basics.{at_or_not, get_here, get_apart, space_apart, not_both, or_first}
use Rattle.pq_clients.proofs.Owners.{entry_space}
use Rattle.pq_clients.proofs.Cells.{free_cell, held_cell}
use Rattle.pq_clients.proofs.Coded.{names_code}
use Rattle.pq_clients.proofs.Shaped.{just_this, just_itself}
use Rattle.pq_clients.proofs.CallSteps.{few_at}
use Rattle.pq_clients.proofs.Turns.{call_content, unbroken_of}
use Rattle.pq_clients.proofs.Whole.{stances_of, own_stance, at_place, Holding, turn_holds}

-- a key, and the code of the row that is present there from then on
abbrev pub Change : Type 0
Change = List ℕ × Option (List ℕ)

abbrev pub after_change : Option Change → List ℕ → Option (List ℕ) → Option (List ℕ)
after_change None k p = p
after_change (Some change) k p = cond (is_key k change.0) change.1 p

-- the put of a step whose call is made
abbrev pub put_at : List Table → Next → Option Change
put_at tables (Flying f Putting) = Some (flight_key tables f, new_code tables f)
put_at tables next = None

abbrev pub put_by_fate : List Table → Next → Fate → Option Change
put_by_fate tables next Answers = put_at tables next
put_by_fate tables next NotDone = None
put_by_fate tables next DoneUnseen = put_at tables next
put_by_fate tables next NoMemory = None

abbrev pub put_of : List Table → View → Fate → Option Change
put_of tables v fate = cond (is_over v) None (put_by_fate tables v.next fate)

module _ (tables : List Table) (sound : AreWritable tables) where
  -- the row present at each key is the same but for the change
  abbrev pub Presents : Content → Option Change → Content → Type 0
  Presents c change d = (k : List ℕ) → is_in_space 2 k ≡ true → present_code (get d k) ≡ after_change change k (present_code (get c k))

  same_there : (c : Content) (K : List ℕ) (x : Option (List ℕ)) → present_code x ≡ present_code (get c K) → Presents c None (written_content K x c)
  same_there c K x same k space = at_or_not k K (λ k. present_code (get (written_content K x c) k) ≡ present_code (get c k)) (ap present_code (get_here K x c) ∙ same) (λ ne. ap present_code (get_apart K x c k ne))

  put_there : (c : Content) (K : List ℕ) (x new : Option (List ℕ)) → present_code x ≡ new → Presents c (Some (K, new)) (written_content K x c)
  put_there c K x new is k space =
      elim (is_key k K) as (λ b. is_key k K ≡ b → present_code (get (written_content K x c) k) ≡ cond b new (present_code (get c k))) [
        | true ↦ λ e. ap (λ (k : List ℕ). present_code (get (written_content K x c) k)) (same_key k K e) ∙ ap present_code (get_here K x c) ∙ is
        | false ↦ λ e. ap present_code (get_apart K x c k (λ same. false≢true (sym e ∙ ap (is_key k) (sym same) ∙ key_itself k)))
      ] refl

  entry_elsewhere : (c : Content) (e : List ℕ) (x : Option (List ℕ)) (K : List ℕ) → Names tables K e → Presents c None (written_content e x c)
  entry_elsewhere c e x K names k space = ap present_code (get_apart e x c k (λ same. space_apart 2 k e space (not_both e (entry_space tables K e names)) same))

  code_present : (k : List ℕ) (p : Option (List ℕ)) → MayStandAt tables k p → present_code p ≡ p
  code_present k None stands = refl
  code_present k (Some code) stands = ap present_in (free_cell tables k code sound stands)

  module _ (c : Content) (stances : ℕ → Stance) (g : Good tables c stances) (v : View) (h : ViewFits tables v) (unbroken : v.over ≡ None) (is : stances v.number ≡ stance_of tables v) where
    module _ (f : Flight) (stage : Stage) (next_is : v.next ≡ Flying f stage) where
      pub flight : FlightFits tables f
      flight = (subst (λ (n : Next). NextFits tables v n) next_is h.next).0

      pub stage_fits : StageFits tables f stage
      stage_fits = (subst (λ (n : Next). NextFits tables v n) next_is h.next).2

      held : (p : Option (List ℕ)) → MayStandAt tables (flight_key tables f) p → present_code (Some (held_value v.number v.at p)) ≡ p
      held p stands = ap present_in (held_cell tables (flight_key tables f) v.number v.at p h.small (few_at tables sound (λ _. None) v f.write h (subst (λ (n : Next). NextFits tables v n) next_is h.next).1) stands)

      pub own_value : get c (flight_key tables f) ≡ Some (held_value v.number v.at (present_of tables f stage))
      own_value =
          let st : stances v.number ≡ Holds (hold_of tables v.at f stage) = is ∙ ap (stance_at tables v.at v.over) next_is ∙ ap (λ (o : Option Outcome). stance_at tables v.at o (Flying f stage)) unbroken in
          let o : Owns c v.number (Holds (hold_of tables v.at f stage)) = subst (λ (s : Stance). Owns c v.number s) st (g.owns v.number) in o.1

      pub own_just : (p : Option (List ℕ)) → p ≡ present_of tables f stage → is_just (Some (held_value v.number v.at p)) (get c (flight_key tables f)) ≡ true
      own_just p same = ap (λ (p : Option (List ℕ)). is_just (Some (held_value v.number v.at p)) (get c (flight_key tables f))) same ∙ ap (is_just (Some (held_value v.number v.at (present_of tables f stage)))) own_value ∙ just_itself (Some (held_value v.number v.at (present_of tables f stage)))

      owned : (p new : Option (List ℕ)) (next : Then) (change : Option Change) → p ≡ present_of tables f stage → Presents c change (written_content (flight_key tables f) new c) → Presents c change (if_own tables v.number v.at f p c new next).0
      owned p new next change same presents = subst (λ (t : Content × Then). Presents c change t.0) (sym (ap (λ b. cond {A = Content × Then} b (written_content (flight_key tables f) new c, next) (c, damaged (flight_key tables f) None)) (own_just p same))) presents

    flown_presents : (f : Flight) (stage : Stage) → v.next ≡ Flying f stage → Presents c (put_at tables (Flying f stage)) (flown tables v.number v.at f stage c).0
    flown_presents f (Checking check left) next_is = λ k space. refl
    flown_presents f (Adding entry left added) next_is =
        let fl = flight f (Adding entry left added) next_is in
        entry_elsewhere c entry (Some []) (flight_key tables f) (names_code tables sound (flight_key tables f) (new_code tables f) entry fl.new ((stage_fits f (Adding entry left added) next_is entry).2 (or_first (is_key entry entry) _ (key_itself entry))))
    flown_presents f (Testing place left passed) next_is = λ k space. refl
    flown_presents f Putting next_is =
        let fl = flight f Putting next_is in
        owned f Putting next_is f.read (Some (held_value v.number v.at (new_code tables f))) (Puts (Flying f (clearing (stale_entries tables f)))) (Some (flight_key tables f, new_code tables f)) refl
        (put_there c (flight_key tables f) (Some (held_value v.number v.at (new_code tables f))) (new_code tables f) (held f Putting next_is (new_code tables f) fl.new))
    flown_presents f (Clearing entry left) next_is =
        let fl = flight f (Clearing entry left) next_is in
        entry_elsewhere c entry None (flight_key tables f) (names_code tables sound (flight_key tables f) f.read entry fl.read ((stage_fits f (Clearing entry left) next_is).0 entry (or_first (is_key entry entry) _ (key_itself entry))).1)
    flown_presents f Freeing next_is =
        let fl = flight f Freeing next_is in
        owned f Freeing next_is (new_code tables f) (new_code tables f) (Ends outcome.Done) None refl
        (same_there c (flight_key tables f) (new_code tables f) (code_present (flight_key tables f) (new_code tables f) fl.new ∙ sym (ap present_code (own_value f Freeing next_is) ∙ held f Freeing next_is (new_code tables f) fl.new)))
    flown_presents f (Undoing entry left why) next_is =
        let fl = flight f (Undoing entry left why) next_is in
        entry_elsewhere c entry None (flight_key tables f) (names_code tables sound (flight_key tables f) (new_code tables f) entry fl.new ((stage_fits f (Undoing entry left why) next_is).0 entry (or_first (is_key entry entry) _ (key_itself entry))).1)
    flown_presents f (Releasing why) next_is =
        let fl = flight f (Releasing why) next_is in
        owned f (Releasing why) next_is f.read f.read (refused why) None refl
        (same_there c (flight_key tables f) f.read (code_present (flight_key tables f) f.read fl.read ∙ sym (ap present_code (own_value f (Releasing why) next_is) ∙ held f (Releasing why) next_is f.read fl.read)))

    read_presents : (w : Option Write) → Presents c None (read_on tables v.number w c).0
    read_presents None k space = refl
    read_presents (Some w) k space = refl

    taken_presents : (f : Flight) → v.next ≡ Taking f → Presents c None (gone_on tables v (Taking f) c).0
    taken_presents f next_is =
        let fits = subst (λ (n : Next). NextFits tables v n) next_is h.next in
        elim (is_just f.read (get c (flight_key tables f))) as (λ b. is_just f.read (get c (flight_key tables f)) ≡ b → Presents c None (cond {A = Content × Then} b (written_content (flight_key tables f) (Some (held_value v.number v.at f.read)) c, On (Flying f (checking tables f (flight_checks tables f)))) (c, On (Looking f))).0) [
          | true ↦ λ just. same_there c (flight_key tables f) (Some (held_value v.number v.at f.read))
              (ap present_in (held_cell tables (flight_key tables f) v.number v.at f.read h.small (few_at tables sound (λ _. None) v f.write h fits.1) fits.0.read) ∙ sym (ap present_code (just_this f.read (get c (flight_key tables f)) just) ∙ code_present (flight_key tables f) f.read fits.0.read))
          | false ↦ λ _ k space. refl
        ] refl

    pub gone_presents : (next : Next) → v.next ≡ next → Presents c (put_at tables next) (gone_on tables v next c).0
    gone_presents Reading next_is = read_presents (write_at v.writes v.at)
    gone_presents (Taking f) next_is = taken_presents f next_is
    gone_presents (Looking f) next_is = λ k space. refl
    gone_presents (Flying f stage) next_is = flown_presents f stage next_is

    pub met_presents : (fate : Fate) → Presents c (put_by_fate tables v.next fate) (met tables v c fate).content
    met_presents Answers = subst (λ (d : Content). Presents c (put_at tables v.next) d) (sym (call_content tables sound (λ _. None) v (gone_on tables v v.next c))) (gone_presents v.next refl)
    met_presents NotDone = λ k space. refl
    met_presents DoneUnseen = gone_presents v.next refl
    met_presents NoMemory = λ k space. refl

  pub stepped_presents : (c : Content) (stances : ℕ → Stance) → Good tables c stances → (v : View) → ViewFits tables v → stances v.number ≡ stance_of tables v → (fate : Fate) → Presents c (put_of tables v fate) (stepped tables v c fate).content
  stepped_presents c stances g v h is fate =
      elim (is_over v) as (λ b. is_over v ≡ b → Presents c (cond b None (put_by_fate tables v.next fate)) (cond b (record { content = c; view = v; step = step.Over }) (met tables v c fate)).content) [
        | true ↦ λ _ k space. refl
        | false ↦ λ over. met_presents c stances g v h (unbroken_of tables sound (λ _. None) v over) is fate
      ] refl

  -- ---- every schedule
  abbrev pub put_of_turn : Run → Event → Option View → Option Change
  put_of_turn r e None = None
  put_of_turn r e (Some v) = put_of tables v e.fate

  -- the puts of a run, in their order
  abbrev pub puts_of_run : Run → List Event → List (Option Change)
  puts_of_run r [] = []
  puts_of_run r (e ∷ es) = put_of_turn r e (slice_get r.clients e.place) ∷ puts_of_run (turn tables r e) es

  abbrev pub after_changes : List (Option Change) → List ℕ → Option (List ℕ) → Option (List ℕ)
  after_changes [] k p = p
  after_changes (change ∷ changes) k p = after_changes changes k (after_change change k p)

  turn_presents : (others : List ℕ → Option (List ℕ)) (r : Run) (e : Event) (o : Option View) → slice_get r.clients e.place ≡ o → Holding tables sound others r → Presents r.content (put_of_turn r e o) (turned tables r e o).content
  turn_presents others r e None is h = λ k space. refl
  turn_presents others r e (Some v) is h = stepped_presents r.content (stances_of tables r.clients) h.good v (at_place (ViewFits tables) r.clients e.place v h.views is) (own_stance tables r.clients e.place v h.differ is) e.fate

  -- the row present at each key at the end is the one at the beginning, changed by the puts at this key in their order
  pub run_presents : (others : List ℕ → Option (List ℕ)) (es : List Event) (r : Run) → Holding tables sound others r → (k : List ℕ) → is_in_space 2 k ≡ true
      → present_code (get (run tables r es).content k) ≡ after_changes (puts_of_run r es) k (present_code (get r.content k))
  run_presents others [] r h k space = refl
  run_presents others (e ∷ es) r h k space =
      run_presents others es (turn tables r e) (turn_holds tables sound others r e h) k space
      ∙ ap (after_changes (puts_of_run (turn tables r e) es) k) (turn_presents others r e (slice_get r.clients e.place) refl h k space)
