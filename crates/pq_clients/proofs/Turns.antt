-- One step of a client, whatever becomes of its call.
use Rattle.std.proofs.Common.{◌≡◌, ℕ, ◌+◌, ◌-◌, nat_lt, true, false, cond, inl, List, length, Option, Some, None, is_some, refl, sym, ap, ◌∙◌, subst}
use Rattle.std.specs.FinMap.{get}
use Rattle.std.proofs.lemmas.Bool.{false≢true}
use Rattle.pq_schema.specs.declared.table.Table.{Table}
use Rattle.pq_store.specs.Content.{Content, written_content}
use Rattle.pq_index_keep.specs.declared.write.Write.{Write}
use Rattle.pq_index_keep.specs.Sound.{AreWritable, IsWrite}
use Rattle.pq_clients.specs.declared.outcome.Outcome.{Outcome}
use Rattle.pq_clients.specs.declared.outcome.Outcome.TheVariants as outcome
use Rattle.pq_clients.specs.Held.{Cell, present_in, held_value}
use Rattle.pq_clients.specs.Flights.{Flight, pair_key, flight_key, flight_checks}
use Rattle.pq_clients.specs.Clients.{Next, Reading, Taking, Looking, Flying, View, write_at, is_over}
use Rattle.pq_clients.specs.Steps.{checking, is_just, Then, On, Puts, Ends, after_read, read_on, gone_on, After, told_view, after_call, is_fault, Fate, Answers, NotDone, DoneUnseen, NoMemory, met, stepped}
use Rattle.pq_clients.specs.Steps.{After}
use Rattle.pq_clients.specs.declared.outcome.Step.TheVariants as step
use Rattle.pq_clients.specs.Invariant.{Stance, Idle, Holds, Left, Owns, MayStandAt, Good, hold_of, taken_remains, remains_of, stance_at, stance_of, FlightFits, NextFits, ViewFits, IsShaped}
use Rattle.pq_clients.proofs.Basics.{neither_of}
use Rattle.pq_clients.proofs.Frame.{set_stance, set_self}
use Rattle.pq_clients.proofs.Cells.{held_cell}
use Rattle.pq_clients.proofs.Coded.{key_space}
use Rattle.pq_clients.proofs.Flying.{ArePassed}
use Rattle.pq_clients.proofs.Landing.{left, idle, taking}
use Rattle.pq_clients.proofs.Stages.{present_checking, fits_checking, high_within}
use Rattle.pq_clients.proofs.Shaped.{just_this, shaped_row, Begins, begun, all_at, write_place, standing}
use Rattle.pq_clients.proofs.CallSteps.{failed_view, set_twice, set_same, Kept, told_fits, few_at, flown_kept}

module _ (tables : List Table) (sound : AreWritable tables) (others : List ℕ → Option (List ℕ)) where
  module _ (c : Content) (stances : ℕ → Stance) (shape : IsShaped tables c others) (g : Good tables c stances) (passed : ArePassed tables stances) (v : View) (h : ViewFits tables v) where
    -- ---- a client that holds nothing
    module _ (idles : stances v.number ≡ Idle) where
      idle_good : (s : Stance) → Owns c v.number s → Good tables c (set_stance stances v.number s)
      idle_good s owned = idle tables c stances v.number g idles s owned

      told_idle : (o : Outcome) → ((e : Outcome) → stance_at tables v.at (Some e) v.next ≡ Idle) → Kept tables sound others stances v (c, Ends o)
      told_idle o rests = record {
        shaped = shape;
        fits = told_fits tables sound others v o h;
        number = elim (is_fault o) as (λ b. (cond b (record v { over = Some o }) (record v { at = v.at + 1; next = Reading })).number ≡ v.number) [ true ↦ refl | false ↦ refl ];
        good = subst (λ (s : Stance). Good tables c (set_stance stances v.number s)) (sym after) (idle_good Idle tt);
        lost = subst (λ (s : Stance). Good tables c (set_stance stances v.number s)) (sym (rests outcome.Failed)) (idle_good Idle tt);
      }
        where
          after : stance_of tables (told_view v o) ≡ Idle
          after = elim (is_fault o) as (λ b. stance_of tables (cond b (record v { over = Some o }) (record v { at = v.at + 1; next = Reading })) ≡ Idle) [ true ↦ rests o | false ↦ refl ]

      begun_kept : v.over ≡ None → (w : Write) → write_at v.writes v.at ≡ Some w → v.next ≡ Reading → (t : Then) → Begins tables w t → Kept tables sound others stances v (c, t)
      begun_kept unbroken w is next_is (On Reading) b = absurd b
      begun_kept unbroken w is next_is (On (Taking f)) b = record {
        shaped = shape;
        fits = record { small = h.small; from_one = h.from_one; writes = h.writes; few = h.few; next = (b.0, is ∙ ap Some (sym b.1)) };
        number = refl;
        good = subst (λ (s : Stance). Good tables c (set_stance stances v.number s)) (ap (λ (o : Option Outcome). stance_at tables v.at o (Taking f)) (sym unbroken)) (idle_good Idle tt);
        lost = subst (λ (s : Stance). Good tables c (set_stance stances v.number s)) (ap (stance_at tables v.at (Some outcome.Failed)) (sym next_is)) (idle_good Idle tt);
      }
      begun_kept unbroken w is next_is (On (Looking f)) b = absurd b
      begun_kept unbroken w is next_is (On (Flying f stage)) b = absurd b
      begun_kept unbroken w is next_is (Puts next) b = absurd b
      begun_kept unbroken w is next_is (Ends o) b = told_idle o (λ e. ap (stance_at tables v.at (Some e)) next_is)

      read_kept : v.over ≡ None → v.next ≡ Reading → (w : Option Write) → write_at v.writes v.at ≡ w → Kept tables sound others stances v (read_on tables v.number w c)
      read_kept unbroken next_is None is = record {
        shaped = shape;
        fits = record { small = h.small; from_one = h.from_one; writes = h.writes; few = h.few; next = tt };
        number = refl;
        good = idle_good Idle tt;
        lost = subst (λ (s : Stance). Good tables c (set_stance stances v.number s)) (ap (stance_at tables v.at (Some outcome.Failed)) (sym next_is)) (idle_good Idle tt);
      }
      read_kept unbroken next_is (Some w) is = begun_kept unbroken w is next_is (after_read tables v.number w (get c (pair_key tables w))) (begun tables sound c others shape v.number w (all_at (IsWrite tables) v.writes (v.at - 1) w h.writes (write_place v.writes v.at w is)))

      take_kept : v.over ≡ None → (f : Flight) → v.next ≡ Taking f → Kept tables sound others stances v (gone_on tables v (Taking f) c)
      take_kept unbroken f next_is =
          elim (is_just f.read (get c (flight_key tables f))) as (λ b. is_just f.read (get c (flight_key tables f)) ≡ b → Kept tables sound others stances v (cond {A = Content × Then} b (written_content (flight_key tables f) (Some (held_value v.number v.at f.read)) c, On (Flying f (checking tables f (flight_checks tables f)))) (c, On (Looking f)))) [
            | true ↦ λ just. taken (just_this f.read (get c (flight_key tables f)) just)
            | false ↦ λ _. record {
              shaped = shape;
              fits = record { small = h.small; from_one = h.from_one; writes = h.writes; few = h.few; next = fits };
              number = refl;
              good = idle_good Idle tt;
              lost = lost_taking (idle_good Idle tt);
            }
          ] refl
        where
          fits : FlightFits tables f × (write_at v.writes v.at ≡ Some f.write)
          fits = subst (λ (n : Next). NextFits tables v n) next_is h.next

          lost_of : Left (taken_remains tables v.at f) ≡ stance_of tables (failed_view v)
          lost_of = ap (stance_at tables v.at (Some outcome.Failed)) (sym next_is)

          lost_taking : {d : Content} → Good tables d (set_stance stances v.number Idle) → Good tables d (set_stance stances v.number (stance_of tables (failed_view v)))
          lost_taking {d} good = subst (λ (s : Stance). Good tables d (set_stance stances v.number s)) lost_of
              (subst (λ (x : ℕ → Stance). Good tables d x) (set_twice stances v.number Idle (Left (taken_remains tables v.at f)))
              (idle tables d (set_stance stances v.number Idle) v.number good (set_self stances v.number Idle) (Left (taken_remains tables v.at f)) tt))

          taken : get c (flight_key tables f) ≡ f.read → Kept tables sound others stances v (written_content (flight_key tables f) (Some (held_value v.number v.at f.read)) c, On (Flying f (checking tables f (flight_checks tables f))))
          taken found =
              let fl = fits.0 in
              let few = few_at tables sound others v f.write h fits.1 in
              let back = held_cell tables (flight_key tables f) v.number v.at f.read h.small few fl.read in
              let s = checking tables f (flight_checks tables f) in
              let d = written_content (flight_key tables f) (Some (held_value v.number v.at f.read)) c in
              let good = taking tables c stances v.number g idles sound v.at f fl back found in
              record {
                shaped = shaped_row tables c others (flight_key tables f) (Some (held_value v.number v.at f.read)) (key_space tables f.write) (subst (λ (x : Cell). MayStandAt tables (flight_key tables f) (present_in x)) (sym back) fl.read) shape;
                fits = record { small = h.small; from_one = h.from_one; writes = h.writes; few = h.few; next = (fl, fits.1, fits_checking tables sound f fl (flight_checks tables f)) };
                number = refl;
                good = subst (λ (s' : Stance). Good tables d (set_stance stances v.number s')) (ap (λ (o : Option Outcome). stance_at tables v.at o (Flying f s)) (sym unbroken)) good;
                lost = subst (λ (s' : Stance). Good tables d (set_stance stances v.number s')) lost_of
                    (subst (λ (x : ℕ → Stance). Good tables d x) (set_twice stances v.number (Holds (hold_of tables v.at f s)) (Left (taken_remains tables v.at f)))
                    (left tables sound d (set_stance stances v.number (Holds (hold_of tables v.at f s))) v.number v.at f s good (set_self stances v.number (Holds (hold_of tables v.at f s)))
                    (taken_remains tables v.at f) refl refl (inl (present_checking tables sound f fl (flight_checks tables f))) (λ e high. high_within tables sound f fl s (fits_checking tables sound f fl (flight_checks tables f)) e high)));
              }

    -- ---- one call
    pub answered : v.over ≡ None → stances v.number ≡ stance_of tables v → (next : Next) → v.next ≡ next → Kept tables sound others stances v (gone_on tables v next c)
    answered unbroken is Reading next_is = read_kept (is ∙ ap (stance_at tables v.at v.over) next_is) unbroken next_is (write_at v.writes v.at) refl
    answered unbroken is (Taking f) next_is = take_kept (is ∙ ap (stance_at tables v.at v.over) next_is ∙ ap (λ (o : Option Outcome). stance_at tables v.at o (Taking f)) unbroken) unbroken f next_is
    answered unbroken is (Looking f) next_is = told_idle (is ∙ ap (stance_at tables v.at v.over) next_is) (outcome.Conflict f.read (get c (flight_key tables f))) (λ e. ap (stance_at tables v.at (Some e)) next_is)
    answered unbroken is (Flying f stage) next_is = flown_kept tables sound others c stances shape g passed v h unbroken f stage next_is (is ∙ ap (stance_at tables v.at v.over) next_is ∙ ap (λ (o : Option Outcome). stance_at tables v.at o (Flying f stage)) unbroken) (standing tables c others shape)

    -- the client ends where it is
    broken : v.over ≡ None → stances v.number ≡ stance_of tables v → (o : Outcome) (next : Next) → v.next ≡ next → Good tables c (set_stance stances v.number (stance_at tables v.at (Some o) next))
    broken unbroken is o Reading next_is = idle_good (is ∙ ap (stance_at tables v.at v.over) next_is) Idle tt
    broken unbroken is o (Taking f) next_is = idle_good (is ∙ ap (stance_at tables v.at v.over) next_is ∙ ap (λ (o : Option Outcome). stance_at tables v.at o (Taking f)) unbroken) (Left (taken_remains tables v.at f)) tt
    broken unbroken is o (Looking f) next_is = idle_good (is ∙ ap (stance_at tables v.at v.over) next_is) Idle tt
    broken unbroken is o (Flying f stage) next_is =
        let held : stances v.number ≡ Holds (hold_of tables v.at f stage) = is ∙ ap (stance_at tables v.at v.over) next_is ∙ ap (λ (o : Option Outcome). stance_at tables v.at o (Flying f stage)) unbroken in
        let fits = subst (λ (n : Next). NextFits tables v n) next_is h.next in
        left tables sound c stances v.number v.at f stage g held (remains_of tables v.at f stage) refl refl (inl refl) (λ e high. high_within tables sound f fits.0 stage fits.2 e high)

  pub record StepKept (stances : ℕ → Stance) (v : View) (a : After) : Type 0 where
    pub shaped : IsShaped tables a.content others
    pub fits : ViewFits tables a.view
    pub number : a.view.number ≡ v.number
    pub good : Good tables a.content (set_stance stances v.number (stance_of tables a.view))

  pub call_content : (v : View) (t : Content × Then) → (after_call v t).content ≡ t.0
  call_content v (c, On next) = refl
  call_content v (c, Puts next) = refl
  call_content v (c, Ends o) = refl

  open_of : (o : Option Outcome) → is_some o ≡ false → o ≡ None
  open_of None h = refl
  open_of (Some x) h = absurd (false≢true (sym h))

  pub unbroken_of : (v : View) → is_over v ≡ false → v.over ≡ None
  unbroken_of v h = open_of v.over (neither_of (is_some v.over) (nat_lt (length v.writes) v.at) h).0

  pub stepped_kept : (c : Content) (stances : ℕ → Stance) → IsShaped tables c others → Good tables c stances → ArePassed tables stances → (v : View) → ViewFits tables v → stances v.number ≡ stance_of tables v → (fate : Fate) → StepKept stances v (stepped tables v c fate)
  stepped_kept c stances shape g passed v h is fate =
      elim (is_over v) as (λ b. is_over v ≡ b → StepKept stances v (cond b (record { content = c; view = v; step = step.Over }) (met tables v c fate))) [
        | true ↦ λ _. record { shaped = shape; fits = h; number = refl; good = subst (λ (s : Stance). Good tables c (set_stance stances v.number s)) is (subst (λ (x : ℕ → Stance). Good tables c x) (sym (set_same stances v.number)) g) }
        | false ↦ λ over. by_fate (unbroken_of v over) fate
      ] refl
    where
      kept : v.over ≡ None → Kept tables sound others stances v (gone_on tables v v.next c)
      kept unbroken = answered c stances shape g passed v h unbroken is v.next refl

      by_fate : v.over ≡ None → (fate : Fate) → StepKept stances v (met tables v c fate)
      by_fate unbroken Answers =
          let k = kept unbroken in
          let t = gone_on tables v v.next c in
          record {
            shaped = subst (λ (d : Content). IsShaped tables d others) (sym (call_content v t)) k.shaped;
            fits = k.fits;
            number = k.number;
            good = subst (λ (d : Content). Good tables d (set_stance stances v.number (stance_of tables (after_call v t).view))) (sym (call_content v t)) k.good;
          }
      by_fate unbroken NotDone = record { shaped = shape; fits = told_fits tables sound others v outcome.Failed h; number = refl; good = broken c stances shape g passed v h unbroken is outcome.Failed v.next refl }
      by_fate unbroken DoneUnseen = let k = kept unbroken in record { shaped = k.shaped; fits = told_fits tables sound others v outcome.Failed h; number = refl; good = k.lost }
      by_fate unbroken NoMemory = record { shaped = shape; fits = told_fits tables sound others v outcome.NoMem h; number = refl; good = broken c stances shape g passed v h unbroken is outcome.NoMem v.next refl }
