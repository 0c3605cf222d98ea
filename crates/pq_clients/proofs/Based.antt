-- After every schedule the present tables are those at entry, changed by the writes that were put.
use Rattle.std.proofs.Common.{◌≡◌, ℕ, ◌+◌, Bool, true, false, cond, List, [], ◌∷◌, ◌++◌, Option, Some, None, refl, sym, ap, ◌∙◌, subst}
use Rattle.std.specs.Prelude.{option_and_then, slice_set}
use Rattle.std.specs.List.{AllByRecursion, slice_get}
use Rattle.std.specs.FinMap.{get}
use Rattle.std.proofs.lemmas.List.{append-nil}
use Rattle.pq_base.specs.declared.value.Value.{Value}
use Rattle.pq_key_code.specs.KeyCode.{row_key}
use Rattle.pq_schema.specs.declared.table.Table.{Table}
use Rattle.pq_schema.specs.Tables.{table_at}
use Rattle.pq_content.specs.Pairs.{is_in_space}
use Rattle.pq_content.specs.Tables.{AllOfKinds, key_types}
use Rattle.pq_content.proofs.Keys.{same_key, key_itself}
use Rattle.pq_store.specs.Content.{Content, written_content}
use Rattle.pq_index_keep.specs.declared.write.Write.{Write}
use Rattle.pq_index_keep.specs.Sound.{AreWritable}
use Rattle.pq_clients.specs.declared.outcome.Outcome.{Outcome}
use Rattle.pq_clients.specs.declared.outcome.Outcome.TheVariants as outcome
use Rattle.pq_clients.specs.declared.outcome.Wrote.{Wrote}
use Rattle.pq_clients.specs.Held.{present_in, present_code, held_value, decoded_row}
use Rattle.pq_clients.specs.Flights.{Flight, row_made, flight_key, old_row, new_row, new_code, stale_entries}
use Rattle.pq_clients.specs.Clients.{Checking, Adding, Testing, Putting, Clearing, Freeing, Undoing, Releasing, Next, Reading, Taking, Looking, Flying, View, write_at}
use Rattle.pq_clients.specs.Steps.{is_just, Then, On, Puts, Ends, damaged, clearing, gone_on, is_fault, After, after_call, told_view, Fate, Answers, NotDone, DoneUnseen, NoMemory, met}
use Rattle.pq_clients.specs.Runs.{put_by}
use Rattle.pq_clients.specs.Present.{write_named, writes_named}
use Rattle.pq_clients.specs.Invariant.{is_key, code_row, FlightFits, NextFits, ViewFits, Good, IsShaped, stance_of}
use Rattle.pq_clients.proofs.Basics.{get_here}
use Rattle.pq_clients.proofs.Cells.{held_cell}
use Rattle.pq_clients.proofs.Coded.{key_space, new_is, old_is}
use Rattle.pq_clients.proofs.Effects.{effect_of, effects, effects-append, same_bytes}
use Rattle.pq_clients.proofs.Shaped.{just_this, just_itself}
use Rattle.pq_clients.proofs.CallSteps.{few_at}
use Rattle.pq_clients.proofs.Puts.{Change, Presents, after_change, put_at, put_by_fate, own_value, own_just, met_presents}
use Rattle.pq_clients.proofs.Others.{NotPuts, IsNoPut, calm}
use Rattle.pq_clients.proofs.Shows.{Leaves, leaves_shown, shown_same, shown_one, named-append, shown_write, shown_writes}
use Rattle.pq_clients.proofs.Whole.{Differ, stances_of, own_stance, at_place}
use Rattle.pq_clients.proofs.Written.{LostAt, LostHeld, OtherAt, other_same, other_leaves, named_here, shown_quiet, lost_quiet, all_by_place}

module _ (tables : List Table) (sound : AreWritable tables) (others : List ℕ → Option (List ℕ)) where
  -- the row of a code under a key
  abbrev row_of : ℕ → Option (List ℕ) → Option (List Value)
  row_of t code = option_and_then (decoded_row (table_at tables t)) code

  by_code : (t : ℕ) (key : List Value) (code : Option (List ℕ)) → code_row tables (row_key t key) code ≡ row_of t code
  unfolding code_row
  by_code t key code = refl

  old_at : (t : ℕ) (key : List Value) (f : Flight) → flight_key tables f ≡ row_key t key → row_of t f.read ≡ old_row tables f
  old_at t key f at = sym (by_code t key f.read) ∙ ap (λ (k : List ℕ). code_row tables k f.read) (sym at) ∙ old_is tables f

  new_at : (t : ℕ) (key : List Value) (f : Flight) → FlightFits tables f → flight_key tables f ≡ row_key t key → row_of t (new_code tables f) ≡ new_row tables f
  new_at t key f fits at = sym (by_code t key (new_code tables f)) ∙ ap (λ (k : List ℕ). code_row tables k (new_code tables f)) (sym at) ∙ new_is tables sound f fits

  made_is : (f : Flight) → row_made f.write (old_row tables f) ≡ new_row tables f
  unfolding new_row
  made_is f = refl

  module _ (c : Content) (shape : IsShaped tables c others) (vs : List View) (p : ℕ) (v : View) (puts : List Wrote) (d0 : Differ vs) (here : slice_get vs p ≡ Some v) (views : AllByRecursion (ViewFits tables) vs) (g : Good tables c (stances_of tables vs)) (held : AllByRecursion (LostHeld tables sound c) vs) (unbroken : v.over ≡ None) where
    h : ViewFits tables v
    h = at_place (ViewFits tables) vs p v views here

    is : stances_of tables vs v.number ≡ stance_of tables v
    is = own_stance tables vs p v d0 here

    none_shown : (d : Content) → shown_write tables d v.over v.next ≡ []
    none_shown d = ap (λ (o : Option Outcome). shown_write tables d o v.next) unbroken

    others_at : (fate : Fate) → AllByRecursion (λ (u : View). OtherAt tables sound c others shape (stances_of tables vs) g v h unbroken is (met tables v c fate).content u.number u.at u.over u.next) vs
    others_at fate = all_by_place (λ (u : View). OtherAt tables sound c others shape (stances_of tables vs) g v h unbroken is (met tables v c fate).content u.number u.at u.over u.next) vs
        (λ q u at. other_same tables sound c others shape (stances_of tables vs) g v h unbroken is u (at_place (ViewFits tables) vs q u views at) (own_stance tables vs q u d0 at) (at_place (LostHeld tables sound c) vs q u held at) fate)

    -- what the step leaves: what is held, and the rows by the writes
    pub record Based (a : After) : Type 0 where
      pub kept : LostHeld tables sound a.content a.view
      pub rows : (t : ℕ) (key : List Value) → AllOfKinds (key_types (table_at tables t)) key → (o : Option (List Value))
          → effects tables t key (writes_named vs puts ++ shown_writes tables c vs) o ≡ row_of t (present_code (get c (row_key t key)))
          → effects tables t key (writes_named vs (puts ++ put_by a.step) ++ shown_writes tables a.content (slice_set vs p a.view)) o ≡ row_of t (present_code (get a.content (row_key t key)))

    module _ (fate : Fate) where
      d : Content
      d = (met tables v c fate).content

      module _ (t : ℕ) (key : List Value) (kinds : AllOfKinds (key_types (table_at tables t)) key) (o : Option (List Value)) (before : effects tables t key (writes_named vs puts ++ shown_writes tables c vs) o ≡ row_of t (present_code (get c (row_key t key)))) where
        abbrev named : Option (List Value)
        named = effects tables t key (writes_named vs puts) o

        before_is : effects tables t key (shown_writes tables c vs) named ≡ row_of t (present_code (get c (row_key t key)))
        before_is = sym (effects-append tables t key (writes_named vs puts) (shown_writes tables c vs) o) ∙ before

        same_shown : (w : View) → Leaves tables t key (shown_write tables (met tables v c fate).content w.over w.next) → (x : Option (List Value)) → effects tables t key (shown_writes tables (met tables v c fate).content (slice_set vs p w)) x ≡ effects tables t key (shown_writes tables c vs) x
        same_shown w leaves x = shown_same tables t key c (met tables v c fate).content vs p v w here
            (each vs (others_at fate)) (λ x. leaves x ∙ sym (ap (λ (ws : List Write). effects tables t key ws x) (none_shown c))) x
          where
            each : (us : List View) → AllByRecursion (λ (u : View). OtherAt tables sound c others shape (stances_of tables vs) g v h unbroken is (met tables v c fate).content u.number u.at u.over u.next) us
                → AllByRecursion (λ (u : View). (x : Option (List Value)) → effects tables t key (shown_write tables (met tables v c fate).content u.over u.next) x ≡ effects tables t key (shown_write tables c u.over u.next) x) us
            each [] all = tt
            each (u ∷ us) all = (λ x. ap (λ (ws : List Write). effects tables t key ws x) all.0.1, each us all.1)

        -- no row changes at the key, and nothing new is shown there
        calm_rows : (w : View) → Leaves tables t key (shown_write tables (met tables v c fate).content w.over w.next) → present_code (get (met tables v c fate).content (row_key t key)) ≡ present_code (get c (row_key t key))
            → (more : List Wrote) → Leaves tables t key (writes_named vs more) → effects tables t key (writes_named vs (puts ++ more) ++ shown_writes tables (met tables v c fate).content (slice_set vs p w)) o ≡ row_of t (present_code (get (met tables v c fate).content (row_key t key)))
        calm_rows w leaves same more quiet =
            effects-append tables t key (writes_named vs (puts ++ more)) (shown_writes tables (met tables v c fate).content (slice_set vs p w)) o
            ∙ ap (effects tables t key (shown_writes tables (met tables v c fate).content (slice_set vs p w))) (ap (λ (ws : List Write). effects tables t key ws o) (named-append vs puts more) ∙ effects-append tables t key (writes_named vs puts) (writes_named vs more) o ∙ quiet named)
            ∙ same_shown w leaves named ∙ before_is ∙ ap (row_of t) (sym same)

        -- at the key of the put
        module _ (f : Flight) (v_next : v.next ≡ Flying f Putting) (at : flight_key tables f ≡ row_key t key) where
          all_leave : (d : Content) → AllByRecursion (λ (u : View). Leaves tables t key (shown_write tables d u.over u.next)) vs
          all_leave d = all_by_place (λ (u : View). Leaves tables t key (shown_write tables d u.over u.next)) vs
              (λ q u place. other_leaves tables sound c others shape (stances_of tables vs) g v h unbroken is f v_next t key at kinds u (at_place (ViewFits tables) vs q u views place) (own_stance tables vs q u d0 place) (at_place (LostHeld tables sound c) vs q u held place) d)

          flight : FlightFits tables f
          flight = (subst (λ (n : Next). NextFits tables v n) v_next h.next).0

          present_read : present_code (get c (row_key t key)) ≡ f.read
          present_read =
              ap (λ (k : List ℕ). present_code (get c k)) (sym at)
              ∙ ap present_code (own_value tables sound c (stances_of tables vs) g v h unbroken is f Putting v_next)
              ∙ ap present_in (held_cell tables (flight_key tables f) v.number v.at f.read h.small (few_at tables sound others v f.write h (subst (λ (n : Next). NextFits tables v n) v_next h.next).1) flight.read)

          pub named_old : named ≡ old_row tables f
          named_old = sym (leaves_shown tables t key c vs (all_leave c) named) ∙ before_is ∙ ap (row_of t) present_read ∙ old_at t key f at

          made_new : effect_of tables t key f.write named ≡ row_of t (new_code tables f)
          made_new =
              ap (λ b. cond b (row_made f.write named) named) (sym (same_bytes tables t key kinds f.write flight.write) ∙ ap (is_key (row_key t key)) at ∙ key_itself (row_key t key))
              ∙ ap (row_made f.write) named_old ∙ made_is f ∙ sym (new_at t key f flight at)

          -- the put was made, and is told in the list of puts, or shown by the client that ended
          put_rows : (w : View) (more : List Wrote) → present_code (get (met tables v c fate).content (row_key t key)) ≡ new_code tables f
              → ((x : Option (List Value)) → effects tables t key (shown_write tables (met tables v c fate).content w.over w.next) (effects tables t key (writes_named vs more) x) ≡ effect_of tables t key f.write x)
              → effects tables t key (writes_named vs (puts ++ more) ++ shown_writes tables (met tables v c fate).content (slice_set vs p w)) o ≡ row_of t (present_code (get (met tables v c fate).content (row_key t key)))
          put_rows w more present made =
              effects-append tables t key (writes_named vs (puts ++ more)) (shown_writes tables (met tables v c fate).content (slice_set vs p w)) o
              ∙ ap (effects tables t key (shown_writes tables (met tables v c fate).content (slice_set vs p w))) (ap (λ (ws : List Write). effects tables t key ws o) (named-append vs puts more) ∙ effects-append tables t key (writes_named vs puts) (writes_named vs more) o)
              ∙ shown_one tables t key (met tables v c fate).content vs p v w here (all_leave (met tables v c fate).content) (effects tables t key (writes_named vs more) named)
              ∙ made named ∙ made_new ∙ ap (row_of t) (sym present)

          -- the put was not made: the row is the old one, which the client that ended may show as the new one
          lost_rows : (w : View) → present_code (get (met tables v c fate).content (row_key t key)) ≡ f.read → (b : Bool) → (b ≡ true → f.read ≡ new_code tables f)
              → ((x : Option (List Value)) → effects tables t key (shown_write tables (met tables v c fate).content w.over w.next) x ≡ cond b (effect_of tables t key f.write x) x)
              → effects tables t key (writes_named vs (puts ++ []) ++ shown_writes tables (met tables v c fate).content (slice_set vs p w)) o ≡ row_of t (present_code (get (met tables v c fate).content (row_key t key)))
          lost_rows w present b same made =
              effects-append tables t key (writes_named vs (puts ++ [])) (shown_writes tables (met tables v c fate).content (slice_set vs p w)) o
              ∙ ap (λ (ps : List Wrote). effects tables t key (shown_writes tables (met tables v c fate).content (slice_set vs p w)) (effects tables t key (writes_named vs ps) o)) (append-nil puts)
              ∙ shown_one tables t key (met tables v c fate).content vs p v w here (all_leave (met tables v c fate).content) named
              ∙ made named ∙ by b same ∙ ap (row_of t) (sym present)
            where
              by : (b : Bool) → (b ≡ true → f.read ≡ new_code tables f) → cond b (effect_of tables t key f.write named) named ≡ row_of t f.read
              by true same = made_new ∙ ap (row_of t) (sym (same refl))
              by false same = named_old ∙ sym (old_at t key f at)

    -- ---- the kinds of step
    presents : (fate : Fate) → Presents tables sound c (put_by_fate tables v.next fate) (met tables v c fate).content
    presents fate = met_presents tables sound c (stances_of tables vs) g v h unbroken is fate

    calm_put : (next : Next) → IsNoPut tables sound next → put_at tables next ≡ None
    calm_put Reading q = refl
    calm_put (Taking f) q = refl
    calm_put (Looking f) q = refl
    calm_put (Flying f (Checking check left)) q = refl
    calm_put (Flying f (Adding entry left added)) q = refl
    calm_put (Flying f (Testing place left passed)) q = refl
    calm_put (Flying f Putting) q = absurd q
    calm_put (Flying f (Clearing entry left)) q = refl
    calm_put (Flying f Freeing) q = refl
    calm_put (Flying f (Undoing entry left why)) q = refl
    calm_put (Flying f (Releasing why)) q = refl

    -- a step that is no put
    record Calm (a : After) : Type 0 where
      pub shown : shown_write tables a.content a.view.over a.view.next ≡ []
      pub puts_none : put_by a.step ≡ []
      pub kept : LostHeld tables sound a.content a.view

    calm_call : IsNoPut tables sound v.next → (t : Content × Then) → NotPuts tables sound t.1 → Calm (after_call v t)
    calm_call q (d, On next) n = record { shown = ap (λ (o : Option Outcome). shown_write tables d o next) unbroken; puts_none = refl; kept = subst (λ (o : Option Outcome). LostAt tables sound d v.number v.at o next) (sym unbroken) tt }
    calm_call q (d, Puts next) n = absurd n
    calm_call q (d, Ends o) n = record {
      shown = elim (is_fault o) as (λ b. shown_write tables d (cond b (record v { over = Some o }) (record v { at = v.at + 1; next = Reading })).over (cond b (record v { over = Some o }) (record v { at = v.at + 1; next = Reading })).next ≡ []) [
        | true ↦ shown_quiet tables sound d o v.next q
        | false ↦ ap (λ (o : Option Outcome). shown_write tables d o Reading) unbroken
      ];
      puts_none = refl;
      kept = elim (is_fault o) as (λ b. LostHeld tables sound d (cond b (record v { over = Some o }) (record v { at = v.at + 1; next = Reading }))) [
        | true ↦ lost_quiet tables sound d v.number v.at o v.next q
        | false ↦ subst (λ (o : Option Outcome). LostAt tables sound d v.number (v.at + 1) o Reading) (sym unbroken) tt
      ];
    }

    calm_met : IsNoPut tables sound v.next → (fate : Fate) → Calm (met tables v c fate)
    calm_met q Answers = calm_call q (gone_on tables v v.next c) (calm tables sound c others shape v h v.next q)
    calm_met q NotDone = record { shown = shown_quiet tables sound c outcome.Failed v.next q; puts_none = refl; kept = lost_quiet tables sound c v.number v.at outcome.Failed v.next q }
    calm_met q DoneUnseen = record { shown = shown_quiet tables sound (gone_on tables v v.next c).0 outcome.Failed v.next q; puts_none = refl; kept = lost_quiet tables sound (gone_on tables v v.next c).0 v.number v.at outcome.Failed v.next q }
    calm_met q NoMemory = record { shown = shown_quiet tables sound c outcome.NoMem v.next q; puts_none = refl; kept = lost_quiet tables sound c v.number v.at outcome.NoMem v.next q }

    calm_based : IsNoPut tables sound v.next → (fate : Fate) → Based (met tables v c fate)
    calm_based q fate =
        let k = calm_met q fate in
        record {
          kept = k.kept;
          rows = λ t key kinds o before.
              ap (λ (more : List Wrote). effects tables t key (writes_named vs (puts ++ more) ++ shown_writes tables (met tables v c fate).content (slice_set vs p (met tables v c fate).view)) o) k.puts_none
              ∙ calm_rows fate t key kinds o before (met tables v c fate).view (λ x. ap (λ (ws : List Write). effects tables t key ws x) k.shown) (same t key fate) [] (λ x. refl);
        }
      where
        none : (fate : Fate) → put_by_fate tables v.next fate ≡ None
        none Answers = calm_put v.next q
        none NotDone = refl
        none DoneUnseen = calm_put v.next q
        none NoMemory = refl

        same : (t : ℕ) (key : List Value) (fate : Fate) → present_code (get (met tables v c fate).content (row_key t key)) ≡ present_code (get c (row_key t key))
        same t key fate = presents fate (row_key t key) refl ∙ ap (λ (change : Option Change). after_change change (row_key t key) (present_code (get c (row_key t key)))) (none fate)

    -- a put
    module _ (f : Flight) (v_next : v.next ≡ Flying f Putting) where
      fits : FlightFits tables f × (write_at v.writes v.at ≡ Some f.write)
      fits = let n = subst (λ (n : Next). NextFits tables v n) v_next h.next in (n.0, n.1)

      abbrev after_put : Content × Then
      after_put = (written_content (flight_key tables f) (Some (held_value v.number v.at (new_code tables f))) c, Puts (Flying f (clearing (stale_entries tables f))))

      put_call : gone_on tables v v.next c ≡ after_put
      put_call = ap (λ (n : Next). gone_on tables v n c) v_next ∙ ap (λ b. cond {A = Content × Then} b after_put (c, damaged (flight_key tables f) None)) (own_just tables sound c (stances_of tables vs) g v h unbroken is f Putting v_next f.read refl)

      value_now : get c (flight_key tables f) ≡ Some (held_value v.number v.at f.read)
      value_now = own_value tables sound c (stances_of tables vs) g v h unbroken is f Putting v_next

      held_lost : (e : Outcome) → LostAt tables sound c v.number v.at (Some e) v.next
      held_lost e = subst (λ (n : Next). LostAt tables sound c v.number v.at (Some e) n) (sym v_next) (f.read, fits.0.read, value_now)

      -- elsewhere the write changes nothing
      elsewhere : (t : ℕ) (key : List Value) → AllOfKinds (key_types (table_at tables t)) key → is_key (row_key t key) (flight_key tables f) ≡ false → (x : Option (List Value)) → effect_of tables t key f.write x ≡ x
      elsewhere t key kinds apart x = ap (λ b. cond b (row_made f.write x) x) (sym (same_bytes tables t key kinds f.write fits.0.write) ∙ apart)

      put_present : (fate : Fate) → put_by_fate tables v.next fate ≡ Some (flight_key tables f, new_code tables f) → (k : List ℕ) → is_in_space 2 k ≡ true → present_code (get (met tables v c fate).content k) ≡ cond (is_key k (flight_key tables f)) (new_code tables f) (present_code (get c k))
      put_present fate change k space = presents fate k space ∙ ap (λ (change : Option Change). after_change change k (present_code (get c k))) change

      -- by cases: the key of the put, or another
      by_key : (t : ℕ) (key : List Value) (P : Type 0) → (flight_key tables f ≡ row_key t key → is_key (row_key t key) (flight_key tables f) ≡ true → P) → (is_key (row_key t key) (flight_key tables f) ≡ false → P) → P
      by_key t key P here there = elim (is_key (row_key t key) (flight_key tables f)) as (λ b. is_key (row_key t key) (flight_key tables f) ≡ b → P) [ true ↦ λ e. here (sym (same_key (row_key t key) (flight_key tables f) e)) e | false ↦ λ e. there e ] refl

      rows_of_put : (fate : Fate) (w : View) (more : List Wrote) → put_by_fate tables v.next fate ≡ Some (flight_key tables f, new_code tables f)
          → ((t : ℕ) (key : List Value) (x : Option (List Value)) → effects tables t key (shown_write tables (met tables v c fate).content w.over w.next) (effects tables t key (writes_named vs more) x) ≡ effect_of tables t key f.write x)
          → ((t : ℕ) (key : List Value) → is_key (row_key t key) (flight_key tables f) ≡ false → AllOfKinds (key_types (table_at tables t)) key → Leaves tables t key (shown_write tables (met tables v c fate).content w.over w.next) × Leaves tables t key (writes_named vs more))
          → (t : ℕ) (key : List Value) → AllOfKinds (key_types (table_at tables t)) key → (o : Option (List Value))
          → effects tables t key (writes_named vs puts ++ shown_writes tables c vs) o ≡ row_of t (present_code (get c (row_key t key)))
          → effects tables t key (writes_named vs (puts ++ more) ++ shown_writes tables (met tables v c fate).content (slice_set vs p w)) o ≡ row_of t (present_code (get (met tables v c fate).content (row_key t key)))
      rows_of_put fate w more change made quiet t key kinds o before =
          by_key t key (effects tables t key (writes_named vs (puts ++ more) ++ shown_writes tables (met tables v c fate).content (slice_set vs p w)) o ≡ row_of t (present_code (get (met tables v c fate).content (row_key t key))))
          (λ at same. put_rows fate t key kinds o before f v_next at w more (put_present fate change (row_key t key) refl ∙ ap (λ b. cond b (new_code tables f) (present_code (get c (row_key t key)))) same) (made t key))
          (λ apart. let q = quiet t key apart kinds in calm_rows fate t key kinds o before w q.0 (put_present fate change (row_key t key) refl ∙ ap (λ b. cond b (new_code tables f) (present_code (get c (row_key t key)))) apart) more q.1)

      put_based : (fate : Fate) → Based (met tables v c fate)
      put_based Answers = record {
        kept = subst (λ (x : Content × Then). LostHeld tables sound (met tables v c Answers).content (after_call v x).view) (sym put_call) (subst (λ (o : Option Outcome). LostAt tables sound (met tables v c Answers).content v.number v.at o (Flying f (clearing (stale_entries tables f)))) (sym unbroken) tt);
        rows = λ t key kinds o before.
            ap (λ (more : List Wrote). effects tables t key (writes_named vs (puts ++ more) ++ shown_writes tables (met tables v c Answers).content (slice_set vs p (met tables v c Answers).view)) o) told
            ∙ rows_of_put Answers (met tables v c Answers).view wrote (ap (put_at tables) v_next)
            (λ t key x. ap (λ (ws : List Write). effects tables t key ws (effects tables t key (writes_named vs wrote) x)) shown ∙ ap (λ (ws : List Write). effects tables t key (ws ++ []) x) named)
            (λ t key apart kinds. (λ x. ap (λ (ws : List Write). effects tables t key ws x) shown, λ x. ap (λ (ws : List Write). effects tables t key (ws ++ []) x) named ∙ elsewhere t key kinds apart x))
            t key kinds o before;
      }
        where
          wrote : List Wrote
          wrote = record { client = v.number; number = v.at } ∷ []

          told : put_by (met tables v c Answers).step ≡ record { client = v.number; number = v.at } ∷ []
          told = subst (λ (x : Content × Then). put_by (after_call v x).step ≡ record { client = v.number; number = v.at } ∷ []) (sym put_call) refl

          shown : shown_write tables (met tables v c Answers).content (met tables v c Answers).view.over (met tables v c Answers).view.next ≡ []
          shown = subst (λ (x : Content × Then). shown_write tables (met tables v c Answers).content (after_call v x).view.over (after_call v x).view.next ≡ []) (sym put_call) (ap (λ (o : Option Outcome). shown_write tables (met tables v c Answers).content o (Flying f (clearing (stale_entries tables f)))) unbroken)

          named : write_named vs (record { client = v.number; number = v.at }) ≡ f.write ∷ []
          named = named_here vs p v v.at f.write d0 here fits.1
      put_based NotDone = record {
        kept = held_lost outcome.Failed;
        rows = λ t key kinds o before. by_key t key (effects tables t key (writes_named vs (puts ++ []) ++ shown_writes tables c (slice_set vs p (told_view v outcome.Failed))) o ≡ row_of t (present_code (get c (row_key t key))))
            (λ at same. lost_rows NotDone t key kinds o before f v_next at (told_view v outcome.Failed) (present_read NotDone t key kinds o before f v_next at) (is_just (new_code tables f) (present_code (get c (flight_key tables f))))
            (λ e. sym (present_read NotDone t key kinds o before f v_next at) ∙ ap (λ (k : List ℕ). present_code (get c k)) (sym at) ∙ just_this (new_code tables f) (present_code (get c (flight_key tables f))) e)
            (λ x. ap (λ (n : Next). effects tables t key (shown_write tables c (Some outcome.Failed) n) x) v_next ∙ by_shown t key x (is_just (new_code tables f) (present_code (get c (flight_key tables f))))))
            (λ apart. calm_rows NotDone t key kinds o before (told_view v outcome.Failed) (λ x. ap (λ (n : Next). effects tables t key (shown_write tables c (Some outcome.Failed) n) x) v_next ∙ by_shown t key x (is_just (new_code tables f) (present_code (get c (flight_key tables f)))) ∙ leave_shown (elsewhere t key kinds apart x) (is_just (new_code tables f) (present_code (get c (flight_key tables f))))) refl [] (λ x. refl));
      }
        where
          by_shown : (t : ℕ) (key : List Value) (x : Option (List Value)) (b : Bool) → effects tables t key (cond b (f.write ∷ []) []) x ≡ cond b (effect_of tables t key f.write x) x
          by_shown t key x true = refl
          by_shown t key x false = refl

          leave_shown : {y x : Option (List Value)} → y ≡ x → (b : Bool) → cond b y x ≡ x
          leave_shown e true = e
          leave_shown e false = refl
      put_based DoneUnseen = record {
        kept = subst (λ (n : Next). LostAt tables sound (gone_on tables v v.next c).0 v.number v.at (Some outcome.Failed) n) (sym v_next) (new_code tables f, fits.0.new, ap (λ (x : Content × Then). get x.0 (flight_key tables f)) put_call ∙ get_here (flight_key tables f) (Some (held_value v.number v.at (new_code tables f))) c);
        rows = λ t key kinds o before. rows_of_put DoneUnseen (told_view v outcome.Failed) [] (ap (put_at tables) v_next)
            (λ t key x. ap (λ (ws : List Write). effects tables t key ws x) shown)
            (λ t key apart kinds. (λ x. ap (λ (ws : List Write). effects tables t key ws x) shown ∙ elsewhere t key kinds apart x, λ x. refl))
            t key kinds o before;
      }
        where
          present_new : present_code (get (met tables v c DoneUnseen).content (flight_key tables f)) ≡ new_code tables f
          present_new = put_present DoneUnseen (ap (put_at tables) v_next) (flight_key tables f) (key_space tables f.write) ∙ ap (λ b. cond b (new_code tables f) (present_code (get c (flight_key tables f)))) (key_itself (flight_key tables f))

          shown : shown_write tables (met tables v c DoneUnseen).content (Some outcome.Failed) v.next ≡ f.write ∷ []
          shown = ap (shown_write tables (met tables v c DoneUnseen).content (Some outcome.Failed)) v_next ∙ ap (λ b. cond b (f.write ∷ []) []) (ap (is_just (new_code tables f)) present_new ∙ just_itself (new_code tables f))
      put_based NoMemory = record {
        kept = held_lost outcome.NoMem;
        rows = λ t key kinds o before. calm_rows NoMemory t key kinds o before (told_view v outcome.NoMem) (λ x. refl) refl [] (λ x. refl);
      }

    next_based : (next : Next) → v.next ≡ next → (fate : Fate) → Based (met tables v c fate)
    next_based Reading e fate = calm_based (subst (IsNoPut tables sound) (sym e) tt) fate
    next_based (Taking f) e fate = calm_based (subst (IsNoPut tables sound) (sym e) tt) fate
    next_based (Looking f) e fate = calm_based (subst (IsNoPut tables sound) (sym e) tt) fate
    next_based (Flying f (Checking check left)) e fate = calm_based (subst (IsNoPut tables sound) (sym e) tt) fate
    next_based (Flying f (Adding entry left added)) e fate = calm_based (subst (IsNoPut tables sound) (sym e) tt) fate
    next_based (Flying f (Testing place left passed)) e fate = calm_based (subst (IsNoPut tables sound) (sym e) tt) fate
    next_based (Flying f Putting) e fate = put_based f e fate
    next_based (Flying f (Clearing entry left)) e fate = calm_based (subst (IsNoPut tables sound) (sym e) tt) fate
    next_based (Flying f Freeing) e fate = calm_based (subst (IsNoPut tables sound) (sym e) tt) fate
    next_based (Flying f (Undoing entry left why)) e fate = calm_based (subst (IsNoPut tables sound) (sym e) tt) fate
    next_based (Flying f (Releasing why)) e fate = calm_based (subst (IsNoPut tables sound) (sym e) tt) fate

    pub met_based : (fate : Fate) → Based (met tables v c fate)
    met_based fate = next_based v.next refl fate

    -- the clients but for the one that stepped keep what they left
    pub others_kept : (fate : Fate) → AllByRecursion (LostHeld tables sound (met tables v c fate).content) vs
    others_kept fate = each vs (others_at fate)
      where
        each : (us : List View) → AllByRecursion (λ (u : View). OtherAt tables sound c others shape (stances_of tables vs) g v h unbroken is (met tables v c fate).content u.number u.at u.over u.next) us → AllByRecursion (LostHeld tables sound (met tables v c fate).content) us
        each [] all = tt
        each (u ∷ us) all = (all.0.0, each us all.1)
