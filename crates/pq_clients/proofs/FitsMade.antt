-- Each write that was made finds no row, if it is an INSERT, and else a row, in the order in which they were made.
use Rattle.std.proofs.Common.{◌≡◌, ℕ, ◌+◌, ◌<◌, ◌^◌, ◌==◌, Bool, true, false, cond, ◌⊎◌, inl, inr, List, [], ◌∷◌, ◌++◌, Option, Some, None, is_some, refl, sym, ap, ◌∙◌, subst}
use Rattle.std.specs.Prelude.{slice_set}
use Rattle.std.specs.List.{AllByRecursion, slice_get}
use Rattle.std.specs.FinMap.{get}
use Rattle.std.proofs.lemmas.Bool.{false≢true, eqb-false}
use Rattle.std.proofs.lemmas.List.{append-nil}
use Rattle.pq_base.specs.declared.value.Value.{Value}
use Rattle.pq_key_code.specs.KeyCode.{row_key}
use Rattle.pq_schema.specs.declared.table.Table.{Table}
use Rattle.pq_content.specs.Pairs.{Pair, content_pairs}
use Rattle.pq_content.specs.Tables.{Rows, row_at}
use Rattle.pq_store.specs.Content.{Content}
use Rattle.pq_index_keep.specs.declared.write.Write.{Write}
use Rattle.pq_index_keep.specs.Sound.{AreWritable, IsWrite}
use Rattle.pq_index_keep.proofs.Inserting.{each_by}
use Rattle.pq_clients.specs.declared.outcome.Outcome.{Outcome}
use Rattle.pq_clients.specs.declared.outcome.Outcome.TheVariants as outcome
use Rattle.pq_clients.specs.declared.outcome.Step.{Step}
use Rattle.pq_clients.specs.declared.outcome.Step.TheVariants as step
use Rattle.pq_clients.specs.declared.outcome.Wrote.{Wrote}
use Rattle.pq_clients.specs.Held.{Cell, Held, cell_of, present_code, held_value}
use Rattle.pq_clients.specs.Flights.{Flight, row_made, table_number, key_written, pair_key, flight_key, old_row, new_code}
use Rattle.pq_clients.specs.Clients.{Checking, Adding, Testing, Putting, Clearing, Freeing, Undoing, Releasing, Next, Reading, Taking, Looking, Flying, View, write_at, is_over}
use Rattle.pq_clients.specs.Steps.{is_just, Then, On, Puts, Ends, is_fault, After, after_call, Fate, Answers, met, stepped}
use Rattle.pq_clients.specs.Runs.{Event, Run, begun, put_by, turned, turn, run}
use Rattle.pq_clients.specs.Present.{rows_after, rows_after_all, writes_named}
use Rattle.pq_clients.specs.Promises.{IsFresh, Begins, EachFits, reached, FitsFound}
use Rattle.pq_clients.specs.Invariant.{FlightFits, NextFits, ViewFits}
use Rattle.pq_clients.proofs.Based.{named_old}
use Rattle.pq_clients.proofs.Basics.{key_apart}
use Rattle.pq_clients.proofs.Begin.{begins_holding}
use Rattle.pq_clients.proofs.Cells.{held_cell}
use Rattle.pq_clients.proofs.Effects.{own_kinds, effect_of, effects, effects-append, row_after, same_bytes, rows_after_effects}
use Rattle.pq_clients.proofs.Leads.{OfNext, put_says, step_of}
use Rattle.pq_clients.proofs.Fewer.{step_writes}
use Rattle.pq_clients.proofs.Made.{Showing, turn_shows, begins_showing, all_named_fit}
use Rattle.pq_clients.proofs.Ofs.{OfView, fresh_of}
use Rattle.pq_clients.proofs.Once.{step_number}
use Rattle.pq_clients.proofs.Shows.{shown_write, shown_writes, made_now, all_named_same, named-append}
use Rattle.pq_clients.proofs.Stays.{found_of}
use Rattle.pq_clients.proofs.CallSteps.{few_at}
use Rattle.pq_clients.proofs.Throughout.{holding}
use Rattle.pq_clients.proofs.Turns.{unbroken_of}
use Rattle.pq_clients.proofs.ByCalls.{call_by, by_call}
use Rattle.pq_clients.proofs.Whole.{Differ, stances_of, own_stance, at_place, set_place, Holding, turn_holds}
use Rattle.pq_clients.proofs.Written.{LostAt, LostHeld, named_here, all_by_place, not_own}

module _ (tables : List Table) where
  -- the row of a write among some rows
  abbrev row_for : Rows → Write → Option (List Value)
  row_for rows w = row_at tables rows (table_number w) (key_written tables w)

  fits_append : (rows : Rows) (xs ys : List Write) → EachFits tables rows xs → EachFits tables (rows_after_all tables rows xs) ys → EachFits tables rows (xs ++ ys)
  fits_append rows [] ys a b = b
  fits_append rows (x ∷ xs) ys a b = (a.0, fits_append (rows_after tables rows x) xs ys a.1 b)

  -- a write leaves the row at another key
  leaves : (t : ℕ) (key : List Value) (w v : Write) (x : Option (List Value)) → IsWrite tables w → IsWrite tables v → (pair_key tables w ≡ pair_key tables v → ⊥) → effect_of tables (table_number w) (key_written tables w) v x ≡ x
  unfolding pair_key
  leaves t key w v x hw hv apart =
      ap (λ b. cond b (row_made v x) x)
      (sym (same_bytes tables (table_number w) (key_written tables w) (own_kinds tables w hw) v hv) ∙ key_apart (row_key (table_number w) (key_written tables w)) (pair_key tables v) apart)

  module _ (sound : AreWritable tables) (others : List ℕ → Option (List ℕ)) (rows : Rows) where
    -- where a client ended at its put, the writes so far leave at its key what it read
    abbrev EndedAt : List Write → View → Type 0
    EndedAt ws u = (f : Flight) → is_some u.over ≡ true → u.next ≡ Flying f Putting → effects tables (table_number f.write) (key_written tables f.write) ws (row_for rows f.write) ≡ old_row tables f

    pub record FitRun (r : Run) : Type 0 where
      pub fits : EachFits tables rows (writes_named r.clients r.puts)
      pub ended : AllByRecursion (EndedAt (writes_named r.clients r.puts)) r.clients
      pub of : AllByRecursion (OfView tables) r.clients
      pub shows : Showing tables sound others rows r

    module _ (r : Run) (h : Holding tables sound others r) (k : FitRun r) (p : ℕ) (v : View) (is : slice_get r.clients p ≡ Some v) (unbroken : v.over ≡ None) where
      abbrev so_far : List Write
      so_far = writes_named r.clients r.puts

      view : ViewFits tables v
      view = at_place (ViewFits tables) r.clients p v h.views is

      at_hand : (f : Flight) → v.next ≡ Flying f Putting → FlightFits tables f × (write_at v.writes v.at ≡ Some f.write)
      at_hand f putting = let x = subst (λ (n : Next). NextFits tables v n) putting view.next in (x.0, x.1)

      -- at its put the writes so far leave at the key what was read
      old_at_put : (f : Flight) → v.next ≡ Flying f Putting → effects tables (table_number f.write) (key_written tables f.write) so_far (row_for rows f.write) ≡ old_row tables f
      unfolding pair_key
      old_at_put f putting =
          let kinds = own_kinds tables f.write (at_hand f putting).0.write in
          named_old tables sound others r.content h.shaped r.clients p v r.puts h.differ is h.views h.good k.shows.kept unbroken Answers
          (table_number f.write) (key_written tables f.write) kinds (row_for rows f.write) (k.shows.made (table_number f.write) (key_written tables f.write) kinds) f putting refl

      -- the client itself
      own_call : (t : Content × Then) → is_some (after_call v t).view.over ≡ true → ((after_call v t).view.next ≡ v.next) × (put_by (after_call v t).step ≡ [])
      own_call (d, On next) e = absurd (false≢true (sym (ap is_some unbroken) ∙ e))
      own_call (d, Puts next) e = absurd (false≢true (sym (ap is_some unbroken) ∙ e))
      own_call (d, Ends o) e = by (is_fault o) e
        where
          by : (b : Bool) → is_some (cond b (record v { over = Some o }) (record v { at = v.at + 1; next = Reading })).over ≡ true → ((cond b (record v { over = Some o }) (record v { at = v.at + 1; next = Reading })).next ≡ v.next) × (◌≡◌ {A = List Wrote} [] [])
          by true e = (refl, refl)
          by false e = absurd (false≢true (sym (ap is_some unbroken) ∙ e))

      own_ended : (t : Content × Then) → EndedAt (so_far ++ writes_named r.clients (put_by (after_call v t).step)) (after_call v t).view
      own_ended t f over putting =
          let o = own_call t over in
          ap (λ (ws : List Wrote). effects tables (table_number f.write) (key_written tables f.write) (so_far ++ writes_named r.clients ws) (row_for rows f.write)) o.1
          ∙ ap (λ (ws : List Write). effects tables (table_number f.write) (key_written tables f.write) ws (row_for rows f.write)) (append-nil so_far)
          ∙ old_at_put f (sym o.0 ∙ putting)

      -- the others, where this one puts
      module _ (f : Flight) (putting : v.next ≡ Flying f Putting) where
        other_ended : (q : ℕ) (u : View) → slice_get r.clients q ≡ Some u → EndedAt (so_far ++ f.write ∷ []) u
        other_ended q u place fu over at_put = by u.over refl over (subst (λ (n : Next). LostAt tables sound r.content u.number u.at u.over n) at_put (at_place (LostHeld tables sound r.content) r.clients q u k.shows.kept place))
          where
            hu : ViewFits tables u
            hu = at_place (ViewFits tables) r.clients q u h.views place

            by : (o : Option Outcome) → u.over ≡ o → is_some o ≡ true → LostAt tables sound r.content u.number u.at o (Flying fu Putting)
                → effects tables (table_number fu.write) (key_written tables fu.write) (so_far ++ f.write ∷ []) (row_for rows fu.write) ≡ old_row tables fu
            by None u_over wrong l = absurd (false≢true wrong)
            by (Some o) u_over some l =
                let apart = not_own tables sound r.content others h.shaped (stances_of tables r.clients) h.good v view unbroken (own_stance tables r.clients p v h.differ is) u hu (own_stance tables r.clients q u h.differ place) o fu Putting u_over at_put l.0 l.1 l.2 f Putting putting in
                let wu = (subst (λ (n : Next). NextFits tables u n) at_put hu.next).0.write in
                effects-append tables (table_number fu.write) (key_written tables fu.write) so_far (f.write ∷ []) (row_for rows fu.write)
                ∙ leaves (table_number fu.write) (key_written tables fu.write) fu.write f.write (effects tables (table_number fu.write) (key_written tables fu.write) so_far (row_for rows fu.write)) wu (at_hand f putting).0.write apart
                ∙ at_place (EndedAt so_far) r.clients q u k.ended place fu over at_put

        put_fits : EachFits tables rows (so_far ++ f.write ∷ [])
        put_fits = fits_append rows so_far (f.write ∷ []) k.fits (
          subst (FitsFound tables f.write) (sym (rows_after_effects tables (table_number f.write) (key_written tables f.write) so_far rows (all_named_fit tables r.clients r.puts h.views) ∙ old_at_put f putting))
              (found_of tables sound f (at_hand f putting).0 of.0),
          tt,
        )
          where
            of : OfNext tables (Flying f Putting)
            of = subst (λ (n : Next). OfNext tables n) putting (at_place (OfView tables) r.clients p v k.of is)

      abbrev Behind : List Wrote → Type 0
      Behind more = EachFits tables rows (so_far ++ writes_named r.clients more) × AllByRecursion (EndedAt (so_far ++ writes_named r.clients more)) r.clients

      none_behind : Behind []
      none_behind = (subst (EachFits tables rows) (sym (append-nil so_far)) k.fits, subst (λ (ws : List Write). AllByRecursion (EndedAt ws) r.clients) (sym (append-nil so_far)) k.ended)

      put_behind : (f : Flight) → v.next ≡ Flying f Putting → Behind (record { client = v.number; number = v.at } ∷ [])
      put_behind f putting = (subst (λ (ws : List Write). EachFits tables rows (so_far ++ ws)) (sym named) (put_fits f putting), subst (λ (ws : List Write). AllByRecursion (EndedAt (so_far ++ ws)) r.clients) (sym named) (all_by_place (EndedAt (so_far ++ f.write ∷ [])) r.clients (other_ended f putting)))
        where
          named : writes_named r.clients (record { client = v.number; number = v.at } ∷ []) ≡ f.write ∷ []
          named = ap (λ (ws : List Write). ws ++ []) (named_here r.clients p v v.at f.write h.differ is (at_hand f putting).1)

      step_behind : (fate : Fate) (s : Step) → (stepped tables v r.content fate).step ≡ s → Behind (put_by s)
      step_behind fate step.Moved says = none_behind
      step_behind fate (step.Put wrote) says = let x = put_says tables v r.content fate wrote says in subst (λ (w : Wrote). Behind (w ∷ [])) (sym x.0) (put_behind x.1.0 x.1.1)
      step_behind fate (step.Tells told) says = none_behind
      step_behind fate step.Over says = none_behind

    after_ended : (r : Run) → Holding tables sound others r → FitRun r → (p : ℕ) (v : View) → slice_get r.clients p ≡ Some v → (fate : Fate)
        → EndedAt (writes_named r.clients r.puts ++ writes_named r.clients (put_by (stepped tables v r.content fate).step)) (stepped tables v r.content fate).view
    after_ended r h k p v is fate = by_call tables v r.content fate (λ (a : After). EndedAt (writes_named r.clients r.puts ++ writes_named r.clients (put_by a.step)) a.view)
        (λ _. subst (λ (ws : List Write). EndedAt ws v) (sym (append-nil (writes_named r.clients r.puts))) (at_place (EndedAt (writes_named r.clients r.puts)) r.clients p v k.ended is))
        (λ going. own_ended r h k p v is (unbroken_of tables sound others v going) (call_by tables v r.content fate))

    any_behind : (r : Run) (h : Holding tables sound others r) (k : FitRun r) (p : ℕ) (v : View) (is : slice_get r.clients p ≡ Some v) (fate : Fate)
        → EachFits tables rows (writes_named r.clients r.puts ++ writes_named r.clients (put_by (stepped tables v r.content fate).step))
        × AllByRecursion (EndedAt (writes_named r.clients r.puts ++ writes_named r.clients (put_by (stepped tables v r.content fate).step))) r.clients
    any_behind r h k p v is fate = by (is_over v) refl
      where
        by : (b : Bool) → is_over v ≡ b → EachFits tables rows (writes_named r.clients r.puts ++ writes_named r.clients (put_by (stepped tables v r.content fate).step))
            × AllByRecursion (EndedAt (writes_named r.clients r.puts ++ writes_named r.clients (put_by (stepped tables v r.content fate).step))) r.clients
        by true over =
            let none : put_by (stepped tables v r.content fate).step ≡ [] = ap (λ b. put_by (cond b (record { content = r.content; view = v; step = step.Over }) (met tables v r.content fate)).step) over in
            let same : writes_named r.clients r.puts ++ writes_named r.clients (put_by (stepped tables v r.content fate).step) ≡ writes_named r.clients r.puts =
            ap (λ (ws : List Wrote). writes_named r.clients r.puts ++ writes_named r.clients ws) none ∙ append-nil (writes_named r.clients r.puts) in
            (subst (EachFits tables rows) (sym same) k.fits, subst (λ (ws : List Write). AllByRecursion (EndedAt ws) r.clients) (sym same) k.ended)
        by false going = step_behind r h k p v is (unbroken_of tables sound others v going) fate (stepped tables v r.content fate).step refl

    turn_fits : (r : Run) (e : Event) (o : Option View) → slice_get r.clients e.place ≡ o → Holding tables sound others r → FitRun r → FitRun (turned tables r e o)
    turn_fits r e None is h k = k
    turn_fits r e (Some v) is h k =
        let a = stepped tables v r.content e.fate in
        let x = any_behind r h k e.place v is e.fate in
        let ws : writes_named r.clients r.puts ++ writes_named r.clients (put_by a.step) ≡ writes_named (slice_set r.clients e.place a.view) (r.puts ++ put_by a.step) =
        sym (all_named_same r.clients e.place v a.view (r.puts ++ put_by a.step) is (step_number tables v r.content e.fate) (step_writes tables v r.content e.fate) ∙ named-append r.clients r.puts (put_by a.step)) in
        record {
          fits = subst (EachFits tables rows) ws x.0;
          ended = subst (λ (ws : List Write). AllByRecursion (EndedAt ws) (slice_set r.clients e.place a.view)) ws
              (set_place (EndedAt (writes_named r.clients r.puts ++ writes_named r.clients (put_by a.step))) r.clients e.place a.view x.1 (after_ended r h k e.place v is e.fate));
          of = set_place (OfView tables) r.clients e.place a.view k.of (step_of tables v r.content e.fate (at_place (OfView tables) r.clients e.place v k.of is));
          shows = turn_shows tables sound others rows r e (Some v) is h k.shows;
        }

    pub run_fits : (es : List Event) (r : Run) → Holding tables sound others r → FitRun r → FitRun (run tables r es)
    run_fits [] r h k = k
    run_fits (e ∷ es) r h k = run_fits es (turn tables r e) (turn_holds tables sound others r e h) (turn_fits r e (slice_get r.clients e.place) refl h k)

    -- ---- the writes that failed at their put and show

    -- the client's put finds what was read
    abbrev Finds : Rows → View → Type 0
    Finds now u = (f : Flight) → u.over ≡ Some outcome.Failed → u.next ≡ Flying f Putting → IsWrite tables f.write × FitsFound tables f.write (row_for now f.write)

    -- no two of them are at one key
    abbrev KeyApart : View → View → Type 0
    KeyApart u w = (f g : Flight) → u.over ≡ Some outcome.Failed → u.next ≡ Flying f Putting → w.over ≡ Some outcome.Failed → w.next ≡ Flying g Putting → flight_key tables g ≡ flight_key tables f → ⊥

    abbrev KeysApart : List View → Type 0
    KeysApart [] = Unit {0}
    KeysApart (u ∷ us) = AllByRecursion (KeyApart u) us × KeysApart us

    after_finds : (now : Rows) (u : View) (f : Flight) → u.over ≡ Some outcome.Failed → u.next ≡ Flying f Putting → IsWrite tables f.write → (us : List View) → AllByRecursion (KeyApart u) us → AllByRecursion (Finds now) us → AllByRecursion (Finds (rows_after tables now f.write)) us
    after_finds now u f failed putting write [] apart all = tt
    after_finds now u f failed putting write (w ∷ us) apart all = (
      λ g over at_put. let x = all.0 g over at_put in (
        x.0,
        subst (FitsFound tables g.write) (sym (row_after tables (table_number g.write) (key_written tables g.write) now f.write write
            ∙ leaves (table_number g.write) (key_written tables g.write) g.write f.write (row_for now g.write) x.0 write (apart.0 f g failed putting over at_put))) x.1,
      ),
      after_finds now u f failed putting write us apart.1 all.1,
    )

    -- a client shows nothing, or the write of the put at which it failed
    abbrev ShowsOne : Content → Option Outcome → Next → Type 0
    ShowsOne c over next = (shown_write tables c over next ≡ []) ⊎ ((f : Flight) × (over ≡ Some outcome.Failed) × (next ≡ Flying f Putting) × (shown_write tables c over next ≡ f.write ∷ []))

    shows_one : (c : Content) (over : Option Outcome) (next : Next) → ShowsOne c over next
    shows_one c None next = inl refl
    shows_one c (Some outcome.Done) next = inl refl
    shows_one c (Some (outcome.Refused why)) next = inl refl
    shows_one c (Some (outcome.Busy found)) next = inl refl
    shows_one c (Some (outcome.Conflict read found)) next = inl refl
    shows_one c (Some outcome.Failed) Reading = inl refl
    shows_one c (Some outcome.Failed) (Taking f) = inl refl
    shows_one c (Some outcome.Failed) (Looking f) = inl refl
    shows_one c (Some outcome.Failed) (Flying f (Checking check left)) = inl refl
    shows_one c (Some outcome.Failed) (Flying f (Adding entry left added)) = inl refl
    shows_one c (Some outcome.Failed) (Flying f (Testing place left passed)) = inl refl
    shows_one c (Some outcome.Failed) (Flying f Putting) = by (is_just (new_code tables f) (present_code (get c (flight_key tables f)))) refl
      where
        by : (b : Bool) → is_just (new_code tables f) (present_code (get c (flight_key tables f))) ≡ b → ShowsOne c (Some outcome.Failed) (Flying f Putting)
        by true e = inr (f, refl, refl, ap (λ b. cond b (f.write ∷ []) []) e)
        by false e = inl (ap (λ b. cond b (f.write ∷ []) []) e)
    shows_one c (Some outcome.Failed) (Flying f (Clearing entry left)) = inl refl
    shows_one c (Some outcome.Failed) (Flying f Freeing) = inl refl
    shows_one c (Some outcome.Failed) (Flying f (Undoing entry left why)) = inl refl
    shows_one c (Some outcome.Failed) (Flying f (Releasing why)) = inl refl
    shows_one c (Some outcome.NoMem) next = inl refl
    shows_one c (Some (outcome.Damaged damage)) next = inl refl

    one_fits : (c : Content) (u : View) (us : List View) (now : Rows) → AllByRecursion (KeyApart u) us → Finds now u → AllByRecursion (Finds now) us
        → ((later : Rows) → AllByRecursion (Finds later) us → EachFits tables later (shown_writes tables c us)) → EachFits tables now (shown_write tables c u.over u.next ++ shown_writes tables c us)
    one_fits c u us now apart own all rest = by (shows_one c u.over u.next)
      where
        by : ShowsOne c u.over u.next → EachFits tables now (shown_write tables c u.over u.next ++ shown_writes tables c us)
        by (inl none) = subst (λ (ws : List Write). EachFits tables now (ws ++ shown_writes tables c us)) (sym none) (rest now all)
        by (inr x) =
            let o = own x.0 x.1 x.2 in
            subst (λ (ws : List Write). EachFits tables now (ws ++ shown_writes tables c us)) (sym x.3) (o.1, rest (rows_after tables now x.0.write) (after_finds now u x.0 x.1 x.2 o.0 us apart all))

    shown_fits : (c : Content) (us : List View) (now : Rows) → KeysApart us → AllByRecursion (Finds now) us → EachFits tables now (shown_writes tables c us)
    shown_fits c [] now apart all = tt
    shown_fits c (u ∷ us) now apart all = one_fits c u us now apart.0 all.0 all.1 (λ later found. shown_fits c us later apart.1 found)

    -- two clients that failed at their puts hold their keys
    module _ (c : Content) where
      held_at : (u : View) → LostHeld tables sound c u → (f : Flight) → u.over ≡ Some outcome.Failed → u.next ≡ Flying f Putting → LostAt tables sound c u.number u.at (Some outcome.Failed) (Flying f Putting)
      held_at u l f over putting =
          subst (λ (o : Option Outcome). LostAt tables sound c u.number u.at o (Flying f Putting)) over (subst (λ (n : Next). LostAt tables sound c u.number u.at u.over n) putting l)

      few : (u : View) → ViewFits tables u → (f : Flight) → u.next ≡ Flying f Putting → u.at < 2 ^ 32
      few u h f putting = few_at tables sound others u f.write h (subst (λ (n : Next). NextFits tables u n) putting h.next).1

      same_holder : (i m : ℕ) (p : Option (List ℕ)) (j n : ℕ) (q : Option (List ℕ)) → ◌≡◌ {A = Cell} (Held i m p) (Held j n q) → i ≡ j
      same_holder i m p j n q e = cc

      same_value : (x y : List ℕ) → ◌≡◌ {A = Option (List ℕ)} (Some x) (Some y) → x ≡ y
      same_value x y e = cc

      key_apart_of : (u w : View) → (u.number == w.number) ≡ false → ViewFits tables u → ViewFits tables w → LostHeld tables sound c u → LostHeld tables sound c w → KeyApart u w
      key_apart_of u w apart hu hw lu lw f g u_over u_next w_over w_next same =
          let a = held_at u lu f u_over u_next in
          let b = held_at w lw g w_over w_next in
          let bytes : held_value u.number u.at a.0 ≡ held_value w.number w.at b.0 = same_value (held_value u.number u.at a.0) (held_value w.number w.at b.0) (sym a.2 ∙ ap (get c) (sym same) ∙ b.2) in
          eqb-false u.number w.number apart (same_holder u.number u.at a.0 w.number w.at b.0
          (sym (held_cell tables (flight_key tables f) u.number u.at a.0 hu.small (few u hu f u_next) a.1) ∙ ap cell_of bytes ∙ held_cell tables (flight_key tables g) w.number w.at b.0 hw.small (few w hw g w_next) b.1))

      each_apart : (u : View) → ViewFits tables u → LostHeld tables sound c u → (us : List View) → AllByRecursion (λ (w : View). (u.number == w.number) ≡ false) us → AllByRecursion (ViewFits tables) us → AllByRecursion (LostHeld tables sound c) us → AllByRecursion (KeyApart u) us
      each_apart u hu lu [] d h l = tt
      each_apart u hu lu (w ∷ us) d h l = (key_apart_of u w d.0 hu h.0 lu l.0, each_apart u hu lu us d.1 h.1 l.1)

      keys_apart : (us : List View) → Differ us → AllByRecursion (ViewFits tables) us → AllByRecursion (LostHeld tables sound c) us → KeysApart us
      keys_apart [] d h l = tt
      keys_apart (u ∷ us) d h l = (each_apart u h.0 l.0 us d.0 h.1 l.1, keys_apart us d.1 h.1 l.1)

    pub made_fits : (r : Run) → Holding tables sound others r → FitRun r → EachFits tables rows (made_now tables r)
    made_fits r h k = fits_append rows (writes_named r.clients r.puts) (shown_writes tables r.content r.clients) k.fits
        (shown_fits r.content r.clients (rows_after_all tables rows (writes_named r.clients r.puts)) (keys_apart r.content r.clients h.differ h.views k.shows.kept)
        (all_by_place (Finds (rows_after_all tables rows (writes_named r.clients r.puts))) r.clients finds))
      where
        finds : (p : ℕ) (u : View) → slice_get r.clients p ≡ Some u → Finds (rows_after_all tables rows (writes_named r.clients r.puts)) u
        finds p u is f failed putting =
            let fits = (subst (λ (n : Next). NextFits tables u n) putting (at_place (ViewFits tables) r.clients p u h.views is).next).0 in
            let of = subst (λ (n : Next). OfNext tables n) putting (at_place (OfView tables) r.clients p u k.of is) in (
              fits.write,
              subst (FitsFound tables f.write) (sym (rows_after_effects tables (table_number f.write) (key_written tables f.write) (writes_named r.clients r.puts) rows (all_named_fit tables r.clients r.puts h.views)
                  ∙ at_place (EndedAt (writes_named r.clients r.puts)) r.clients p u k.ended is f (ap is_some failed) putting))
                  (found_of tables sound f fits of.0),
            )

-- ---- from the beginning
module _ (tables : List Table) (rows : Rows) (pairs : List Pair) (clients : List View) (b : Begins tables rows pairs clients) (events : List Event) where
  abbrev c0 : Content
  c0 = content_pairs tables rows pairs

  none_ended : (vs : List View) → AllByRecursion (IsFresh tables) vs → AllByRecursion (EndedAt tables b.sound (get c0) rows []) vs
  none_ended [] all = tt
  none_ended (v ∷ vs) all = (λ f over putting. let wrong : Reading ≡ Flying f Putting = sym (ap (λ (v : View). v.next) all.0.fresh) ∙ putting in absurd (cc), none_ended vs all.1)

  pub each_fits : EachFits tables rows (made_now tables (reached tables rows pairs clients events))
  each_fits =
      let begins = begins_holding tables rows pairs clients b in
      let fresh = each_by (IsFresh tables) clients b.fresh.each in
      let r = reached tables rows pairs clients events in
      made_fits tables b.sound (get c0) rows r (holding tables rows pairs clients b events)
      (run_fits tables b.sound (get c0) rows events (begun c0 clients) begins (record { fits = tt; ended = none_ended clients fresh; of = fresh_of tables clients fresh; shows = begins_showing tables rows pairs clients b }))
