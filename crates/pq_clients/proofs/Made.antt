-- The present tables after every schedule, as rows.
use Rattle.std.proofs.Common.{◌≡◌, ℕ, zero, suc, ◌+◌, ◌-◌, ◌==◌, true, false, cond, List, [], ◌∷◌, ◌++◌, Option, Some, None, refl, sym, ap, ◌∙◌, subst}
use Rattle.std.specs.Prelude.{All, option_and_then, option_map, slice_set}
use Rattle.std.specs.List.{AllByRecursion, slice_get}
use Rattle.std.specs.FinMap.{get}
use Rattle.std.proofs.lemmas.List.{append-nil}
use Rattle.pq_base.specs.declared.value.Value.{Value}
use Rattle.pq_key_code.specs.KeyCode.{row_key}
use Rattle.pq_schema.specs.declared.table.Table.{Table}
use Rattle.pq_schema.specs.Tables.{table_at}
use Rattle.pq_content.specs.Pairs.{Pair, content_pairs}
use Rattle.pq_content.specs.Tables.{Rows, AllOfKinds, IsTableNumber, key_types, row_at, stored_code}
use Rattle.pq_content.proofs.Gets.{get_row}
use Rattle.pq_content.proofs.Keeping.{row_found}
use Rattle.pq_store.specs.Content.{Content}
use Rattle.pq_index_keep.specs.declared.write.Write.{Write}
use Rattle.pq_index_keep.specs.Sound.{AreWritable, IsWrite}
use Rattle.pq_index_keep.proofs.Inserting.{each_by}
use Rattle.pq_clients.specs.declared.outcome.Outcome.{Outcome}
use Rattle.pq_clients.specs.declared.outcome.Outcome.TheVariants as outcome
use Rattle.pq_clients.specs.declared.outcome.Step.TheVariants as step
use Rattle.pq_clients.specs.declared.outcome.Wrote.{Wrote}
use Rattle.pq_clients.specs.Held.{present_in, present_code, decoded_row}
use Rattle.pq_clients.specs.Flights.{new_code, flight_key}
use Rattle.pq_clients.specs.Clients.{Checking, Adding, Testing, Putting, Clearing, Freeing, Undoing, Releasing, Next, Reading, Taking, Looking, Flying, View, write_at, is_over}
use Rattle.pq_clients.specs.Steps.{is_just, Then, On, Puts, Ends, gone_on, is_fault, After, after_call, Fate, Answers, NotDone, DoneUnseen, NoMemory, met}
use Rattle.pq_clients.specs.Runs.{Event, Run, begun, put_by, turned, turn, run, with_step}
use Rattle.pq_clients.specs.Present.{present_rows, found_write, write_named, writes_named, rows_after_all}
use Rattle.pq_clients.specs.Promises.{IsFresh, Begins, reached}
use Rattle.pq_clients.specs.Invariant.{IsRowAt, NextFits, ViewFits}
use Rattle.pq_clients.proofs.Cells.{free_cell, row_decodes}
use Rattle.pq_clients.proofs.Once.{all_both}
use Rattle.pq_clients.proofs.Effects.{effects, rows_after_effects}
use Rattle.pq_clients.proofs.Shaped.{all_at, write_place}
use Rattle.pq_clients.proofs.Turns.{unbroken_of, stepped_kept}
use Rattle.pq_clients.proofs.Shows.{all_named_same, shown_write, shown_writes, made_now}
use Rattle.pq_clients.proofs.Whole.{stances_of, own_stance, at_place, set_place, are_passed, Holding, turn_holds, run_holds}
use Rattle.pq_clients.proofs.Written.{LostHeld}
use Rattle.pq_clients.proofs.Based.{met_based, others_kept}
use Rattle.pq_clients.proofs.AtKeys.{present_row_at}
use Rattle.pq_clients.proofs.Begin.{begins_holding}

module _ (tables : List Table) (sound : AreWritable tables) (others : List ℕ → Option (List ℕ)) where
  abbrev row_of : ℕ → Option (List ℕ) → Option (List Value)
  row_of t code = option_and_then (decoded_row (table_at tables t)) code

  pub record Showing (rows : Rows) (r : Run) : Type 0 where
    pub kept : AllByRecursion (LostHeld tables sound r.content) r.clients
    pub made : (t : ℕ) (key : List Value) → AllOfKinds (key_types (table_at tables t)) key
        → effects tables t key (made_now tables r) (row_at tables rows t key) ≡ row_of t (present_code (get r.content (row_key t key)))

  call_writes : (v : View) (t : Content × Then) → (after_call v t).view.writes ≡ v.writes
  call_writes v (c, On next) = refl
  call_writes v (c, Puts next) = refl
  call_writes v (c, Ends o) = elim (is_fault o) as (λ b. (cond b (record v { over = Some o }) (record v { at = v.at + 1; next = Reading })).writes ≡ v.writes) [ true ↦ refl | false ↦ refl ]

  met_writes : (v : View) (c : Content) (fate : Fate) → (met tables v c fate).view.writes ≡ v.writes
  met_writes v c Answers = call_writes v (gone_on tables v v.next c)
  met_writes v c NotDone = refl
  met_writes v c DoneUnseen = refl
  met_writes v c NoMemory = refl

  pub turn_shows : (rows : Rows) (r : Run) (e : Event) (o : Option View) → slice_get r.clients e.place ≡ o → Holding tables sound others r → Showing rows r → Showing rows (turned tables r e o)
  turn_shows rows r e None is h s = s
  turn_shows rows r e (Some v) is h s =
      elim (is_over v) as (λ b. is_over v ≡ b → Showing rows (with_step r e.place (cond b (record { content = r.content; view = v; step = step.Over }) (met tables v r.content e.fate)))) [
        | true ↦ λ _. record {
          kept = set_place (LostHeld tables sound r.content) r.clients e.place v s.kept (at_place (LostHeld tables sound r.content) r.clients e.place v s.kept is);
          made = λ t key kinds.
              ap (λ (ws : List Write). effects tables t key (ws ++ shown_writes tables r.content (slice_set r.clients e.place v)) (row_at tables rows t key)) (all_named_same r.clients e.place v v (r.puts ++ []) is refl refl ∙ ap (writes_named r.clients) (append-nil r.puts))
              ∙ ap (λ (vs : List View). effects tables t key (writes_named r.clients r.puts ++ shown_writes tables r.content vs) (row_at tables rows t key)) (set_itself r.clients e.place v is)
              ∙ s.made t key kinds;
        }
        | false ↦ λ over.
            let unbroken = unbroken_of tables sound others v over in
            let a = met tables v r.content e.fate in
            let based = met_based tables sound others r.content h.shaped r.clients e.place v r.puts h.differ is h.views h.good s.kept unbroken e.fate in
            let k = stepped_kept tables sound others r.content (stances_of tables r.clients) h.shaped h.good (are_passed tables r.clients h.views) v (at_place (ViewFits tables) r.clients e.place v h.views is) (own_stance tables r.clients e.place v h.differ is) e.fate in
            let number : a.view.number ≡ v.number = subst (λ (x : After). x.view.number ≡ v.number) (ap (λ b. cond b (record { content = r.content; view = v; step = step.Over }) (met tables v r.content e.fate)) over) k.number in
            record {
              kept = set_place (LostHeld tables sound a.content) r.clients e.place a.view (others_kept tables sound others r.content h.shaped r.clients e.place v r.puts h.differ is h.views h.good s.kept unbroken e.fate) based.kept;
              made = λ t key kinds.
                  ap (λ (ws : List Write). effects tables t key (ws ++ shown_writes tables a.content (slice_set r.clients e.place a.view)) (row_at tables rows t key)) (all_named_same r.clients e.place v a.view (r.puts ++ put_by a.step) is number (met_writes v r.content e.fate))
                  ∙ based.rows t key kinds (row_at tables rows t key) (s.made t key kinds);
            }
      ] refl
    where
      set_itself : (vs : List View) (p : ℕ) (v : View) → slice_get vs p ≡ Some v → slice_set vs p v ≡ vs
      set_itself [] p v is = refl
      set_itself (x ∷ vs) zero v is = let here : x ≡ v = cc in ap (λ (v : View). v ∷ vs) (sym here)
      set_itself (x ∷ vs) (suc p) v is = ap (λ (ws : List View). x ∷ ws) (set_itself vs p v is)

  pub run_shows : (rows : Rows) (es : List Event) (r : Run) → Holding tables sound others r → Showing rows r → Showing rows (run tables r es)
  run_shows rows [] r h s = s
  run_shows rows (e ∷ es) r h s = run_shows rows es (turn tables r e) (turn_holds tables sound others r e h) (turn_shows rows r e (slice_get r.clients e.place) refl h s)

-- ---- all of the writes are those that reading gives
module _ (tables : List Table) where
  found_write_fits : (ws : List Write) (n : ℕ) → All (IsWrite tables) ws → AllByRecursion (IsWrite tables) (found_write (write_at ws n))
  found_write_fits ws n all = by (write_at ws n) refl
    where
      by : (o : Option Write) → write_at ws n ≡ o → AllByRecursion (IsWrite tables) (found_write o)
      by None is = tt
      by (Some w) is = (all_at (IsWrite tables) ws (n - 1) w all (write_place ws n w is), tt)

  named_fits : (vs : List View) (wrote : Wrote) → AllByRecursion (ViewFits tables) vs → AllByRecursion (IsWrite tables) (write_named vs wrote)
  named_fits [] wrote all = tt
  named_fits (v ∷ vs) wrote all = elim (v.number == wrote.client) as (λ b. AllByRecursion (IsWrite tables) (cond b (found_write (write_at v.writes wrote.number)) (write_named vs wrote))) [
    | true ↦ found_write_fits v.writes wrote.number all.0.writes
    | false ↦ named_fits vs wrote all.1
  ]

  pub all_named_fit : (vs : List View) (puts : List Wrote) → AllByRecursion (ViewFits tables) vs → AllByRecursion (IsWrite tables) (writes_named vs puts)
  all_named_fit vs [] all = tt
  all_named_fit vs (x ∷ puts) all = all_both (IsWrite tables) (write_named vs x) (writes_named vs puts) (named_fits vs x all) (all_named_fit vs puts all)

  shown_fits : (c : Content) (v : View) (over : Option Outcome) (next : Next) → NextFits tables v next → AllByRecursion (IsWrite tables) (shown_write tables c over next)
  shown_fits c v None next h = tt
  shown_fits c v (Some outcome.Done) next h = tt
  shown_fits c v (Some (outcome.Refused why)) next h = tt
  shown_fits c v (Some (outcome.Busy found)) next h = tt
  shown_fits c v (Some (outcome.Conflict read found)) next h = tt
  shown_fits c v (Some outcome.Failed) Reading h = tt
  shown_fits c v (Some outcome.Failed) (Taking f) h = tt
  shown_fits c v (Some outcome.Failed) (Looking f) h = tt
  shown_fits c v (Some outcome.Failed) (Flying f (Checking check left)) h = tt
  shown_fits c v (Some outcome.Failed) (Flying f (Adding entry left added)) h = tt
  shown_fits c v (Some outcome.Failed) (Flying f (Testing place left passed)) h = tt
  shown_fits c v (Some outcome.Failed) (Flying f Putting) h =
      elim (is_just (new_code tables f) (present_code (get c (flight_key tables f)))) as (λ b. AllByRecursion (IsWrite tables) (cond b (f.write ∷ []) [])) [ true ↦ (h.0.write, tt) | false ↦ tt ]
  shown_fits c v (Some outcome.Failed) (Flying f (Clearing entry left)) h = tt
  shown_fits c v (Some outcome.Failed) (Flying f Freeing) h = tt
  shown_fits c v (Some outcome.Failed) (Flying f (Undoing entry left why)) h = tt
  shown_fits c v (Some outcome.Failed) (Flying f (Releasing why)) h = tt
  shown_fits c v (Some outcome.NoMem) next h = tt
  shown_fits c v (Some (outcome.Damaged damage)) next h = tt

  pub all_shown_fit : (c : Content) (vs : List View) → AllByRecursion (ViewFits tables) vs → AllByRecursion (IsWrite tables) (shown_writes tables c vs)
  all_shown_fit c [] all = tt
  all_shown_fit c (v ∷ vs) all = all_both (IsWrite tables) (shown_write tables c v.over v.next) (shown_writes tables c vs) (shown_fits c v v.over v.next all.0.next) (all_shown_fit c vs all.1)

  -- ---- from the beginning
  module _ (rows : Rows) (pairs : List Pair) (clients : List View) (b : Begins tables rows pairs clients) where
    abbrev c0 : Content
    c0 = content_pairs tables rows pairs

    fresh : (vs : List View) → AllByRecursion (IsFresh tables) vs → AllByRecursion (LostHeld tables b.sound c0) vs × (shown_writes tables c0 vs ≡ [])
    fresh [] all = (tt, refl)
    fresh (v ∷ vs) all =
        let rest = fresh vs all.1 in
        ((subst (λ (w : View). LostHeld tables b.sound c0 w) (sym all.0.fresh) tt, rest.0), ap (λ (w : View). shown_write tables c0 w.over w.next ++ shown_writes tables c0 vs) all.0.fresh ∙ rest.1)

    begins_row : (t : ℕ) (key : List Value) → AllOfKinds (key_types (table_at tables t)) key → row_at tables rows t key ≡ row_of tables b.sound (get c0) t (present_code (get c0 (row_key t key)))
    begins_row t key kinds = by (row_at tables rows t key) refl
      where
        got : get c0 (row_key t key) ≡ option_map (stored_code (table_at tables t)) (row_at tables rows t key)
        got = get_row tables rows pairs t key b.keeps.fit kinds b.beside

        by : (o : Option (List Value)) → row_at tables rows t key ≡ o → row_at tables rows t key ≡ row_of tables b.sound (get c0) t (present_code (get c0 (row_key t key)))
        by None is = is ∙ sym (ap (λ (x : Option (List ℕ)). row_of tables b.sound (get c0) t (present_code x)) (got ∙ ap (option_map (stored_code (table_at tables t))) is))
        by (Some row) is =
            let found = row_found tables rows t key row b.keeps is in
            let at : IsRowAt tables (row_key t key) (stored_code (table_at tables t) row) = record { table = t; row = row; number = found.number; fits = found.fits; short = found.short; code_is = refl; key_is = ap (row_key t) found.key_is } in
            is ∙ sym (ap (λ (x : Option (List ℕ)). row_of tables b.sound (get c0) t (present_code x)) (got ∙ ap (option_map (stored_code (table_at tables t))) is)
            ∙ ap (λ (p : Option (List ℕ)). row_of tables b.sound (get c0) t p) (ap present_in (free_cell tables (row_key t key) (stored_code (table_at tables t) row) b.sound at))
            ∙ row_decodes tables t row b.sound found.number found.fits)

    pub begins_showing : Showing tables b.sound (get c0) rows (begun c0 clients)
    begins_showing =
        let f = fresh clients (each_by (IsFresh tables) clients b.fresh.each) in
        record {
          kept = f.0;
          made = λ t key kinds. ap (λ (ws : List Write). effects tables t key ws (row_at tables rows t key)) f.1 ∙ begins_row t key kinds;
        }

    -- the present tables are those at entry, changed by the writes
    pub present_made : (events : List Event) (t : ℕ) (key : List Value) → IsTableNumber tables t → AllOfKinds (key_types (table_at tables t)) key
        → row_at tables (present_rows tables (reached tables rows pairs clients events).content) t key
        ≡ row_at tables (rows_after_all tables rows (made_now tables (reached tables rows pairs clients events))) t key
    present_made events t key number kinds =
        let begins = begins_holding tables rows pairs clients b in
        let r = reached tables rows pairs clients events in
        let holds = run_holds tables b.sound (get c0) events (begun c0 clients) begins in
        let shows = run_shows tables b.sound (get c0) rows events (begun c0 clients) begins begins_showing in
        present_row_at tables b.sound (get c0) r.content holds.shaped t key kinds
        ∙ sym (shows.made t key kinds)
        ∙ sym (rows_after_effects tables t key (made_now tables r) rows (all_both (IsWrite tables) (writes_named r.clients r.puts) (shown_writes tables r.content r.clients) (all_named_fit r.clients r.puts holds.views) (all_shown_fit r.content r.clients holds.views)))
