-- What is told has its reason, and no damage is found.
use Rattle.std.proofs.Common.{◌≡◌, ℕ, ◌<◌, ◌==◌, Bool, true, false, cond, not, ◌&&◌, inl, inr, List, [], ◌∷◌, length, take, drop, Option, Some, None, is_some, refl, sym, ap, ◌∙◌, subst, arith}
use Rattle.std.specs.Prelude.{nat_lt, position, option_map, is_none}
use Rattle.std.specs.List.{AllByRecursion, slice_get, find}
use Rattle.std.specs.FinMap.{get}
use Rattle.std.specs.Int.{w32, from_be_bytes}
use Rattle.std.proofs.lemmas.Bool.{false≢true, eqb-true}
use Rattle.std.proofs.lemmas.Bool.Decides.{nat_tests}
use Rattle.pq_base.specs.declared.refusal.Refusal.{Refusal}
use Rattle.pq_base.specs.declared.refusal.Refusal.TheVariants as refusal
use Rattle.pq_base.specs.declared.value.Value.{Value}
use Rattle.pq_schema.specs.declared.table.Table.{Table}
use Rattle.pq_schema.specs.Tables.{table_at}
use Rattle.pq_content.specs.Tables.{stored_code}
use Rattle.pq_store.specs.Content.{Content, written_content}
use Rattle.pq_index_keep.specs.Sound.{AreWritable}
use Rattle.pq_index_keep.specs.declared.write.Write.{Write}
use Rattle.pq_index_keep.specs.declared.write.Write.TheVariants as write
use Rattle.pq_clients.specs.declared.outcome.Outcome.{Outcome}
use Rattle.pq_clients.specs.declared.outcome.Outcome.TheVariants as outcome
use Rattle.pq_clients.specs.declared.outcome.Step.{Step}
use Rattle.pq_clients.specs.declared.outcome.Step.TheVariants as step
use Rattle.pq_clients.specs.Held.{decoded_row, something, Cell, Free, Held, cell_of, is_held_value, held_value, present_in}
use Rattle.pq_clients.specs.Flights.{row_made, table_number, table_of, pair_key, Flight, Parent, Child, flight_table, flight_key, new_code, fresh_entries, stale_entries, check_refusal, test_refusal, flight_checks, row_refusal, sets_of, conds_of}
use Rattle.pq_clients.specs.Clients.{Stage, Checking, Adding, Testing, Putting, Clearing, Freeing, Undoing, Releasing, Next, Reading, Taking, Looking, Flying, View, write_at, is_over}
use Rattle.pq_clients.specs.Steps.{is_just, taking_short, after_row, after_code, after_cell, after_read, read_on, is_row_or_none, is_held_by_other, Then, On, Puts, Ends, testing, checking, clearing, undoing, passes, has_room, refused, damaged, if_own, flown, gone_on, after_call, Fate, Answers, NotDone, DoneUnseen, NoMemory, met, stepped}
use Rattle.pq_clients.specs.Runs.{Event, Run, turned, turn, run}
use Rattle.pq_clients.specs.Invariant.{Stance, Idle, Holds, stance_at, stance_of, hold_of, cell_at, IsRowAt, MayStandAt, IsHolder, HeldWell, Good, ViewFits, IsShaped}
use Rattle.pq_clients.specs.Promises.{IsFresh, Reads, ReadsRow, HasReason, is_insert, TellsOutcome, WillTell, ShowsRefusal, is_of_test}
use Rattle.pq_clients.proofs.Basics.{cell_is}
use Rattle.pq_clients.proofs.Cells.{row_decodes}
use Rattle.pq_clients.proofs.Coded.{key_space, key_number, row_of_code}
use Rattle.pq_clients.proofs.Flying.{ArePassed}
use Rattle.pq_clients.proofs.Shaped.{free_is}
use Rattle.pq_clients.proofs.CallSteps.{own_just}
use Rattle.pq_clients.proofs.Turns.{unbroken_of}
use Rattle.pq_clients.proofs.Whole.{at_place, set_place}
use Rattle.pq_clients.proofs.Causes.{turns_shown}
use Rattle.pq_clients.proofs.Granting.{refused_or}
use Rattle.pq_index_keep.specs.Effects.{condition_refusal, sum_refusal, unmet, no_sum}
use Rattle.pq_index_keep.specs.Tested.{holds_of, set_value}
use Rattle.pq_index_keep.specs.declared.write.SetCol.{SetCol}
use Rattle.pq_base.specs.Answers.{or_else}

-- ---- the refusals of tests

-- what a step is on its way to tell is the refusal of a test
abbrev pub TellsTests : Next → Type 0
TellsTests next = (f : Flight) (stage : Stage) (why : Refusal) → next ≡ Flying f stage → WillTell stage why → is_of_test why ≡ true

module _ (tables : List Table) where
  shown_test : (c : Content) (f : Flight) (stage : Stage) (why : Refusal) → ShowsRefusal tables c f stage why → is_of_test why ≡ true
  shown_test c f (Checking (Parent place u at) left) why h = ap is_of_test h.1
  shown_test c f (Checking (Child u place front) left) why h = ap is_of_test h.1
  shown_test c f (Adding entry left added) why h = absurd h
  shown_test c f (Testing place left passed) why h = ap is_of_test h.1
  shown_test c f Putting why h = absurd h
  shown_test c f (Clearing entry left) why h = absurd h
  shown_test c f Freeing why h = absurd h
  shown_test c f (Undoing entry left r) why h = absurd h
  shown_test c f (Releasing r) why h = absurd h

  pub step_tests : (v : View) (c : Content) (fate : Fate) → TellsTests v.next → TellsTests (stepped tables v c fate).view.next
  step_tests v c fate h f stage why is tell =
      let t = turns_shown tables v c fate f stage why is tell in
      elim t.2 [ inl before ↦ h f t.0 why t.1 before | inr shows ↦ shown_test c f t.0 why shows.2 ]

  turn_tests : (r : Run) (e : Event) (o : Option View) → slice_get r.clients e.place ≡ o → AllByRecursion (λ (v : View). TellsTests v.next) r.clients → AllByRecursion (λ (v : View). TellsTests v.next) (turned tables r e o).clients
  turn_tests r e None is all = all
  turn_tests r e (Some v) is all =
      set_place (λ (v : View). TellsTests v.next) r.clients e.place (stepped tables v r.content e.fate).view all
      (step_tests v r.content e.fate (at_place (λ (v : View). TellsTests v.next) r.clients e.place v all is))

  pub run_tests : (es : List Event) (r : Run) → AllByRecursion (λ (v : View). TellsTests v.next) r.clients → AllByRecursion (λ (v : View). TellsTests v.next) (run tables r es).clients
  run_tests [] r all = all
  run_tests (e ∷ es) r all = run_tests es (turn tables r e) (turn_tests r e (slice_get r.clients e.place) refl all)

  fresh_next : (next : Next) → next ≡ Reading → TellsTests next
  fresh_next next is f stage why flying tell = let wrong : Reading ≡ Flying f stage = sym is ∙ flying in absurd (cc)

  pub fresh_tests : (vs : List View) → AllByRecursion (IsFresh tables) vs → AllByRecursion (λ (v : View). TellsTests v.next) vs
  fresh_tests [] all = tt
  fresh_tests (v ∷ vs) all = (fresh_next v.next (ap (λ (v : View). v.next) all.0.fresh), fresh_tests vs all.1)

  -- ---- what the steps tell

  module _ (sound : AreWritable tables) (others : List ℕ → Option (List ℕ)) (c : Content) (stances : ℕ → Stance) (shape : IsShaped tables c others) (g : Good tables c stances) (passed : ArePassed tables stances) where
    module _ (v : View) (h : ViewFits tables v) (is : stances v.number ≡ stance_of tables v) (late : TellsTests v.next) where
      -- it goes on, or ends with a reason
      abbrev Reasoned : Then → Type 0
      Reasoned (On next) = Unit {0}
      Reasoned (Puts next) = Unit {0}
      Reasoned (Ends o) = HasReason tables v c o

      if_reasoned : (b : Bool) (t u : Then) → Reasoned t → Reasoned u → Reasoned (cond b t u)
      if_reasoned true t u a b = a
      if_reasoned false t u a b = b

      -- ---- a read
      stored_there : (w : Write) (code : List ℕ) (at : IsRowAt tables (pair_key tables w) code) → decoded_row (table_of tables w) code ≡ Some at.row
      stored_there w code at =
          let same : table_number w ≡ at.table = sym (key_number tables w) ∙ (row_of_code tables sound (pair_key tables w) code at).0 in
          ap (λ (t : ℕ). decoded_row (table_at tables t) code) same
          ∙ subst (λ (code : List ℕ). decoded_row (table_at tables at.table) code ≡ Some at.row) at.code_is (row_decodes tables at.table at.row sound at.number at.fits)

      long_reason : (w : Write) (old : List Value) → is_insert w ≡ false → ReadsRow tables v c w old → row_refusal tables w old ≡ None → (f : Flight) → flight_table tables f ≡ table_of tables w → (new : Option (List Value)) → row_made w (Some old) ≡ new → Reasoned (taking_short tables f new)
      long_reason w old update r granted f same None made = tt
      long_reason w old update r granted f same (Some new) made = by (nat_lt 4096 (length (stored_code (flight_table tables f) new))) refl
        where
          longer : (n : ℕ) → nat_lt 4096 n ≡ true → 4096 < n
          longer n long = grind (arith, nat_tests)

          by : (b : Bool) → nat_lt 4096 (length (stored_code (flight_table tables f) new)) ≡ b → Reasoned (cond b (refused (refusal.RowLong (flight_table tables f).name (length (stored_code (flight_table tables f) new)))) (On (Taking f)))
          by true long = (w, old, new, r, granted, update, made, ap (λ (t : Table). length (stored_code t new)) same, longer (length (stored_code (flight_table tables f) new)) long, ap (λ (t : Table). t.name) same)
          by false long = tt

      -- a refusal by a condition or by a sum
      refused_reason : (w : Write) (row : List Value) → ReadsRow tables v c w row → (why : Refusal) → row_refusal tables w row ≡ Some why → HasReason tables v c (outcome.Refused why)
      refused_reason w row r why is = by_cond (position (λ cond. not (holds_of row cond)) (conds_of w)) refl
        where
          table : Table
          table = table_of tables w

          by_sum : condition_refusal table (conds_of w) row ≡ None → (o : Option SetCol) → find (λ set. is_none (set_value row set)) (sets_of w) ≡ o → HasReason tables v c (outcome.Refused why)
          by_sum held None found =
              let wrong : ◌≡◌ {A = Option Refusal} None (Some why) = sym (ap (λ (o : Option Refusal). or_else o (sum_refusal table (sets_of w) row)) held ∙ ap (option_map (no_sum table)) found) ∙ is in absurd (cc)
          by_sum held (Some set) found =
              let sum : sum_refusal table (sets_of w) row ≡ Some (no_sum table set) = ap (option_map (no_sum table)) found in
              let both : ◌≡◌ {A = Option Refusal} (Some (no_sum table set)) (Some why) = sym (ap (λ (o : Option Refusal). or_else o (sum_refusal table (sets_of w) row)) held ∙ sum) ∙ is in
              let same : no_sum table set ≡ why = cc in
              subst (λ (why : Refusal). HasReason tables v c (outcome.Refused why)) same (w, row, r, held, sum)

          by_cond : (o : Option ℕ) → position (λ cond. not (holds_of row cond)) (conds_of w) ≡ o → HasReason tables v c (outcome.Refused why)
          by_cond None found = by_sum (ap (option_map (unmet table)) found) (find (λ set. is_none (set_value row set)) (sets_of w)) refl
          by_cond (Some place) found =
              let first : condition_refusal table (conds_of w) row ≡ Some (unmet table place) = ap (option_map (unmet table)) found in
              let both : ◌≡◌ {A = Option Refusal} (Some (unmet table place)) (Some why) = sym (ap (λ (o : Option Refusal). or_else o (sum_refusal table (sets_of w) row)) first) ∙ is in
              let same : unmet table place ≡ why = cc in
              subst (λ (why : Refusal). HasReason tables v c (outcome.Refused why)) same (w, row, r, first)

      row_reason : (w : Write) (code : List ℕ) (row : List Value) → ReadsRow tables v c w row → Reasoned (after_row tables w (Some code) (Some row))
      row_reason (write.Insert t new) code row r = (write.Insert t new, row, r, refl, refl)
      row_reason (write.Update t key sets conds) code row r =
          let w = write.Update t key sets conds in
          refused_or Reasoned _ _ (refused_reason w row r) (λ none. long_reason w row refl r none (record { write = w; read = Some code }) refl (row_made w (Some row)) refl)
      row_reason (write.Delete t key conds) code row r = refused_or Reasoned (row_refusal tables (write.Delete t key conds) row) (On (Taking (record { write = write.Delete t key conds; read = Some code }))) (refused_reason (write.Delete t key conds) row r) (λ none. tt)

      none_reason : (w : Write) → Reads tables v c w None → Reasoned (after_row tables w None None)
      none_reason (write.Insert t new) r = tt
      none_reason (write.Update t key sets conds) r = (write.Update t key sets conds, r, refl, refl)
      none_reason (write.Delete t key conds) r = (write.Delete t key conds, r, refl, refl)

      free_value : (value : List ℕ) → cell_of value ≡ Free value → is_held_value value ≡ false
      unfolding cell_of
      free_value value e = by (is_held_value value) e
        where
          by : (b : Bool) → cond b (Held (from_be_bytes w32 (take 4 (drop 1 value))) (from_be_bytes w32 (take 4 (drop 5 value))) (something (drop 9 value))) (Free value) ≡ Free value → b ≡ false
          by true wrong = absurd (cc)
          by false e = refl

      present_stored : (w : Write) (present : Option (List ℕ)) → MayStandAt tables (pair_key tables w) present → is_row_or_none (table_of tables w) present ≡ true
      present_stored w None at = refl
      present_stored w (Some code) at = ap is_some (stored_there w code at)

      -- a key that this client doesn't hold isn't held by its number
      not_own : v.next ≡ Reading → (k : List ℕ) (holder number : ℕ) (present : Option (List ℕ)) → cell_at c k ≡ Some (Held holder number present) → (holder == v.number) ≡ false
      not_own reading k holder number present cell = by (holder == v.number) refl
        where
          held : IsHolder (stances holder) k number present
          held = subst (λ (x : Option Cell). HeldWell x stances k) cell (g.keys k).held

          by : (b : Bool) → (holder == v.number) ≡ b → b ≡ false
          by true same =
              let idle : stances holder ≡ Idle = ap stances (eqb-true holder v.number same) ∙ is ∙ ap (stance_at tables v.at v.over) reading in
              absurd (subst (λ (s : Stance). IsHolder s k number present) idle held)
          by false same = refl

      found_reason : v.next ≡ Reading → (w : Write) → write_at v.writes v.at ≡ Some w → (found : Option (List ℕ)) → get c (pair_key tables w) ≡ found → Reasoned (after_read tables v.number w found)
      found_reason reading w at None there = none_reason w (reading, at, there)
      found_reason reading w at (Some value) there = by_cell (cell_of value) refl
        where
          stands : MayStandAt tables (pair_key tables w) (present_in (cell_of value))
          stands = shape.rows (pair_key tables w) value (key_space tables w) there

          by_row : (row : Option (List Value)) → decoded_row (table_of tables w) value ≡ row → cell_of value ≡ Free value → IsRowAt tables (pair_key tables w) value → Reasoned (after_code tables w value row)
          by_row None none e row_at = let wrong : ◌≡◌ {A = Option (List Value)} None (Some row_at.row) = sym none ∙ stored_there w value row_at in absurd (cc)
          by_row (Some row) some e row_at = row_reason w value row (value, (reading, at, there), free_value value e, some)

          by_cell : (x : Cell) → cell_of value ≡ x → Reasoned (after_cell tables v.number w value x)
          by_cell (Free code) e =
              let same = free_is value code e in
              let free : cell_of value ≡ Free value = e ∙ ap (λ (x : List ℕ). Free x) same in
              by_row (decoded_row (table_of tables w) value) refl free (subst (λ (x : Cell). MayStandAt tables (pair_key tables w) (present_in x)) free stands)
          by_cell (Held holder number present) e = by_test (is_held_by_other (table_of tables w) v.number (Held holder number present)) refl
            where
              other : (holder == v.number) ≡ false
              other = not_own reading (pair_key tables w) holder number present (cell_is c (pair_key tables w) (Some value) (key_space tables w) there ∙ ap (λ (x : Cell). Some x) e)

              passes_test : is_held_by_other (table_of tables w) v.number (Held holder number present) ≡ true
              passes_test = ap (λ b. not b && is_row_or_none (table_of tables w) present) other
                  ∙ present_stored w present (subst (λ (x : Cell). MayStandAt tables (pair_key tables w) (present_in x)) e stands)

              by_test : (b : Bool) → is_held_by_other (table_of tables w) v.number (Held holder number present) ≡ b → Reasoned (cond b (Ends (outcome.Busy value)) (damaged (pair_key tables w) (Some value)))
              by_test true test = (w, (reading, at, there), ap (is_held_by_other (table_of tables w) v.number) e ∙ test)
              by_test false test = absurd (false≢true (sym test ∙ passes_test))

      read_reason : v.next ≡ Reading → (w : Option Write) → write_at v.writes v.at ≡ w → Reasoned (read_on tables v.number w c).1
      read_reason reading None at = tt
      read_reason reading (Some w) at = found_reason reading w at (get c (pair_key tables w)) refl

      -- ---- a write that holds its key
      test_reason : (f : Flight) (why : Refusal) → v.next ≡ Flying f (Releasing why) → is_of_test why ≡ true → HasReason tables v c (outcome.Refused why)
      test_reason f (refusal.NoParent name place) is_next test = (f, is_next)
      test_reason f (refusal.Referenced name place) is_next test = (f, is_next)
      test_reason f (refusal.Cardinality name place n) is_next test = (f, is_next)
      test_reason f why is_next test = absurd (false≢true test)

      own_reason : (f : Flight) (present new : Option (List ℕ)) (t : Then) → is_just (Some (held_value v.number v.at present)) (get c (flight_key tables f)) ≡ true → Reasoned t → Reasoned (if_own tables v.number v.at f present c new t).1
      own_reason f present new t just reason = subst (λ b. Reasoned (cond {A = Content × Then} b (written_content (flight_key tables f) new c, t) (c, damaged (flight_key tables f) None)).1) (sym just) reason

      flown_reason : v.over ≡ None → (f : Flight) (stage : Stage) → v.next ≡ Flying f stage → Reasoned (flown tables v.number v.at f stage c).1
      flown_reason unbroken f stage next_is = by stage next_is (is ∙ ap (stance_at tables v.at v.over) next_is ∙ ap (λ (o : Option Outcome). stance_at tables v.at o (Flying f stage)) unbroken)
        where
          by : (stage : Stage) → v.next ≡ Flying f stage → stances v.number ≡ Holds (hold_of tables v.at f stage) → Reasoned (flown tables v.number v.at f stage c).1
          by (Checking check left) next_is holds = if_reasoned (passes tables check c) (On (Flying f (checking tables f left))) (On (Flying f (Releasing (check_refusal tables f check)))) tt tt
          by (Adding entry left added) next_is holds = tt
          by (Testing place left done) next_is holds = if_reasoned (has_room tables f place c) (On (Flying f (testing left (place ∷ done)))) (On (Flying f (undoing (fresh_entries tables f) (test_refusal tables f place)))) tt tt
          by Putting next_is holds = own_reason f f.read (Some (held_value v.number v.at (new_code tables f))) (Puts (Flying f (clearing (stale_entries tables f)))) (own_just tables sound others c stances shape g passed v h unbroken f Putting next_is holds f.read refl) tt
          by (Clearing entry left) next_is holds = tt
          by Freeing next_is holds = own_reason f (new_code tables f) (new_code tables f) (Ends outcome.Done) (own_just tables sound others c stances shape g passed v h unbroken f Freeing next_is holds (new_code tables f) refl) tt
          by (Undoing entry left why) next_is holds = tt
          by (Releasing why) next_is holds = own_reason f f.read f.read (refused why) (own_just tables sound others c stances shape g passed v h unbroken f (Releasing why) next_is holds f.read refl)
              (test_reason f why next_is (late f (Releasing why) why next_is refl))

      -- ---- a step
      gone_reason : v.over ≡ None → (next : Next) → v.next ≡ next → Reasoned (gone_on tables v next c).1
      gone_reason unbroken Reading next_is = read_reason next_is (write_at v.writes v.at) refl
      gone_reason unbroken (Taking f) next_is = by (is_just f.read (get c (flight_key tables f)))
        where
          by : (b : Bool) → Reasoned (cond {A = Content × Then} b (written_content (flight_key tables f) (Some (held_value v.number v.at f.read)) c, On (Flying f (checking tables f (flight_checks tables f)))) (c, On (Looking f))).1
          by true = tt
          by false = tt
      gone_reason unbroken (Looking f) next_is = (f, next_is, refl, refl)
      gone_reason unbroken (Flying f stage) next_is = flown_reason unbroken f stage next_is

      abbrev Told : Step → Type 0
      Told step.Moved = Unit {0}
      Told (step.Put wrote) = Unit {0}
      Told (step.Tells told) = HasReason tables v c told.outcome
      Told step.Over = Unit {0}

      call_told : (d : Content) (t : Then) → Reasoned t → Told (after_call v (d, t)).step
      call_told d (On next) reason = tt
      call_told d (Puts next) reason = tt
      call_told d (Ends o) reason = reason

      met_told : v.over ≡ None → (fate : Fate) → Told (met tables v c fate).step
      met_told unbroken Answers = call_told (gone_on tables v v.next c).0 (gone_on tables v v.next c).1 (gone_reason unbroken v.next refl)
      met_told unbroken NotDone = tt
      met_told unbroken DoneUnseen = tt
      met_told unbroken NoMemory = tt

      step_told : (fate : Fate) → Told (stepped tables v c fate).step
      step_told fate = by (is_over v) refl
        where
          by : (b : Bool) → is_over v ≡ b → Told (cond b (record { content = c; view = v; step = step.Over }) (met tables v c fate)).step
          by true over = tt
          by false over = met_told (unbroken_of tables sound others v over) fate

      -- what is told has its reason
      pub reason_told : (fate : Fate) (o : Outcome) → TellsOutcome tables v c fate o → HasReason tables v c o
      reason_told fate o told = subst Told told (step_told fate)
