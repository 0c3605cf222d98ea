-- The calls that a write has left fall by one with each of its steps.
use Rattle.std.proofs.Common.{◌≡◌, ℕ, ◌+◌, ◌≤◌, ◌==◌, nat_lt, Bool, true, false, cond, not, ◌&&◌, List, [], ◌∷◌, length, Option, Some, None, refl, sym, ap, ◌∙◌, subst, arith}
use Rattle.std.specs.Prelude.{option_and_then}
use Rattle.std.specs.FinMap.{get}
use Rattle.std.proofs.lemmas.Bool.{false≢true, eqb-true}
use Rattle.std.proofs.lemmas.Bool.Decides.{nat_tests}
use Rattle.pq_base.specs.declared.refusal.Refusal.{Refusal}
use Rattle.pq_base.specs.declared.refusal.Refusal.TheVariants as refusal
use Rattle.pq_base.specs.declared.value.Value.{Value}
use Rattle.pq_schema.specs.declared.table.Table.{Table}
use Rattle.pq_content.specs.Tables.{stored_code}
use Rattle.pq_store.specs.Content.{Content, written_content}
use Rattle.pq_index_keep.specs.declared.write.Write.{Write}
use Rattle.pq_index_keep.specs.declared.write.Write.TheVariants as write
use Rattle.pq_clients.specs.declared.outcome.Outcome.{Outcome}
use Rattle.pq_clients.specs.declared.outcome.Outcome.TheVariants as outcome
use Rattle.pq_clients.specs.declared.outcome.Step.TheVariants as step
use Rattle.pq_clients.specs.Held.{decoded_row, Cell, Free, Held, cell_of, held_value}
use Rattle.pq_clients.specs.Flights.{row_made, table_of, pair_key, Flight, Check, flight_table, flight_key, old_row, new_code, fresh_entries, stale_entries, flight_checks, flight_tests, check_refusal, test_refusal, row_refusal}
use Rattle.pq_clients.specs.Clients.{Stage, Checking, Adding, Testing, Putting, Clearing, Freeing, Undoing, Releasing, Next, Reading, Taking, Looking, Flying, View, write_at, is_over}
use Rattle.pq_clients.specs.Steps.{is_just, taking_short, after_row, after_code, after_cell, after_read, read_on, is_held_by_other, Then, On, Puts, Ends, testing, adding, checking, clearing, undoing, passes, has_room, refused, damaged, if_own, flown, gone_on, is_fault, after_call, told_view, Fate, Answers, NotDone, DoneUnseen, NoMemory, met, stepped}
use Rattle.pq_clients.specs.Promises.{calls_of_write}
use Rattle.pq_clients.proofs.Tested.{calls_of_flight, insert_few, update_few, delete_few, some_calls}
use Rattle.pq_clients.proofs.Granting.{refused_or}

module _ (tables : List Table) where
  -- ---- calls that are left

  -- behind the tests: a put, the clearing and a free, or the removals and a free
  abbrev ends : Flight → ℕ
  ends f = 2 + length (stale_entries tables f) + length (fresh_entries tables f)

  abbrev pub stage_calls : Flight → Stage → ℕ
  stage_calls f (Checking check left) = 1 + length left + length (fresh_entries tables f) + length (flight_tests tables f) + ends f
  stage_calls f (Adding entry left added) = 1 + length left + length (flight_tests tables f) + ends f
  stage_calls f (Testing place left passed) = 1 + length left + ends f
  stage_calls f Putting = 2 + length (stale_entries tables f)
  stage_calls f (Clearing entry left) = 2 + length left
  stage_calls f Freeing = 1
  stage_calls f (Undoing entry left why) = 2 + length left
  stage_calls f (Releasing why) = 1

  abbrev pub calls_left : Write → Next → ℕ
  calls_left w Reading = calls_of_write tables w
  calls_left w (Taking f) = 1 + length (flight_checks tables f) + length (fresh_entries tables f) + length (flight_tests tables f) + ends f
  calls_left w (Looking f) = 1
  calls_left w (Flying f stage) = stage_calls f stage

  -- ---- where some kinds of steps have no calls to make

  testing_left : (f : Flight) (left passed : List ℕ) → stage_calls f (testing left passed) ≤ length left + ends f
  testing_left f [] passed = omega arith
  testing_left f (place ∷ left) passed = omega arith

  adding_left : (f : Flight) (left added : List (List ℕ)) → stage_calls f (adding tables f left added) ≤ length left + length (flight_tests tables f) + ends f
  adding_left f [] added = omega (arith, testing_left f (flight_tests tables f) [])
  adding_left f (entry ∷ left) added = omega arith

  checking_left : (f : Flight) (left : List Check) → stage_calls f (checking tables f left) ≤ length left + length (fresh_entries tables f) + length (flight_tests tables f) + ends f
  checking_left f [] = omega (arith, adding_left f (fresh_entries tables f) [])
  checking_left f (check ∷ left) = omega arith

  clearing_left : (f : Flight) (left : List (List ℕ)) → stage_calls f (clearing left) ≤ 1 + length left
  clearing_left f [] = omega arith
  clearing_left f (entry ∷ left) = omega arith

  undoing_left : (f : Flight) (left : List (List ℕ)) (why : Refusal) → stage_calls f (undoing left why) ≤ 1 + length left
  undoing_left f [] why = omega arith
  undoing_left f (entry ∷ left) why = omega arith

  -- ---- a call

  -- behind it at least one call fewer is left
  abbrev pub Falls : Write → ℕ → Then → Type 0
  Falls w n (On next) = 1 + calls_left w next ≤ n
  Falls w n (Puts next) = 1 + calls_left w next ≤ n
  Falls w n (Ends o) = 1 ≤ n

  if_falls : (w : Write) (n : ℕ) (b : Bool) (t u : Then) → Falls w n t → Falls w n u → Falls w n (cond b t u)
  if_falls w n true t u h k = h
  if_falls w n false t u h k = k

  cond_falls : (w : Write) (n : ℕ) (b : Bool) (c d : Content) (t u : Then) → Falls w n t → Falls w n u → Falls w n (cond {A = Content × Then} b (c, t) (d, u)).1
  cond_falls w n true c d t u h k = h
  cond_falls w n false c d t u h k = k

  own_falls : (w : Write) (n client number : ℕ) (f : Flight) (present : Option (List ℕ)) (c : Content) (new : Option (List ℕ)) (t : Then) → Falls w n t → 1 ≤ n → Falls w n (if_own tables client number f present c new t).1
  own_falls w n client number f present c new t h one =
      cond_falls w n (is_just (Some (held_value client number present)) (get c (flight_key tables f))) (written_content (flight_key tables f) new c) c t (damaged (flight_key tables f) None) h one

  flown_falls : (w : Write) (client number : ℕ) (f : Flight) (stage : Stage) (c : Content) → Falls w (stage_calls f stage) (flown tables client number f stage c).1
  flown_falls w client number f (Checking check left) c =
      if_falls w (stage_calls f (Checking check left)) (passes tables check c) (On (Flying f (checking tables f left))) (On (Flying f (Releasing (check_refusal tables f check))))
      (omega (arith, checking_left f left)) (omega arith)
  flown_falls w client number f (Adding entry left added) c = omega (arith, adding_left f left (entry ∷ added))
  flown_falls w client number f (Testing place left passed) c =
      if_falls w (stage_calls f (Testing place left passed)) (has_room tables f place c) (On (Flying f (testing left (place ∷ passed)))) (On (Flying f (undoing (fresh_entries tables f) (test_refusal tables f place))))
      (omega (arith, testing_left f left (place ∷ passed))) (omega (arith, undoing_left f (fresh_entries tables f) (test_refusal tables f place)))
  flown_falls w client number f Putting c =
      own_falls w (stage_calls f Putting) client number f f.read c (Some (held_value client number (new_code tables f))) (Puts (Flying f (clearing (stale_entries tables f)))) (omega (arith, clearing_left f (stale_entries tables f))) (omega arith)
  flown_falls w client number f (Clearing entry left) c = omega (arith, clearing_left f left)
  flown_falls w client number f Freeing c = own_falls w 1 client number f (new_code tables f) c (new_code tables f) (Ends outcome.Done) (omega arith) (omega arith)
  flown_falls w client number f (Undoing entry left why) c = omega (arith, undoing_left f left why)
  flown_falls w client number f (Releasing why) c = own_falls w 1 client number f f.read c f.read (refused why) (omega arith) (omega arith)

  -- ---- a read

  ends_well : (w : Write) (o : Outcome) → Falls w (calls_of_write tables w) (Ends o)
  ends_well w o = omega (arith, some_calls tables w)

  takes : (w : Write) (f : Flight) → calls_of_flight tables f ≤ calls_of_write tables w → Falls w (calls_of_write tables w) (On (Taking f))
  takes w f few = omega (arith, few)

  short_falls : (w : Write) (f : Flight) (new : Option (List Value)) → calls_of_flight tables f ≤ calls_of_write tables w → Falls w (calls_of_write tables w) (taking_short tables f new)
  short_falls w f None few = takes w f few
  short_falls w f (Some row) few =
      if_falls w (calls_of_write tables w) (nat_lt 4096 (length (stored_code (flight_table tables f) row))) (refused (refusal.RowLong (flight_table tables f).name (length (stored_code (flight_table tables f) row)))) (On (Taking f))
      (ends_well w (outcome.Refused (refusal.RowLong (flight_table tables f).name (length (stored_code (flight_table tables f) row))))) (takes w f few)

  row_falls : (w : Write) (read : Option (List ℕ)) (row : Option (List Value)) → option_and_then (decoded_row (table_of tables w)) read ≡ row → Falls w (calls_of_write tables w) (after_row tables w read row)
  unfolding old_row
  row_falls (write.Insert t new) read None old = takes (write.Insert t new) (record { write = write.Insert t new; read = read }) (insert_few tables t new read old)
  row_falls (write.Insert t new) read (Some row) old = ends_well (write.Insert t new) (outcome.Refused (refusal.DuplicateKey (table_of tables (write.Insert t new)).name))
  row_falls (write.Update t key sets conds) read None old = ends_well (write.Update t key sets conds) (outcome.Refused (refusal.NoRow (table_of tables (write.Update t key sets conds)).name))
  row_falls (write.Update t key sets conds) read (Some row) old =
      let w = write.Update t key sets conds in
      refused_or (Falls w (calls_of_write tables w)) _ _ (λ why is. ends_well w (outcome.Refused why))
      (λ none. short_falls w (record { write = w; read = read }) (row_made w (Some row)) (update_few tables t key sets conds read row old))
  row_falls (write.Delete t key conds) read None old = ends_well (write.Delete t key conds) (outcome.Refused (refusal.NoRow (table_of tables (write.Delete t key conds)).name))
  row_falls (write.Delete t key conds) read (Some row) old =
      let w = write.Delete t key conds in
      refused_or (Falls w (calls_of_write tables w)) (row_refusal tables (write.Delete t key conds) row) (On (Taking (record { write = write.Delete t key conds; read = read }))) (λ why is. ends_well w (outcome.Refused why)) (λ none. takes w (record { write = w; read = read }) (delete_few tables t key conds read))

  found_falls : (client : ℕ) (w : Write) (found : Option (List ℕ)) → Falls w (calls_of_write tables w) (after_read tables client w found)
  found_falls client w None = row_falls w None None refl
  found_falls client w (Some value) = by_cell (cell_of value)
    where
      by_row : (row : Option (List Value)) → decoded_row (table_of tables w) value ≡ row → Falls w (calls_of_write tables w) (after_code tables w value row)
      by_row None is = ends_well w (outcome.Damaged (record { key = pair_key tables w; value = Some value }))
      by_row (Some row) is = row_falls w (Some value) (Some row) is

      by_cell : (cell : Cell) → Falls w (calls_of_write tables w) (after_cell tables client w value cell)
      by_cell (Free code) = by_row (decoded_row (table_of tables w) value) refl
      by_cell (Held holder number present) =
          if_falls w (calls_of_write tables w) (is_held_by_other (table_of tables w) client (Held holder number present)) (Ends (outcome.Busy value)) (damaged (pair_key tables w) (Some value))
          (ends_well w (outcome.Busy value)) (ends_well w (outcome.Damaged (record { key = pair_key tables w; value = Some value })))

  -- ---- a step

  pub gone_falls : (v : View) (c : Content) (w : Write) → write_at v.writes v.at ≡ Some w → (next : Next) → Falls w (calls_left w next) (gone_on tables v next c).1
  gone_falls v c w at Reading = subst (λ (o : Option Write). Falls w (calls_of_write tables w) (read_on tables v.number o c).1) (sym at) (found_falls v.number w (get c (pair_key tables w)))
  gone_falls v c w at (Taking f) =
      cond_falls w (calls_left w (Taking f)) (is_just f.read (get c (flight_key tables f))) (written_content (flight_key tables f) (Some (held_value v.number v.at f.read)) c) c (On (Flying f (checking tables f (flight_checks tables f)))) (On (Looking f))
      (omega (arith, checking_left f (flight_checks tables f))) (omega arith)
  gone_falls v c w at (Looking f) = omega arith
  gone_falls v c w at (Flying f stage) = flown_falls w v.number v.at f stage c

  pub one_call : (w : Write) (next : Next) → 1 ≤ calls_left w next
  one_call w Reading = omega (arith, some_calls tables w)
  one_call w (Taking f) = omega arith
  one_call w (Looking f) = omega arith
  one_call w (Flying f (Checking check left)) = omega arith
  one_call w (Flying f (Adding entry left added)) = omega arith
  one_call w (Flying f (Testing place left passed)) = omega arith
  one_call w (Flying f Putting) = omega arith
  one_call w (Flying f (Clearing entry left)) = omega arith
  one_call w (Flying f Freeing) = omega arith
  one_call w (Flying f (Undoing entry left why)) = omega arith
  one_call w (Flying f (Releasing why)) = omega arith

  -- what the client may still call for its write with this number, behind all writes before it
  abbrev pub calls_at : Write → ℕ → ℕ → Next → ℕ
  calls_at w number at next = cond (at == number) (calls_left w next) (cond (nat_lt at number) (calls_of_write tables w) 0)

  abbrev pub calls_to_come : Write → ℕ → View → ℕ
  calls_to_come w number v = cond (is_over v) 0 (calls_at w number v.at v.next)

  abbrev pub one_at : ℕ → View → ℕ
  one_at number v = cond (v.at == number && not (is_over v)) 1 0

  -- ---- a step, whatever becomes of its call

  next_write : (at number n : ℕ) → (at == number) ≡ false → cond (at + 1 == number) n (cond (nat_lt (at + 1) number) n 0) ≤ cond (nat_lt at number) n 0
  next_write at number n apart = grind (arith, nat_tests)

  past_write : (at number n : ℕ) → (at == number) ≡ true → cond (at + 1 == number) n (cond (nat_lt (at + 1) number) n 0) ≤ 0
  past_write at number n same = grind (arith, nat_tests)

  pub no_more : (b : Bool) (n : ℕ) → cond b 0 n ≤ n
  no_more true n = omega arith
  no_more false n = omega arith

  module _ (w : Write) (number : ℕ) (v : View) where
    -- the calls to come behind the write's own step, and behind another write's
    abbrev Comes : View → Type 0
    Comes u = calls_to_come w number u + cond (v.at == number) 1 0 ≤ calls_at w number v.at v.next

    told_own : (o : Outcome) → (v.at == number) ≡ true → calls_to_come w number (told_view v o) + 1 ≤ calls_left w v.next
    told_own o same = by (is_fault o)
      where
        by : (b : Bool) → calls_to_come w number (cond b (record v { over = Some o }) (record v { at = v.at + 1; next = Reading })) + 1 ≤ calls_left w v.next
        by true = one_call w v.next
        by false = omega (arith, no_more (is_over (record v { at = v.at + 1; next = Reading })) (calls_at w number (v.at + 1) Reading), past_write v.at number (calls_of_write tables w) same, one_call w v.next)

    told_other : (o : Outcome) → (v.at == number) ≡ false → calls_to_come w number (told_view v o) ≤ cond (nat_lt v.at number) (calls_of_write tables w) 0
    told_other o apart = by (is_fault o)
      where
        by : (b : Bool) → calls_to_come w number (cond b (record v { over = Some o }) (record v { at = v.at + 1; next = Reading })) ≤ cond (nat_lt v.at number) (calls_of_write tables w) 0
        by true = omega arith
        by false = omega (arith, no_more (is_over (record v { at = v.at + 1; next = Reading })) (calls_at w number (v.at + 1) Reading), next_write v.at number (calls_of_write tables w) apart)

    told_comes : (o : Outcome) → Comes (told_view v o)
    told_comes o = by (v.at == number) refl
      where
        by : (b : Bool) → (v.at == number) ≡ b → calls_to_come w number (told_view v o) + cond b 1 0 ≤ cond b (calls_left w v.next) (cond (nat_lt v.at number) (calls_of_write tables w) 0)
        by true same = told_own o same
        by false apart = omega (arith, told_other o apart)

    on_comes : (next : Next) → ((v.at == number) ≡ true → 1 + calls_left w next ≤ calls_left w v.next) → Comes (record v { next = next })
    on_comes next falls = by (v.at == number) refl
      where
        by : (b : Bool) → (v.at == number) ≡ b → cond (is_over v) 0 (cond b (calls_left w next) (cond (nat_lt v.at number) (calls_of_write tables w) 0)) + cond b 1 0
            ≤ cond b (calls_left w v.next) (cond (nat_lt v.at number) (calls_of_write tables w) 0)
        by true same = omega (arith, no_more (is_over v) (calls_left w next), falls same)
        by false apart = omega (arith, no_more (is_over v) (cond (nat_lt v.at number) (calls_of_write tables w) 0))

    call_comes : (c : Content) (t : Then) → ((v.at == number) ≡ true → Falls w (calls_left w v.next) t) → Comes (after_call v (c, t)).view
    call_comes c (On next) falls = on_comes next falls
    call_comes c (Puts next) falls = on_comes next falls
    call_comes c (Ends o) falls = told_comes o

    module _ (is : write_at v.writes number ≡ Some w) where
      at_own : (v.at == number) ≡ true → write_at v.writes v.at ≡ Some w
      at_own same = ap (λ n. write_at v.writes n) (eqb-true v.at number same) ∙ is

      met_comes : (c : Content) (fate : Fate) → Comes (met tables v c fate).view
      met_comes c Answers = call_comes (gone_on tables v v.next c).0 (gone_on tables v v.next c).1 (λ same. gone_falls v c w (at_own same) v.next)
      met_comes c NotDone = told_comes outcome.Failed
      met_comes c DoneUnseen = told_comes outcome.Failed
      met_comes c NoMemory = told_comes outcome.NoMem

      -- a step of the write takes one of the calls that are to come, and no step makes them more
      pub step_comes : (c : Content) (fate : Fate) → calls_to_come w number (stepped tables v c fate).view + one_at number v ≤ calls_to_come w number v
      step_comes c fate = by (is_over v) refl
        where
          by : (b : Bool) → is_over v ≡ b → calls_to_come w number (cond b (record { content = c; view = v; step = step.Over }) (met tables v c fate)).view + cond (v.at == number && not b) 1 0 ≤ cond b 0 (calls_at w number v.at v.next)
          by true over = over_comes (v.at == number) (is_over v) over
            where
              over_comes : (a b : Bool) → b ≡ true → cond b 0 (calls_at w number v.at v.next) + cond (a && false) 1 0 ≤ 0
              over_comes true true over = omega arith
              over_comes false true over = omega arith
              over_comes a false over = absurd (false≢true over)
          by false over = subst (λ b. calls_to_come w number (met tables v c fate).view + cond b 1 0 ≤ calls_at w number v.at v.next) (same_test (v.at == number)) (met_comes c fate)
            where
              same_test : (a : Bool) → a ≡ (a && true)
              same_test true = refl
              same_test false = refl

  -- ---- the writes of a client stay

  told_writes : (v : View) (o : Outcome) → (told_view v o).writes ≡ v.writes
  told_writes v o = elim (is_fault o) as (λ b. (cond b (record v { over = Some o }) (record v { at = v.at + 1; next = Reading })).writes ≡ v.writes) [ true ↦ refl | false ↦ refl ]

  call_writes : (v : View) (c : Content) (t : Then) → (after_call v (c, t)).view.writes ≡ v.writes
  call_writes v c (On next) = refl
  call_writes v c (Puts next) = refl
  call_writes v c (Ends o) = told_writes v o

  met_writes : (v : View) (c : Content) (fate : Fate) → (met tables v c fate).view.writes ≡ v.writes
  met_writes v c Answers = call_writes v (gone_on tables v v.next c).0 (gone_on tables v v.next c).1
  met_writes v c NotDone = refl
  met_writes v c DoneUnseen = refl
  met_writes v c NoMemory = refl

  pub step_writes : (v : View) (c : Content) (fate : Fate) → (stepped tables v c fate).view.writes ≡ v.writes
  step_writes v c fate = by (is_over v)
    where
      by : (b : Bool) → (cond b (record { content = c; view = v; step = step.Over }) (met tables v c fate)).view.writes ≡ v.writes
      by true = refl
      by false = met_writes v c fate
