-- The get before a conflict is told comes behind a take that finds another value than the read.
use Rattle.std.proofs.Common.{◌≡◌, ℕ, ◌+◌, Bool, true, false, cond, ◌⊎◌, inl, inr, List, ◌∷◌, length, Option, Some, None, refl, sym, ap, ◌∙◌, subst}
use Rattle.std.specs.Prelude.{nat_lt}
use Rattle.std.specs.FinMap.{get}
use Rattle.std.proofs.lemmas.Bool.{false≢true}
use Rattle.pq_base.specs.declared.refusal.Refusal.TheVariants as refusal
use Rattle.pq_base.specs.declared.value.Value.{Value}
use Rattle.pq_schema.specs.declared.table.Table.{Table}
use Rattle.pq_content.specs.Tables.{stored_code}
use Rattle.pq_store.specs.Content.{Content, written_content}
use Rattle.pq_index_keep.specs.declared.write.Write.{Write}
use Rattle.pq_index_keep.specs.declared.write.Write.TheVariants as write
use Rattle.pq_clients.specs.declared.outcome.Outcome.{Outcome}
use Rattle.pq_clients.specs.declared.outcome.Outcome.TheVariants as outcome
use Rattle.pq_clients.specs.declared.outcome.Step.TheVariants as step
use Rattle.pq_clients.specs.Held.{decoded_row, Cell, Free, Held, cell_of, held_value}
use Rattle.pq_clients.specs.Flights.{row_made, table_of, pair_key, Flight, flight_table, flight_key, new_code, fresh_entries, stale_entries, flight_checks, check_refusal, test_refusal, row_refusal}
use Rattle.pq_clients.specs.Clients.{Stage, Checking, Adding, Testing, Putting, Clearing, Freeing, Undoing, Releasing, Next, Reading, Taking, Looking, Flying, View, write_at, is_over}
use Rattle.pq_clients.specs.Steps.{is_just, taking_short, after_row, after_code, after_cell, after_read, read_on, is_held_by_other, Then, On, Puts, Ends, testing, adding, checking, clearing, undoing, passes, has_room, refused, damaged, if_own, flown, gone_on, is_fault, after_call, told_view, Fate, Answers, NotDone, DoneUnseen, NoMemory, met, stepped}
use Rattle.pq_clients.proofs.Shaped.{just_this, just_itself}
use Rattle.pq_clients.proofs.Granting.{refused_or}

module _ (tables : List Table) where
  -- a take that doesn't find what was read
  abbrev Misses : Content → Next → Flight → Type 0
  Misses c next f = (next ≡ Taking f) × (get c (flight_key tables f) ≡ f.read → ⊥)

  -- it turns to a look only by such a take
  abbrev LooksBy : Content → Next → Then → Type 0
  LooksBy c before (On next) = (f : Flight) → next ≡ Looking f → Misses c before f
  LooksBy c before (Puts next) = (f : Flight) → next ≡ Looking f → Misses c before f
  LooksBy c before (Ends o) = Unit {0}

  if_looks : (c : Content) (next : Next) (b : Bool) (t u : Then) → LooksBy c next t → LooksBy c next u → LooksBy c next (cond b t u)
  if_looks c next true t u h k = h
  if_looks c next false t u h k = k

  cond_looks : (c : Content) (next : Next) (b : Bool) (d e : Content) (t u : Then) → LooksBy c next t → LooksBy c next u → LooksBy c next (cond {A = Content × Then} b (d, t) (e, u)).1
  cond_looks c next true d e t u h k = h
  cond_looks c next false d e t u h k = k

  takes : (c : Content) (next : Next) (g : Flight) → LooksBy c next (On (Taking g))
  takes c next g f e = absurd (cc)

  flies : (c : Content) (next : Next) (g : Flight) (stage : Stage) → LooksBy c next (On (Flying g stage))
  flies c next g stage f e = absurd (cc)

  reads : (c : Content) (next : Next) → LooksBy c next (On Reading)
  reads c next f e = absurd (cc)

  -- ---- a read

  short_looks : (c : Content) (next : Next) (f : Flight) (row : Option (List Value)) → LooksBy c next (taking_short tables f row)
  short_looks c next f None = takes c next f
  short_looks c next f (Some row) =
      if_looks c next (nat_lt 4096 (length (stored_code (flight_table tables f) row))) (refused (refusal.RowLong (flight_table tables f).name (length (stored_code (flight_table tables f) row)))) (On (Taking f)) tt (takes c next f)

  row_looks : (c : Content) (next : Next) (w : Write) (read : Option (List ℕ)) (row : Option (List Value)) → LooksBy c next (after_row tables w read row)
  row_looks c next (write.Insert t new) read None = takes c next (record { write = write.Insert t new; read = read })
  row_looks c next (write.Insert t new) read (Some old) = tt
  row_looks c next (write.Update t key sets conds) read None = tt
  row_looks c next (write.Update t key sets conds) read (Some old) =
      refused_or (LooksBy c next) _ _ (λ why is. tt) (λ none. short_looks c next (record { write = write.Update t key sets conds; read = read }) (row_made (write.Update t key sets conds) (Some old)))
  row_looks c next (write.Delete t key conds) read None = tt
  row_looks c next (write.Delete t key conds) read (Some old) = refused_or (LooksBy c next) (row_refusal tables (write.Delete t key conds) old) (On (Taking (record { write = write.Delete t key conds; read = read }))) (λ why is. tt) (λ none. takes c next (record { write = write.Delete t key conds; read = read }))

  code_looks : (c : Content) (next : Next) (w : Write) (code : List ℕ) (row : Option (List Value)) → LooksBy c next (after_code tables w code row)
  code_looks c next w code None = tt
  code_looks c next w code (Some row) = row_looks c next w (Some code) (Some row)

  cell_looks : (c : Content) (next : Next) (client : ℕ) (w : Write) (value : List ℕ) (cell : Cell) → LooksBy c next (after_cell tables client w value cell)
  cell_looks c next client w value (Free code) = code_looks c next w value (decoded_row (table_of tables w) value)
  cell_looks c next client w value (Held holder number present) =
      if_looks c next (is_held_by_other (table_of tables w) client (Held holder number present)) (Ends (outcome.Busy value)) (damaged (pair_key tables w) (Some value)) tt tt

  read_looks : (c : Content) (next : Next) (client : ℕ) (w : Write) (found : Option (List ℕ)) → LooksBy c next (after_read tables client w found)
  read_looks c next client w None = row_looks c next w None None
  read_looks c next client w (Some value) = cell_looks c next client w value (cell_of value)

  begins_looks : (c : Content) (next : Next) (client : ℕ) (w : Option Write) → LooksBy c next (read_on tables client w c).1
  begins_looks c next client None = reads c next
  begins_looks c next client (Some w) = read_looks c next client w (get c (pair_key tables w))

  -- ---- a call

  own_looks : (c : Content) (next : Next) (client number : ℕ) (f : Flight) (present new : Option (List ℕ)) (t : Then) → LooksBy c next t → LooksBy c next (if_own tables client number f present c new t).1
  own_looks c next client number f present new t h =
      cond_looks c next (is_just (Some (held_value client number present)) (get c (flight_key tables f))) (written_content (flight_key tables f) new c) c t (damaged (flight_key tables f) None) h tt

  flown_looks : (c : Content) (next : Next) (client number : ℕ) (f : Flight) (stage : Stage) → LooksBy c next (flown tables client number f stage c).1
  flown_looks c next client number f (Checking check left) =
      if_looks c next (passes tables check c) (On (Flying f (checking tables f left))) (On (Flying f (Releasing (check_refusal tables f check)))) (flies c next f (checking tables f left)) (flies c next f (Releasing (check_refusal tables f check)))
  flown_looks c next client number f (Adding entry left added) = flies c next f (adding tables f left (entry ∷ added))
  flown_looks c next client number f (Testing place left passed) =
      if_looks c next (has_room tables f place c) (On (Flying f (testing left (place ∷ passed)))) (On (Flying f (undoing (fresh_entries tables f) (test_refusal tables f place)))) (flies c next f (testing left (place ∷ passed))) (flies c next f (undoing (fresh_entries tables f) (test_refusal tables f place)))
  flown_looks c next client number f Putting =
      own_looks c next client number f f.read (Some (held_value client number (new_code tables f))) (Puts (Flying f (clearing (stale_entries tables f)))) (flies c next f (clearing (stale_entries tables f)))
  flown_looks c next client number f (Clearing entry left) = flies c next f (clearing left)
  flown_looks c next client number f Freeing = own_looks c next client number f (new_code tables f) (new_code tables f) (Ends outcome.Done) tt
  flown_looks c next client number f (Undoing entry left why) = flies c next f (undoing left why)
  flown_looks c next client number f (Releasing why) = own_looks c next client number f f.read f.read (refused why) tt

  missed : (c : Content) (f : Flight) → is_just f.read (get c (flight_key tables f)) ≡ false → get c (flight_key tables f) ≡ f.read → ⊥
  missed c f test same = false≢true (sym test ∙ ap (is_just f.read) same ∙ just_itself f.read)

  gone_looks : (v : View) (c : Content) (next : Next) → LooksBy c next (gone_on tables v next c).1
  gone_looks v c Reading = begins_looks c Reading v.number (write_at v.writes v.at)
  gone_looks v c (Taking g) = by (is_just g.read (get c (flight_key tables g))) refl
    where
      by : (b : Bool) → is_just g.read (get c (flight_key tables g)) ≡ b
          → LooksBy c (Taking g) (cond {A = Content × Then} b (written_content (flight_key tables g) (Some (held_value v.number v.at g.read)) c, On (Flying g (checking tables g (flight_checks tables g)))) (c, On (Looking g))).1
      by true test = flies c (Taking g) g (checking tables g (flight_checks tables g))
      by false test = λ (f : Flight) (e : Looking g ≡ Looking f). let same : g ≡ f = cc in subst (λ (f : Flight). Misses c (Taking g) f) same (refl, missed c g test)
  gone_looks v c (Looking g) = tt
  gone_looks v c (Flying g stage) = flown_looks c (Flying g stage) v.number v.at g stage

  -- ---- a step

  abbrev LooksAt : View → Content → Next → Type 0
  LooksAt v c next = (f : Flight) → next ≡ Looking f → (v.next ≡ Looking f) ⊎ Misses c v.next f

  told_looks : (v : View) (c : Content) (o : Outcome) → LooksAt v c (told_view v o).next
  told_looks v c o f = by (is_fault o)
    where
      by : (b : Bool) → (cond b (record v { over = Some o }) (record v { at = v.at + 1; next = Reading })).next ≡ Looking f → (v.next ≡ Looking f) ⊎ Misses c v.next f
      by true e = inl e
      by false e = let wrong : Reading ≡ Looking f = e in absurd (cc)

  call_looks : (v : View) (c d : Content) (t : Then) → LooksBy c v.next t → LooksAt v c (after_call v (d, t)).view.next
  call_looks v c d (On next) by_take f e = inr (by_take f e)
  call_looks v c d (Puts next) by_take f e = inr (by_take f e)
  call_looks v c d (Ends o) by_take f e = told_looks v c o f e

  met_looks : (v : View) (c : Content) (fate : Fate) → LooksAt v c (met tables v c fate).view.next
  met_looks v c Answers = call_looks v c (gone_on tables v v.next c).0 (gone_on tables v v.next c).1 (gone_looks v c v.next)
  met_looks v c NotDone = told_looks v c outcome.Failed
  met_looks v c DoneUnseen = told_looks v c outcome.Failed
  met_looks v c NoMemory = told_looks v c outcome.NoMem

  -- a step turns to a look only by a take that misses
  pub looks_missed : (v : View) (c : Content) (fate : Fate) (f : Flight) → (stepped tables v c fate).view.next ≡ Looking f → (v.next ≡ Looking f) ⊎ ((v.next ≡ Taking f) × (get c (flight_key tables f) ≡ f.read → ⊥))
  looks_missed v c fate f = by (is_over v)
    where
      by : (b : Bool) → (cond b (record { content = c; view = v; step = step.Over }) (met tables v c fate)).view.next ≡ Looking f → (v.next ≡ Looking f) ⊎ Misses c v.next f
      by true e = inl e
      by false e = met_looks v c fate f e

  -- and each take that misses turns to one
  pub missed_looks : (v : View) (c : Content) (fate : Fate) (f : Flight) → v.next ≡ Taking f → (get c (flight_key tables f) ≡ f.read → ⊥) → is_over v ≡ false → fate ≡ Answers → (stepped tables v c fate).view.next ≡ Looking f
  missed_looks v c fate f taking other going answered =
      ap (λ b. (cond b (record { content = c; view = v; step = step.Over }) (met tables v c fate)).view.next) going
      ∙ ap (λ (fate : Fate). (met tables v c fate).view.next) answered
      ∙ ap (λ (next : Next). (after_call v (gone_on tables v next c)).view.next) taking
      ∙ ap (λ b. (after_call v (cond {A = Content × Then} b (written_content (flight_key tables f) (Some (held_value v.number v.at f.read)) c, On (Flying f (checking tables f (flight_checks tables f)))) (c, On (Looking f)))).view.next) (misses (is_just f.read (get c (flight_key tables f))) refl)
    where
      misses : (b : Bool) → is_just f.read (get c (flight_key tables f)) ≡ b → b ≡ false
      misses true test = absurd (other (just_this f.read (get c (flight_key tables f)) test))
      misses false test = refl
