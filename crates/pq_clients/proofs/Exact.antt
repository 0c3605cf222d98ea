-- Where the reason of an outcome is there, it is told.
use Rattle.std.proofs.Common.{◌≡◌, ℕ, ◌<◌, true, false, cond, List, length, take, drop, Option, Some, None, refl, sym, ap, ◌∙◌, subst, arith}
use Rattle.std.specs.Prelude.{nat_lt}
use Rattle.std.specs.FinMap.{get}
use Rattle.std.specs.Int.{w32, from_be_bytes}
use Rattle.std.proofs.lemmas.Bool.{false≢true}
use Rattle.std.proofs.lemmas.Bool.Decides.{nat_tests}
use Rattle.pq_base.specs.declared.refusal.Refusal.TheVariants as refusal
use Rattle.pq_base.specs.declared.value.Value.{Value}
use Rattle.pq_schema.specs.declared.table.Table.{Table}
use Rattle.pq_content.specs.Tables.{stored_code}
use Rattle.pq_store.specs.Content.{Content}
use Rattle.pq_index_keep.specs.declared.write.Write.{Write}
use Rattle.pq_index_keep.specs.declared.write.Write.TheVariants as write
use Rattle.pq_clients.specs.declared.outcome.Outcome.{Outcome}
use Rattle.pq_clients.specs.declared.outcome.Outcome.TheVariants as outcome
use Rattle.pq_clients.specs.declared.outcome.Step.TheVariants as step
use Rattle.pq_clients.specs.Held.{something, decoded_row, Cell, Free, Held, cell_of, is_held_value}
use Rattle.pq_clients.specs.Flights.{row_made, table_of, pair_key, Flight, flight_table, flight_key, row_refusal, sets_of}
use Rattle.pq_clients.specs.Clients.{Next, Taking, Looking, View, is_over}
use Rattle.pq_clients.specs.Steps.{taking_short, after_row, after_code, after_cell, after_read, read_on, is_held_by_other, Then, On, Ends, refused, damaged, gone_on, after_call, Fate, Answers, met, stepped, or_refused}
use Rattle.pq_clients.specs.Promises.{Reads, ReadsRow, HasReason, is_exact, is_insert, TellsOutcome}
use Rattle.pq_base.specs.declared.refusal.Refusal.{Refusal}
use Rattle.pq_base.specs.Answers.{or_else}
use Rattle.pq_index_keep.specs.Effects.{sum_refusal}

free_cell : (code : List ℕ) → is_held_value code ≡ false → cell_of code ≡ Free code
unfolding cell_of
free_cell code free = ap (λ b. cond b (Held (from_be_bytes w32 (take 4 (drop 1 code))) (from_be_bytes w32 (take 4 (drop 5 code))) (something (drop 9 code))) (Free code)) free

module _ (tables : List Table) where
  module _ (v : View) (c : Content) (fate : Fate) (going : is_over v ≡ false) (answered : fate ≡ Answers) where
    goes : (stepped tables v c fate).step ≡ (after_call v (gone_on tables v v.next c)).step
    goes = ap (λ b. (cond b (record { content = c; view = v; step = step.Over }) (met tables v c fate)).step) going
        ∙ ap (λ (fate : Fate). (met tables v c fate).step) answered

    reads_step : (w : Write) (found : Option (List ℕ)) → Reads tables v c w found → (stepped tables v c fate).step ≡ (after_call v (c, after_read tables v.number w found)).step
    reads_step w found r = goes
        ∙ ap (λ (n : Next). (after_call v (gone_on tables v n c)).step) r.0
        ∙ ap (λ (w : Option Write). (after_call v (read_on tables v.number w c)).step) r.1
        ∙ ap (λ (found : Option (List ℕ)). (after_call v (c, after_read tables v.number w found)).step) r.2

    ends_step : (w : Write) (found : Option (List ℕ)) (o : Outcome) → Reads tables v c w found → after_read tables v.number w found ≡ Ends o → TellsOutcome tables v c fate o
    ends_step w found o r is = reads_step w found r ∙ ap (λ (t : Then). (after_call v (c, t)).step) is

    -- Busy
    pub busy_told : (w : Write) (found : List ℕ) → Reads tables v c w (Some found) → is_held_by_other (table_of tables w) v.number (cell_of found) ≡ true → TellsOutcome tables v c fate (outcome.Busy found)
    busy_told w found r held = ends_step w (Some found) (outcome.Busy found) r (by (cell_of found) held)
      where
        by : (cell : Cell) → is_held_by_other (table_of tables w) v.number cell ≡ true → after_cell tables v.number w found cell ≡ Ends (outcome.Busy found)
        by (Free code) h = absurd (false≢true h)
        by (Held holder number present) h = ap (λ b. cond b (Ends (outcome.Busy found)) (damaged (pair_key tables w) (Some found))) h

    -- Conflict
    pub conflict_told : (f : Flight) → v.next ≡ Looking f → TellsOutcome tables v c fate (outcome.Conflict f.read (get c (flight_key tables f)))
    conflict_told f is = goes ∙ ap (λ (n : Next). (after_call v (gone_on tables v n c)).step) is

    -- no row
    pub no_row_told : (w : Write) → Reads tables v c w None → is_insert w ≡ false → TellsOutcome tables v c fate (outcome.Refused (refusal.NoRow (table_of tables w).name))
    no_row_told (write.Insert t row) r h = absurd (false≢true (sym h))
    no_row_told (write.Update t key sets conds) r h = ends_step (write.Update t key sets conds) None (outcome.Refused (refusal.NoRow (table_of tables (write.Update t key sets conds)).name)) r refl
    no_row_told (write.Delete t key conds) r h = ends_step (write.Delete t key conds) None (outcome.Refused (refusal.NoRow (table_of tables (write.Delete t key conds)).name)) r refl

    -- a row's code
    row_read : (w : Write) (code : List ℕ) (row : List Value) → is_held_value code ≡ false → decoded_row (table_of tables w) code ≡ Some row → after_read tables v.number w (Some code) ≡ after_row tables w (Some code) (Some row)
    row_read w code row free is =
        ap (after_cell tables v.number w code) (free_cell code free)
        ∙ ap (after_code tables w code) is

    pub duplicate_told : (w : Write) (row : List Value) → ReadsRow tables v c w row → is_insert w ≡ true → TellsOutcome tables v c fate (outcome.Refused (refusal.DuplicateKey (table_of tables w).name))
    duplicate_told (write.Insert t new) row r h = ends_step (write.Insert t new) (Some r.0) (outcome.Refused (refusal.DuplicateKey (table_of tables (write.Insert t new)).name)) r.1 (row_read (write.Insert t new) r.0 row r.2 r.3)
    duplicate_told (write.Update t key sets conds) row r h = absurd (false≢true h)
    duplicate_told (write.Delete t key conds) row r h = absurd (false≢true h)

    short_told : (f : Flight) (new : List Value) (o : Option (List Value)) → o ≡ Some new → 4096 < length (stored_code (flight_table tables f) new) → taking_short tables f o ≡ refused (refusal.RowLong (flight_table tables f).name (length (stored_code (flight_table tables f) new)))
    short_told f new o is long = ap (taking_short tables f) is
        ∙ ap (λ b. cond b (refused (refusal.RowLong (flight_table tables f).name (length (stored_code (flight_table tables f) new)))) (On (Taking f))) (longer (length (stored_code (flight_table tables f) new)) long)
      where
        longer : (n : ℕ) → 4096 < n → nat_lt 4096 n ≡ true
        longer n h = grind (arith, nat_tests)

    -- by a condition or a sum
    row_refused : (w : Write) (read : Option (List ℕ)) (row : List Value) (why : Refusal) → row_refusal tables w row ≡ Some why → after_row tables w read (Some row) ≡ refused why
    row_refused (write.Insert t new) read row why is = absurd (cc)
    row_refused (write.Update t key sets conds) read row why is = ap (λ (o : Option Refusal). or_refused o (taking_short tables (record { write = write.Update t key sets conds; read = read }) (row_made (write.Update t key sets conds) (Some row)))) is
    row_refused (write.Delete t key conds) read row why is = ap (λ (o : Option Refusal). or_refused o (On (Taking (record { write = write.Delete t key conds; read = read })))) is

    pub refused_told : (w : Write) (row : List Value) (why : Refusal) → ReadsRow tables v c w row → row_refusal tables w row ≡ Some why → TellsOutcome tables v c fate (outcome.Refused why)
    refused_told w row why r is = ends_step w (Some r.0) (outcome.Refused why) r.1 (row_read w r.0 row r.2 r.3 ∙ row_refused w (Some r.0) row why is)

    pub long_told : (w : Write) (old new : List Value) → ReadsRow tables v c w old → row_refusal tables w old ≡ None → is_insert w ≡ false → row_made w (Some old) ≡ Some new → 4096 < length (stored_code (table_of tables w) new)
        → TellsOutcome tables v c fate (outcome.Refused (refusal.RowLong (table_of tables w).name (length (stored_code (table_of tables w) new))))
    long_told (write.Insert t row) old new r none h made long = absurd (false≢true (sym h))
    long_told (write.Update t key sets conds) old new r none h made long =
        let w = write.Update t key sets conds in
        ends_step w (Some r.0) (outcome.Refused (refusal.RowLong (table_of tables w).name (length (stored_code (table_of tables w) new)))) r.1
        (row_read w r.0 old r.2 r.3 ∙ ap (λ (o : Option Refusal). or_refused o (taking_short tables (record { write = w; read = Some r.0 }) (row_made w (Some old)))) none
        ∙ short_told (record { write = w; read = Some r.0 }) new (row_made w (Some old)) made long)
    long_told (write.Delete t key conds) old new r none h made long = absurd (cc)

  pub exact_told : (v : View) (c : Content) (fate : Fate) (o : Outcome) → is_exact o ≡ true → is_over v ≡ false → fate ≡ Answers → HasReason tables v c o → TellsOutcome tables v c fate o
  exact_told v c fate (outcome.Busy found) e going answered h = busy_told v c fate going answered h.0 found h.1 h.2
  exact_told v c fate (outcome.Conflict read found) e going answered h =
      subst (λ (x : Option (List ℕ)). TellsOutcome tables v c fate (outcome.Conflict x found)) (sym h.2)
      (subst (λ (x : Option (List ℕ)). TellsOutcome tables v c fate (outcome.Conflict h.0.read x)) (sym h.3) (conflict_told v c fate going answered h.0 h.1))
  exact_told v c fate (outcome.Refused (refusal.DuplicateKey name)) e going answered h =
      subst (λ (n : List ℕ). TellsOutcome tables v c fate (outcome.Refused (refusal.DuplicateKey n))) (sym h.4) (duplicate_told v c fate going answered h.0 h.1 h.2 h.3)
  exact_told v c fate (outcome.Refused (refusal.NoRow name)) e going answered h =
      subst (λ (n : List ℕ). TellsOutcome tables v c fate (outcome.Refused (refusal.NoRow n))) (sym h.3) (no_row_told v c fate going answered h.0 h.1 h.2)
  exact_told v c fate (outcome.Refused (refusal.RowLong name long)) e going answered h =
      subst (λ (n : List ℕ). TellsOutcome tables v c fate (outcome.Refused (refusal.RowLong n long))) (sym h.9)
      (subst (λ (n : ℕ). TellsOutcome tables v c fate (outcome.Refused (refusal.RowLong (table_of tables h.0).name n))) (sym h.7)
      (long_told v c fate going answered h.0 h.1 h.2 h.3 h.4 h.5 h.6 (subst (λ (n : ℕ). 4096 < n) h.7 h.8)))
  exact_told v c fate (outcome.Refused (refusal.Condition name number)) e going answered h =
      refused_told v c fate going answered h.0 h.1 (refusal.Condition name number) h.2 (ap (λ (o : Option Refusal). or_else o (sum_refusal (table_of tables h.0) (sets_of h.0) h.1)) h.3)
  exact_told v c fate (outcome.Refused (refusal.Sum name column)) e going answered h =
      refused_told v c fate going answered h.0 h.1 (refusal.Sum name column) h.2 (ap (λ (o : Option Refusal). or_else o (sum_refusal (table_of tables h.0) (sets_of h.0) h.1)) h.3 ∙ h.4)
  exact_told v c fate o e going answered h = absurd (false≢true e)
