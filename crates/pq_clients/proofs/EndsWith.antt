-- Outcomes with which a read doesn't end: those that are no refusal, that don't say busy, and that are no damage.
use Rattle.std.proofs.Common.{◌≡◌, ℕ, Bool, true, false, cond, List, length, Option, Some, None, refl}
use Rattle.std.specs.Prelude.{nat_lt}
use Rattle.std.specs.FinMap.{get}
use Rattle.pq_base.specs.declared.refusal.Refusal.{Refusal}
use Rattle.pq_base.specs.declared.refusal.Refusal.TheVariants as refusal
use Rattle.pq_base.specs.declared.value.Value.{Value}
use Rattle.pq_schema.specs.declared.table.Table.{Table}
use Rattle.pq_content.specs.Tables.{stored_code}
use Rattle.pq_store.specs.Content.{Content}
use Rattle.pq_store.specs.declared.damage.Damage.{Damage}
use Rattle.pq_index_keep.specs.declared.write.Write.{Write}
use Rattle.pq_index_keep.specs.declared.write.Write.TheVariants as write
use Rattle.pq_clients.specs.declared.outcome.Outcome.{Outcome}
use Rattle.pq_clients.specs.declared.outcome.Outcome.TheVariants as outcome
use Rattle.pq_clients.specs.Held.{decoded_row, Cell, Free, Held, cell_of}
use Rattle.pq_clients.specs.Flights.{row_made, table_of, pair_key, Flight, flight_table, row_refusal}
use Rattle.pq_clients.specs.Clients.{Taking}
use Rattle.pq_clients.specs.Steps.{taking_short, after_row, after_code, after_cell, after_read, read_on, is_held_by_other, Then, On, Puts, Ends, refused, damaged}
use Rattle.pq_clients.proofs.Granting.{refused_or}

-- it ends with such an outcome
abbrev pub ends_with : (Outcome → Bool) → Then → Bool
ends_with q (On next) = false
ends_with q (Puts next) = false
ends_with q (Ends o) = q o

pub if_not : (q : Outcome → Bool) (b : Bool) (t u : Then) → ends_with q t ≡ false → ends_with q u ≡ false → ends_with q (cond b t u) ≡ false
if_not q true t u h k = h
if_not q false t u h k = k

pub cond_not : (q : Outcome → Bool) (b : Bool) (c d : Content) (t u : Then) → ends_with q t ≡ false → ends_with q u ≡ false → ends_with q (cond {A = Content × Then} b (c, t) (d, u)).1 ≡ false
cond_not q true c d t u h k = h
cond_not q false c d t u h k = k

module _ (tables : List Table) (q : Outcome → Bool) (refusals : (r : Refusal) → q (outcome.Refused r) ≡ false) (busy : (found : List ℕ) → q (outcome.Busy found) ≡ false) (damages : (d : Damage) → q (outcome.Damaged d) ≡ false) where
  short_not : (f : Flight) (row : Option (List Value)) → ends_with q (taking_short tables f row) ≡ false
  short_not f None = refl
  short_not f (Some row) =
      if_not q (nat_lt 4096 (length (stored_code (flight_table tables f) row))) (refused (refusal.RowLong (flight_table tables f).name (length (stored_code (flight_table tables f) row)))) (On (Taking f)) (refusals _) refl

  row_not : (w : Write) (read : Option (List ℕ)) (row : Option (List Value)) → ends_with q (after_row tables w read row) ≡ false
  row_not (write.Insert t new) read None = refl
  row_not (write.Insert t new) read (Some old) = refusals _
  row_not (write.Update t key sets conds) read None = refusals _
  row_not (write.Update t key sets conds) read (Some old) =
      refused_or (λ t. ends_with q t ≡ false) _ _ (λ why is. refusals why) (λ none. short_not (record { write = write.Update t key sets conds; read = read }) (row_made (write.Update t key sets conds) (Some old)))
  row_not (write.Delete t key conds) read None = refusals _
  row_not (write.Delete t key conds) read (Some old) = refused_or (λ t. ends_with q t ≡ false) (row_refusal tables (write.Delete t key conds) old) (On (Taking (record { write = write.Delete t key conds; read = read }))) (λ why is. refusals why) (λ none. refl)

  code_not : (w : Write) (code : List ℕ) (row : Option (List Value)) → ends_with q (after_code tables w code row) ≡ false
  code_not w code None = damages _
  code_not w code (Some row) = row_not w (Some code) (Some row)

  cell_not : (client : ℕ) (w : Write) (value : List ℕ) (cell : Cell) → ends_with q (after_cell tables client w value cell) ≡ false
  cell_not client w value (Free code) = code_not w value (decoded_row (table_of tables w) value)
  cell_not client w value (Held holder number present) =
      if_not q (is_held_by_other (table_of tables w) client (Held holder number present)) (Ends (outcome.Busy value)) (damaged (pair_key tables w) (Some value)) (busy value) (damages _)

  read_not : (client : ℕ) (w : Write) (o : Option (List ℕ)) → ends_with q (after_read tables client w o) ≡ false
  read_not client w None = row_not w None None
  read_not client w (Some value) = cell_not client w value (cell_of value)

  pub reads_not : (client : ℕ) (w : Option Write) (c : Content) → ends_with q (read_on tables client w c).1 ≡ false
  reads_not client None c = refl
  reads_not client (Some w) c = read_not client w (get c (pair_key tables w))
