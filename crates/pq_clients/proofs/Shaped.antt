-- The pairs of a content after one is written, and what a read finds.
use Rattle.std.proofs.Common.{◌≡◌, ℕ, zero, suc, ◌-◌, ◌≤◌, nat_lt, Bool, true, false, cond, List, [], length, take, drop, Option, Some, None, refl, sym, ap, ◌∙◌, subst, arith}
use Rattle.std.specs.Prelude.{All, option_map, option_and_then}
use Rattle.std.specs.List.{slice_get}
use Rattle.std.specs.FinMap.{get}
use Rattle.std.specs.Int.{w32, from_be_bytes}
use Rattle.std.proofs.lemmas.Bool.{false≢true, ltb-false}
use Rattle.std.proofs.lemmas.Option.{slice_get_within, get_or_from_slice_get}
use Rattle.pq_base.specs.declared.refusal.Refusal.TheVariants as refusal
use Rattle.pq_base.specs.declared.value.Value.{Value}
use Rattle.pq_schema.specs.declared.table.Table.{Table}
use Rattle.pq_schema.specs.Tables.{table_at}
use Rattle.pq_content.specs.Pairs.{is_in_space, is_of_rows}
use Rattle.pq_content.specs.Tables.{stored_code}
use Rattle.pq_content.proofs.Keys.{same_key, key_itself}
use Rattle.pq_store.specs.Content.{Content, written_content}
use Rattle.pq_index_keep.specs.declared.write.Write.{Write}
use Rattle.pq_index_keep.specs.declared.write.Write.TheVariants as write
use Rattle.pq_index_keep.specs.Sound.{AreWritable, IsWrite}
use Rattle.pq_clients.specs.declared.outcome.Outcome.TheVariants as outcome
use Rattle.pq_clients.specs.Held.{Cell, Free, Held, cell_of, is_held_value, something, present_in, decoded_row}
use Rattle.pq_clients.specs.Flights.{Flight, table_number, table_of, pair_key, row_made, flight_table, flight_key, old_row, new_row, new_code, IsGranted, row_refusal}
use Rattle.pq_clients.specs.Clients.{Reading, Taking, Looking, Flying, write_at}
use Rattle.pq_clients.specs.Steps.{is_just, Then, On, Puts, Ends, refused, damaged, taking_short, after_row, after_code, is_held_by_other, after_cell, after_read}
use Rattle.pq_clients.specs.Invariant.{cell_at, present_at_cell, MayStandAt, Names, FlightFits, IsShaped}
use Rattle.pq_clients.proofs.Basics.{at_or_not, space_apart, not_both, get_here, get_apart, cell_is, no_cell, or_first, or_second}
use Rattle.pq_clients.proofs.Owners.{entry_space}
use Rattle.pq_clients.proofs.Coded.{key_space, write_number, new_fits}
use Rattle.pq_clients.proofs.Granting.{refused_or, granted_row, granted_none}

pub just_this : (a b : Option (List ℕ)) → is_just a b ≡ true → b ≡ a
just_this None None h = refl
just_this None (Some x) h = absurd (false≢true h)
just_this (Some v) None h = absurd (false≢true h)
just_this (Some v) (Some x) h = ap Some (same_key x v h)

pub just_itself : (a : Option (List ℕ)) → is_just a a ≡ true
just_itself None = refl
just_itself (Some v) = key_itself v

pub free_is : (value code : List ℕ) → cell_of value ≡ Free code → code ≡ value
unfolding cell_of
free_is value code h = by (is_held_value value) h
  where
    by : (b : Bool) → cond b (Held (from_be_bytes w32 (take 4 (drop 1 value))) (from_be_bytes w32 (take 4 (drop 5 value))) (something (drop 9 value))) (Free value) ≡ Free code → code ≡ value
    by true h = cc
    by false h = cc

of_rows_two : (k : List ℕ) → is_in_space 2 k ≡ true → is_of_rows k ≡ true
of_rows_two k h = or_first (is_in_space 2 k) (is_in_space 3 k) h

of_rows_three : (k : List ℕ) → is_in_space 3 k ≡ true → is_of_rows k ≡ true
of_rows_three k h = or_second (is_in_space 2 k) (is_in_space 3 k) h

module _ (tables : List Table) where
  -- what a row's key may be given
  abbrev pub MayPut : List ℕ → Option (List ℕ) → Type 0
  MayPut k None = Unit {0}
  MayPut k (Some bytes) = MayStandAt tables k (present_in (cell_of bytes))

  pub shaped_row : (c : Content) (others : List ℕ → Option (List ℕ)) (k : List ℕ) (x : Option (List ℕ)) → is_in_space 2 k ≡ true → MayPut k x → IsShaped tables c others → IsShaped tables (written_content k x c) others
  shaped_row c others k x space may h = record {
    rows = λ a v a_space has. at_or_not a k (λ a. get (written_content k x c) a ≡ Some v → is_in_space 2 a ≡ true → MayStandAt tables a (present_in (cell_of v)))
        (λ has _. put x may v (sym (get_here k x c) ∙ has))
        (λ ne has space. h.rows a v space (sym (get_apart k x c a ne) ∙ has)) has a_space;
    entries = λ e v e_space has. h.entries e v e_space (sym (get_apart k x c e (λ same. space_apart 2 k e space (not_both e e_space) (sym same))) ∙ has);
    beside = λ q out. get_apart k x c q (λ same. false≢true (sym out ∙ ap is_of_rows same ∙ of_rows_two k space)) ∙ h.beside q out;
  }
    where
      put : (x : Option (List ℕ)) → MayPut k x → (v : List ℕ) → x ≡ Some v → MayStandAt tables k (present_in (cell_of v))
      put None may v is = absurd (cc)
      put (Some bytes) may v is = let same : bytes ≡ v = cc in subst (λ (v : List ℕ). MayStandAt tables k (present_in (cell_of v))) same may

  entry_shaped : (c : Content) (others : List ℕ → Option (List ℕ)) (k e : List ℕ) (x : Option (List ℕ)) → Names tables k e → ((v : List ℕ) → x ≡ Some v → v ≡ []) → IsShaped tables c others → IsShaped tables (written_content e x c) others
  entry_shaped c others k e x names empty h =
      let space = entry_space tables k e names in
      record {
        rows = λ a v a_space has. h.rows a v a_space (sym (get_apart e x c a (λ same. space_apart 2 a e a_space (not_both e space) same)) ∙ has);
        entries = λ q v q_space has. at_or_not q e (λ q. get (written_content e x c) q ≡ Some v → is_in_space 3 q ≡ true → ((k : List ℕ) × Names tables k q) × (v ≡ []))
            (λ has _. ((k, names), empty v (sym (get_here e x c) ∙ has)))
            (λ ne has space. h.entries q v space (sym (get_apart e x c q ne) ∙ has)) has q_space;
        beside = λ q out. get_apart e x c q (λ same. false≢true (sym out ∙ ap is_of_rows same ∙ of_rows_three e space)) ∙ h.beside q out;
      }

  pub shaped_added : (c : Content) (others : List ℕ → Option (List ℕ)) (k e : List ℕ) → Names tables k e → IsShaped tables c others → IsShaped tables (written_content e (Some []) c) others
  shaped_added c others k e names h = entry_shaped c others k e (Some []) names (λ v is. let same : ◌≡◌ {A = List ℕ} [] v = cc in sym same) h

  pub shaped_removed : (c : Content) (others : List ℕ → Option (List ℕ)) (k e : List ℕ) → Names tables k e → IsShaped tables c others → IsShaped tables (written_content e None c) others
  shaped_removed c others k e names h = entry_shaped c others k e None names (λ v is. absurd (cc)) h

  -- each pair of a row has a row's code
  pub standing : (c : Content) (others : List ℕ → Option (List ℕ)) → IsShaped tables c others → (k : List ℕ) → MayStandAt tables k (present_at_cell (cell_at c k))
  standing c others h k =
      elim (is_in_space 2 k) as (λ b. is_in_space 2 k ≡ b → MayStandAt tables k (present_at_cell (cell_at c k))) [
        | true ↦ λ space. by_get (get c k) refl space
        | false ↦ λ space. subst (λ (x : Option Cell). MayStandAt tables k (present_at_cell x)) (sym (no_cell c k space)) tt
      ] refl
    where
      by_get : (x : Option (List ℕ)) → get c k ≡ x → is_in_space 2 k ≡ true → MayStandAt tables k (present_at_cell (cell_at c k))
      by_get None is space = subst (λ (x : Option Cell). MayStandAt tables k (present_at_cell x)) (sym (cell_is c k None space is)) tt
      by_get (Some v) is space = subst (λ (x : Option Cell). MayStandAt tables k (present_at_cell x)) (sym (cell_is c k (Some v) space is)) (h.rows k v space is)

  -- ---- a flight that begins

  new_by_row : AreWritable tables → (f : Flight) → IsWrite tables f.write → MayStandAt tables (flight_key tables f) f.read → IsGranted tables f → (new : Option (List Value)) → new_row tables f ≡ new → ((row : List Value) → new ≡ Some row → length (stored_code (flight_table tables f) row) ≤ 4096) → MayStandAt tables (flight_key tables f) (option_map (stored_code (flight_table tables f)) new)
  new_by_row sound f w read granted None is short = tt
  new_by_row sound f w read granted (Some row) is short =
      let own = new_fits tables sound f w read granted row is in
      record { table = table_number f.write; row = row; number = write_number tables f.write w; fits = own.0; short = short row refl; code_is = refl; key_is = own.1 }

  pub flight_fits : AreWritable tables → (f : Flight) → IsWrite tables f.write → MayStandAt tables (flight_key tables f) f.read → IsGranted tables f → ((row : List Value) → new_row tables f ≡ Some row → length (stored_code (flight_table tables f) row) ≤ 4096) → FlightFits tables f
  unfolding new_code
  flight_fits sound f w read granted short = record { write = w; read = read; granted = granted; new = new_by_row sound f w read granted (new_row tables f) refl short }

  -- a write goes on from its read to the take, or is told something
  abbrev pub Begins : Write → Then → Type 0
  Begins w (On Reading) = ⊥
  Begins w (On (Taking f)) = FlightFits tables f × (f.write ≡ w)
  Begins w (On (Looking f)) = ⊥
  Begins w (On (Flying f stage)) = ⊥
  Begins w (Puts next) = ⊥
  Begins w (Ends told) = Unit {0}

  at_most : (n : ℕ) → nat_lt 4096 n ≡ false → n ≤ 4096
  at_most n h = ltb-false 4096 n h

  row_begins : AreWritable tables → (w : Write) → IsWrite tables w → (read : Option (List ℕ)) (row : Option (List Value)) → MayStandAt tables (pair_key tables w) read → option_and_then (decoded_row (table_of tables w)) read ≡ row → Begins w (after_row tables w read row)
  unfolding old_row new_row
  row_begins sound (write.Insert t new) w read None at is = (flight_fits sound (record { write = write.Insert t new; read = read }) w at (granted_none tables (record { write = write.Insert t new; read = read }) is) (λ row made. let same : new ≡ row = cc in subst (λ (row : List Value). length (stored_code (table_at tables t) row) ≤ 4096) same w.short), refl)
  row_begins sound (write.Insert t new) w read (Some row) at is = tt
  row_begins sound (write.Update t key sets conds) w read None at is = tt
  row_begins sound (write.Update t key sets conds) w read (Some old) at is = refused_or (Begins (write.Update t key sets conds)) _ _ (λ why _. tt) (λ none. short (granted_row tables f old is none) (row_made (write.Update t key sets conds) (Some old)) refl)
    where
      f : Flight
      f = record { write = write.Update t key sets conds; read = read }

      by_length : IsGranted tables f → (new : List Value) → row_made (write.Update t key sets conds) (Some old) ≡ Some new → (b : Bool) → nat_lt 4096 (length (stored_code (table_at tables t) new)) ≡ b
          → Begins (write.Update t key sets conds) (cond b (refused (refusal.RowLong (table_at tables t).name (length (stored_code (table_at tables t) new)))) (On (Taking (record { write = write.Update t key sets conds; read = read }))))
      by_length granted new made true long = tt
      by_length granted new made false long =
          (flight_fits sound (record { write = write.Update t key sets conds; read = read }) w at granted (λ row is_new. let same : ◌≡◌ {A = Option (List Value)} (Some new) (Some row) = sym made ∙ sym (ap (row_made (write.Update t key sets conds)) is) ∙ is_new in let rows : new ≡ row = cc in subst (λ (row : List Value). length (stored_code (table_at tables t) row) ≤ 4096) rows (at_most (length (stored_code (table_at tables t) new)) long)), refl)

      short : IsGranted tables f → (new : Option (List Value)) → row_made (write.Update t key sets conds) (Some old) ≡ new → Begins (write.Update t key sets conds) (taking_short tables (record { write = write.Update t key sets conds; read = read }) new)
      short granted None made = absurd (cc)
      short granted (Some new) made = by_length granted new made (nat_lt 4096 (length (stored_code (table_at tables t) new))) refl
  row_begins sound (write.Delete t key conds) w read None at is = tt
  row_begins sound (write.Delete t key conds) w read (Some row) at is =
      let f : Flight = record { write = write.Delete t key conds; read = read } in
      refused_or (Begins (write.Delete t key conds)) (row_refusal tables (write.Delete t key conds) row) (On (Taking (record { write = write.Delete t key conds; read = read }))) (λ why _. tt) (λ none. (flight_fits sound f w at (granted_row tables f row is none) (λ row made. absurd (cc)), refl))

  read_begins : AreWritable tables → (c : Content) (others : List ℕ → Option (List ℕ)) → IsShaped tables c others → (client : ℕ) (w : Write) → IsWrite tables w → (found : Option (List ℕ)) → get c (pair_key tables w) ≡ found → Begins w (after_read tables client w found)
  read_begins sound c others shape client w fits None is = row_begins sound w fits None None tt refl
  read_begins sound c others shape client w fits (Some value) is = by_cell (cell_of value) refl
    where
      by_row : MayStandAt tables (pair_key tables w) (Some value) → (row : Option (List Value)) → decoded_row (table_of tables w) value ≡ row → Begins w (after_code tables w value row)
      by_row at None none = tt
      by_row at (Some row) found = row_begins sound w fits (Some value) (Some row) at found

      by_held : (b : Bool) → Begins w (cond b (Ends (outcome.Busy value)) (damaged (pair_key tables w) (Some value)))
      by_held true = tt
      by_held false = tt

      by_cell : (x : Cell) → cell_of value ≡ x → Begins w (after_cell tables client w value x)
      by_cell (Free code) e =
          let there = shape.rows (pair_key tables w) value (key_space tables w) is in
          let at : MayStandAt tables (pair_key tables w) (Some value) = subst (λ (code : List ℕ). MayStandAt tables (pair_key tables w) (Some code)) (free_is value code e) (subst (λ (x : Cell). MayStandAt tables (pair_key tables w) (present_in x)) e there) in
          by_row at (decoded_row (table_of tables w) value) refl
      by_cell (Held holder number present) e = by_held (is_held_by_other (table_of tables w) client (Held holder number present))

  pub begun : AreWritable tables → (c : Content) (others : List ℕ → Option (List ℕ)) → IsShaped tables c others → (client : ℕ) (w : Write) → IsWrite tables w → Begins w (after_read tables client w (get c (pair_key tables w)))
  begun sound c others shape client w fits = read_begins sound c others shape client w fits (get c (pair_key tables w)) refl

-- a member found by its place
pub all_at : {A : Type 0} (P : A → Type 0) (xs : List A) (i : ℕ) (x : A) → All P xs → slice_get xs i ≡ Some x → P x
all_at P xs i x all is = subst P (get_or_from_slice_get xs i x x is) (all i x (slice_get_within xs i x is))

-- a write's number is one more than its place
pub write_place : (ws : List Write) (n : ℕ) (w : Write) → write_at ws n ≡ Some w → slice_get ws (n - 1) ≡ Some w
write_place ws zero w is = absurd (cc)
write_place ws (suc n) w is = ap (slice_get ws) (before n) ∙ is
  where
    before : (n : ℕ) → suc n - 1 ≡ n
    before n = omega arith
