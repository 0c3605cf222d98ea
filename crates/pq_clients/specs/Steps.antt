-- One step of a client: one call of the store, and what it leaves.
use Rattle.std.specs.Prelude.{ℕ, ◌+◌, min, Bool, true, false, not, ◌&&◌, ◌==◌, nat_le, nat_lt, List, [], ◌∷◌, length, Option, Some, None, is_some, if◌then◌else◌}
use Rattle.std.specs.FinMap.{get}
use Rattle.std.specs.Ordering.{eq_by_cmp}
use Rattle.pq_base.specs.declared.refusal.Refusal.{Refusal}
use Rattle.pq_base.specs.declared.refusal.Refusal.TheVariants as refusal
use Rattle.pq_base.specs.declared.value.Value.{Value}
use Rattle.pq_key_code.specs.KeyCode.{past_code}
use Rattle.pq_schema.specs.declared.table.Table.{Table}
use Rattle.pq_schema.specs.Tables.{table_at}
use Rattle.pq_content.specs.Tables.{stored_code}
use Rattle.pq_store.specs.Content.{Content, key_cmp, pairs_within, written_content}
use Rattle.pq_index_keep.specs.declared.write.Write.{Write}
use Rattle.pq_index_keep.specs.declared.write.Write.TheVariants as write
use Rattle.pq_clients.specs.declared.outcome.Outcome.{Outcome}
use Rattle.pq_clients.specs.declared.outcome.Outcome.TheVariants as outcome
use Rattle.pq_clients.specs.declared.outcome.Step.{Step}
use Rattle.pq_clients.specs.declared.outcome.Step.TheVariants as step
use Rattle.pq_clients.specs.Held.{Cell, Free, Held, cell_of, present_row, held_value, decoded_row}
use Rattle.pq_clients.specs.Flights.{Flight, Check, Parent, Child, table_of, pair_key, row_made, row_refusal, flight_table, flight_key, new_code, fresh_entries, stale_entries, flight_checks, check_refusal, flight_tests, tested_front, tested_limit, test_refusal}
use Rattle.pq_clients.specs.Clients.{Stage, Checking, Adding, Testing, Putting, Clearing, Freeing, Undoing, Releasing, Next, Reading, Taking, Looking, Flying, View, write_at, is_over}

-- ---- what calls answer

-- a guard's test: just this was found
abbrev pub is_just : Option (List ℕ) → Option (List ℕ) → Bool
is_just None None = true
is_just None (Some held) = false
is_just (Some value) None = false
is_just (Some value) (Some held) = eq_by_cmp key_cmp held value

-- the pairs whose keys begin so, counted up to the cap
unfoldable pub counted : Content → List ℕ → ℕ → ℕ
counted c front cap = min cap (length (pairs_within c front (past_code front)))

-- ---- from one kind of step to the next that there is

abbrev pub testing : List ℕ → List ℕ → Stage
testing [] passed = Putting
testing (place ∷ left) passed = Testing place left passed

abbrev pub adding : List Table → Flight → List (List ℕ) → List (List ℕ) → Stage
adding tables f [] added = testing (flight_tests tables f) []
adding tables f (entry ∷ left) added = Adding entry left added

abbrev pub checking : List Table → Flight → List Check → Stage
checking tables f [] = adding tables f (fresh_entries tables f) []
checking tables f (check ∷ left) = Checking check left

abbrev pub clearing : List (List ℕ) → Stage
clearing [] = Freeing
clearing (entry ∷ left) = Clearing entry left

abbrev pub undoing : List (List ℕ) → Refusal → Stage
undoing [] refusal = Releasing refusal
undoing (entry ∷ left) refusal = Undoing entry left refusal

-- ---- how a write goes on behind a call

pub data Then : Type 0 where
  On : (next : Next) → Then
  -- its row was put
  Puts : (next : Next) → Then
  Ends : (outcome : Outcome) → Then

abbrev pub damaged : List ℕ → Option (List ℕ) → Then
damaged key value = Ends (outcome.Damaged (record { key = key; value = value }))

abbrev pub refused : Refusal → Then
refused why = Ends (outcome.Refused why)

-- behind a read that found this row or none: the take, or the refusal
abbrev pub taking_short : List Table → Flight → Option (List Value) → Then
taking_short tables f None = On (Taking f)
taking_short tables f (Some row) =
    if nat_lt 4096 (length (stored_code (flight_table tables f) row))
    then refused (refusal.RowLong (flight_table tables f).name (length (stored_code (flight_table tables f) row)))
    else On (Taking f)

-- the refusal by the row that was read, if there is one
abbrev pub or_refused : Option Refusal → Then → Then
or_refused None next = next
or_refused (Some why) next = refused why

abbrev pub after_row : List Table → Write → Option (List ℕ) → Option (List Value) → Then
after_row tables (write.Insert t row) read None = On (Taking (record { write = write.Insert t row; read = read }))
after_row tables (write.Insert t row) read (Some old) =
    refused (refusal.DuplicateKey (table_of tables (write.Insert t row)).name)
after_row tables (write.Update t key sets conds) read None =
    refused (refusal.NoRow (table_of tables (write.Update t key sets conds)).name)
after_row tables (write.Update t key sets conds) read (Some old) =
    or_refused (row_refusal tables (write.Update t key sets conds) old)
    (taking_short tables (record { write = write.Update t key sets conds; read = read })
    (row_made (write.Update t key sets conds) (Some old)))
after_row tables (write.Delete t key conds) read None =
    refused (refusal.NoRow (table_of tables (write.Delete t key conds)).name)
after_row tables (write.Delete t key conds) read (Some old) =
    or_refused (row_refusal tables (write.Delete t key conds) old)
    (On (Taking (record { write = write.Delete t key conds; read = read })))

-- a value that is no held one: a row's code, or damage
abbrev pub after_code : List Table → Write → List ℕ → Option (List Value) → Then
after_code tables w code None = damaged (pair_key tables w) (Some code)
after_code tables w code (Some row) = after_row tables w (Some code) (Some row)

-- what is held with the code of a row or with nothing
abbrev pub is_row_or_none : Table → Option (List ℕ) → Bool
is_row_or_none table None = true
is_row_or_none table (Some code) = is_some (decoded_row table code)

-- the value is one that another client holds
abbrev pub is_held_by_other : Table → ℕ → Cell → Bool
is_held_by_other table client (Free code) = false
is_held_by_other table client (Held holder number present) = not (holder == client) && is_row_or_none table present

abbrev pub after_cell : List Table → ℕ → Write → List ℕ → Cell → Then
after_cell tables client w value (Free code) = after_code tables w value (decoded_row (table_of tables w) value)
after_cell tables client w value (Held holder number present) =
    if is_held_by_other (table_of tables w) client (Held holder number present) then Ends (outcome.Busy value)
    else damaged (pair_key tables w) (Some value)

abbrev pub after_read : List Table → ℕ → Write → Option (List ℕ) → Then
after_read tables client w None = after_row tables w None None
after_read tables client w (Some value) = after_cell tables client w value (cell_of value)

-- ---- one call

-- a row is present there, or no row names this one
abbrev pub passes : List Table → Check → Content → Bool
passes tables (Parent place u at) c = is_some (present_row (table_at tables u) (get c at))
passes tables (Child u place front) c = counted c front 1 == 0

-- at most n, counted with the new row's own pair
abbrev pub has_room : List Table → Flight → ℕ → Content → Bool
has_room tables f place c =
    nat_le (counted c (tested_front tables f place) ((tested_limit tables f place).n + 1))
    (tested_limit tables f place).n

-- a write of the own pair, guarded by the own held value with this present row
abbrev pub if_own : List Table → ℕ → ℕ → Flight → Option (List ℕ) → Content → Option (List ℕ) → Then → Content × Then
if_own tables client number f present c new next =
    if is_just (Some (held_value client number present)) (get c (flight_key tables f))
    then (written_content (flight_key tables f) new c, next)
    else (c, damaged (flight_key tables f) None)

abbrev pub flown : List Table → ℕ → ℕ → Flight → Stage → Content → Content × Then
flown tables client number f (Checking check left) c = (
  c,
  if passes tables check c then On (Flying f (checking tables f left))
      else On (Flying f (Releasing (check_refusal tables f check))),
)
flown tables client number f (Adding entry left added) c =
    (written_content entry (Some []) c, On (Flying f (adding tables f left (entry ∷ added))))
flown tables client number f (Testing place left passed) c = (
  c,
  if has_room tables f place c then On (Flying f (testing left (place ∷ passed)))
      else On (Flying f (undoing (fresh_entries tables f) (test_refusal tables f place))),
)
flown tables client number f Putting c =
    if_own tables client number f f.read c (Some (held_value client number (new_code tables f)))
    (Puts (Flying f (clearing (stale_entries tables f))))
flown tables client number f (Clearing entry left) c =
    (written_content entry None c, On (Flying f (clearing left)))
flown tables client number f Freeing c =
    if_own tables client number f (new_code tables f) c (new_code tables f) (Ends outcome.Done)
flown tables client number f (Undoing entry left refusal) c =
    (written_content entry None c, On (Flying f (undoing left refusal)))
flown tables client number f (Releasing refusal) c =
    if_own tables client number f f.read c f.read (refused refusal)

abbrev pub read_on : List Table → ℕ → Option Write → Content → Content × Then
read_on tables client None c = (c, On Reading)
read_on tables client (Some w) c = (c, after_read tables client w (get c (pair_key tables w)))

-- the content and how the write goes on, where the call answers
abbrev pub gone_on : List Table → View → Next → Content → Content × Then
gone_on tables v Reading c = read_on tables v.number (write_at v.writes v.at) c
gone_on tables v (Taking f) c =
    if is_just f.read (get c (flight_key tables f))
    then (
      written_content (flight_key tables f) (Some (held_value v.number v.at f.read)) c,
      On (Flying f (checking tables f (flight_checks tables f))),
    )
    else (c, On (Looking f))
gone_on tables v (Looking f) c = (c, Ends (outcome.Conflict f.read (get c (flight_key tables f))))
gone_on tables v (Flying f stage) c = flown tables v.number v.at f stage c

-- ---- one step

-- what a step leaves, and what it says
pub record After : Type 0 where
  pub content : Content
  pub view : View
  pub step : Step

-- the client ends with these
abbrev pub is_fault : Outcome → Bool
is_fault outcome.Done = false
is_fault (outcome.Refused refusal) = false
is_fault (outcome.Busy found) = false
is_fault (outcome.Conflict read found) = false
is_fault outcome.Failed = true
is_fault outcome.NoMem = true
is_fault (outcome.Damaged damage) = true

abbrev pub tells : View → Outcome → Step
tells v told = step.Tells (record { client = v.number; number = v.at; outcome = told })

-- the next write, or none after a fault
abbrev pub told_view : View → Outcome → View
told_view v told = if is_fault told then record v { over = Some told } else record v { at = v.at + 1; next = Reading }

abbrev pub after_call : View → Content × Then → After
after_call v (c, On next) = record { content = c; view = record v { next = next }; step = step.Moved }
after_call v (c, Puts next) =
    record {
      content = c;
      view = record v { next = next };
      step = step.Put (record { client = v.number; number = v.at });
    }
after_call v (c, Ends told) = record { content = c; view = told_view v told; step = tells v told }

-- what becomes of the call: it answers; it fails, and is not done or done; or there is no memory for it
pub data Fate : Type 0 where
  Answers : Fate
  NotDone : Fate
  DoneUnseen : Fate
  NoMemory : Fate

abbrev pub met : List Table → View → Content → Fate → After
met tables v c Answers = after_call v (gone_on tables v v.next c)
met tables v c NotDone = record { content = c; view = told_view v outcome.Failed; step = tells v outcome.Failed }
met tables v c DoneUnseen =
    record { content = (gone_on tables v v.next c).0; view = told_view v outcome.Failed; step = tells v outcome.Failed }
met tables v c NoMemory = record { content = c; view = told_view v outcome.NoMem; step = tells v outcome.NoMem }

-- one step
abbrev pub stepped : List Table → View → Content → Fate → After
stepped tables v c fate = if is_over v then record { content = c; view = v; step = step.Over } else met tables v c fate
