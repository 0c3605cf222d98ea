-- What holds at each moment of a run of clients, whatever the order of their steps and whatever calls fail.
use Rattle.std.specs.Prelude.{◌≡◌, ℕ, ◌+◌, ◌-◌, ◌*◌, ◌^◌, ◌<◌, ◌≤◌, Bool, true, false, ◌&&◌, ◌||◌, ◌==◌, not, if◌then◌else◌, List, [], ◌∷◌, ◌++◌, map, length, filter, All, Option, Some, None, is_some, IfSome, ◌⊎◌}
use Rattle.std.specs.List.{AllByRecursion, IsDistinct, slice_get, count_by, sum_by, range_with_len}
use Rattle.std.specs.FinMap.{get}
use Rattle.pq_base.specs.Members.{In}
use Rattle.pq_base.specs.Values.{AllFit}
use Rattle.pq_base.specs.declared.refusal.Refusal.{Refusal}
use Rattle.pq_base.specs.declared.refusal.Refusal.TheVariants as refusal
use Rattle.pq_base.specs.declared.value.Value.{Value}
use Rattle.pq_key_code.specs.KeyCode.{past_code}
use Rattle.pq_schema.specs.declared.table.Table.{Table}
use Rattle.pq_schema.specs.Tables.{table_at}
use Rattle.pq_content.specs.Pairs.{Pair, AreBeside, is_in_space, is_of_rows, entries_from, content_pairs}
use Rattle.pq_content.specs.Tables.{Rows, Keeps, AllOfKinds, IsTableNumber, AreApart, IsWithinLimit, types_of, key_types, row_at, stored_code}
use Rattle.pq_store.specs.Content.{Content, pairs_within}
use Rattle.pq_index_keep.specs.Bounds.{referring_count}
use Rattle.pq_index_keep.specs.Effects.{no_parent, referenced_refusal, no_room, condition_refusal, sum_refusal}
use Rattle.pq_index_keep.specs.Sound.{AreWritable, IsWrite}
use Rattle.pq_index_keep.specs.Tested.{touches, touches_index, scope_of}
use Rattle.pq_index_keep.specs.declared.write.Write.{Write}
use Rattle.pq_index_keep.specs.declared.write.Write.TheVariants as write
use Rattle.pq_clients.specs.declared.outcome.Outcome.{Outcome}
use Rattle.pq_clients.specs.declared.outcome.Outcome.TheVariants as outcome
use Rattle.pq_clients.specs.declared.outcome.Step.{Step}
use Rattle.pq_clients.specs.declared.outcome.Step.TheVariants as step
use Rattle.pq_clients.specs.declared.outcome.Told.{Told}
use Rattle.pq_clients.specs.declared.outcome.Wrote.{Wrote}
use Rattle.pq_clients.specs.Held.{Held, cell_of, is_held_value, present_code, present_row, decoded_row, held_value}
use Rattle.pq_clients.specs.Flights.{Flight, Parent, Child, table_number, key_written, table_of, pair_key, row_made, sets_of, conds_of, row_refusal, flight_table, flight_key, old_row, new_code, flight_checks, flight_tests, tested_front, tested_limit}
use Rattle.pq_clients.specs.Clients.{Stage, Checking, Testing, Putting, Freeing, Undoing, Releasing, Next, Reading, Taking, Looking, Flying, View, present_of, may_show, is_freeing, flight_of, write_at, is_over, new_view}
use Rattle.pq_clients.specs.Steps.{is_just, is_held_by_other, Fate, Answers, NotDone, DoneUnseen, NoMemory, is_fault, stepped}
use Rattle.pq_clients.specs.Runs.{Event, Run, begun, turn, run}
use Rattle.pq_clients.specs.Invariant.{has_code_entry, Names, is_old, is_new, is_due, is_there}
use Rattle.pq_clients.specs.Testing.{TestsInOrder}
use Rattle.pq_clients.specs.Present.{present_at, present_rows, rows_after, rows_after_all, write_named, writes_named}

-- ---- the beginning

-- a client that has taken no step
pub record IsFresh (tables : List Table) (v : View) : Type 0 where
  pub fresh : v ≡ new_view v.number v.writes
  pub from_one : 1 ≤ v.number
  pub small : v.number < 2 ^ 32
  pub writes : All (IsWrite tables) v.writes

pub record AreFresh (tables : List Table) (clients : List View) : Type 0 where
  pub each : All (IsFresh tables) clients
  pub differ : IsDistinct ◌==◌ (map (λ v. v.number) clients)
  pub few : sum_by (λ v. length v.writes) clients < 2 ^ 32

-- tables that keep their schema, any pairs beside them, and clients
pub record Begins (tables : List Table) (rows : Rows) (others : List Pair) (clients : List View) : Type 0 where
  pub sound : AreWritable tables
  pub keeps : Keeps tables rows
  pub beside : AreBeside others
  pub fresh : AreFresh tables clients

-- what some steps leave
abbrev pub reached : List Table → Rows → List Pair → List View → List Event → Run
reached tables rows others clients events = run tables (begun (content_pairs tables rows others) clients) events

-- ---- indexes, keys and limits are kept

-- each of the row's entries is there
abbrev pub HasEntries : List Table → Content → ℕ × List Value → Type 0
HasEntries tables c e =
    AllByRecursion (λ pair. get c pair.0 ≡ Some pair.1)
    (entries_from e.0 1 (table_at tables e.0) (table_at tables e.0).indexes e.1)

-- the present rows are rows of their tables with different keys, each has its entries, and no group is over its limit
pub record KeepsPresent (tables : List Table) (c : Content) : Type 0 where
  pub known : AllByRecursion (λ e. IsTableNumber tables e.0) (present_rows tables c)
  pub fit : AllByRecursion (λ e. AllFit (types_of (table_at tables e.0)) e.1) (present_rows tables c)
  pub short : AllByRecursion (λ e. length (stored_code (table_at tables e.0) e.1) ≤ 4096) (present_rows tables c)
  pub apart : AreApart tables (present_rows tables c)
  pub entries : AllByRecursion (HasEntries tables c) (present_rows tables c)
  -- the row present at a key is the one coded in the key's pair
  pub coded : (t : ℕ) (key : List Value) → IsTableNumber tables t → AllOfKinds (key_types (table_at tables t)) key
      → row_at tables (present_rows tables c) t key ≡ present_at tables c t key
  pub limits : (t : ℕ) → IsTableNumber tables t
      → AllByRecursion (IsWithinLimit t (present_rows tables c)) (table_at tables t).limits

-- ---- the present tables

abbrev pub is_insert : Write → Bool
is_insert (write.Insert t row) = true
is_insert (write.Update t key sets conds) = false
is_insert (write.Delete t key conds) = false

-- a client ended by Failed at its put, and the content shows the row that it was to put, or none for a DELETE
abbrev pub shows_put : List Table → Content → Option Outcome → Next → Bool
shows_put tables c (Some outcome.Failed) (Flying f Putting) =
    is_just (new_code tables f) (present_code (get c (flight_key tables f)))
shows_put tables c over next = false

-- the writes at which such clients are
abbrev pub shown_puts : List Table → Content → List View → List Wrote
shown_puts tables c [] = []
shown_puts tables c (v ∷ vs) =
    (if shows_put tables c v.over v.next then record { client = v.number; number = v.at } ∷ [] else [])
    ++ shown_puts tables c vs

-- those that were put, in their order, and those that failed at the put and show
abbrev pub all_puts : List Table → Run → List Wrote
all_puts tables r = r.puts ++ shown_puts tables r.content r.clients

-- these writes, by the lists that the clients had at first
abbrev pub made_writes : List Table → List View → Run → List Write
made_writes tables clients r = writes_named clients (all_puts tables r)

-- numbers and writes of clients
abbrev pub given : List View → List (ℕ × List Write)
given clients = map (λ v. (v.number, v.writes)) clients

-- the write finds no row, if it is an INSERT, and else one of which its conditions hold, and which has its sums
abbrev pub FitsFound : List Table → Write → Option (List Value) → Type 0
FitsFound tables w found = (is_insert w ≡ not (is_some found)) × IfSome found (λ row. row_refusal tables w row ≡ None)

-- so does each of the writes
abbrev pub EachFits : List Table → Rows → List Write → Type 0
EachFits tables rows [] = Unit {0}
EachFits tables rows (w ∷ ws) =
    FitsFound tables w (row_at tables rows (table_number w) (key_written tables w))
    × EachFits tables (rows_after tables rows w) ws

-- the present tables are those at entry, changed by these writes
pub record ShowsWrites (tables : List Table) (rows : Rows) (clients : List View) (r : Run) : Type 0 where
  -- no client's number or list changes
  pub same : given r.clients ≡ given clients
  -- what a client does it does for its write at hand
  pub at_hand : (p : ℕ) (v : View) (f : Flight) → slice_get r.clients p ≡ Some v → flight_of v.next ≡ Some f
      → write_at v.writes v.at ≡ Some f.write
  -- each put is of a write of a client, and of each write there is one at most
  pub named : (wrote : Wrote) → In wrote (all_puts tables r) → (w : Write) × (write_named clients wrote ≡ w ∷ [])
  pub once : (front back : List Wrote) (wrote : Wrote) → all_puts tables r ≡ front ++ wrote ∷ back
      → (In wrote front ⊎ In wrote back) → ⊥
  pub present : (t : ℕ) (key : List Value) → IsTableNumber tables t → AllOfKinds (key_types (table_at tables t)) key
      → row_at tables (present_rows tables r.content) t key
      ≡ row_at tables (rows_after_all tables rows (made_writes tables clients r)) t key
  -- each of them finds no row, if it is an INSERT, and else one of which its conditions hold
  pub fit : EachFits tables rows (made_writes tables clients r)
  -- a write that comes to its put finds present what it read: no row, if it is an INSERT, and else one of which its
  -- conditions hold
  pub finds : (p : ℕ) (v : View) (f : Flight) → slice_get r.clients p ≡ Some v → v.over ≡ None
      → v.next ≡ Flying f Putting
      → (row_at tables (present_rows tables r.content) (table_number f.write) (key_written tables f.write)
      ≡ old_row tables f)
      × FitsFound tables f.write (old_row tables f)
  -- from its take on a client holds its key, with the row of its step present; so it does where it ended, and then it
  -- may be the new row at the put; only a free that failed may have been done
  pub stays : (p : ℕ) (v : View) (f : Flight) (stage : Stage) → slice_get r.clients p ≡ Some v → v.next ≡ Flying f stage
      → (v.over ≡ None) ⊎ (v.over ≡ Some outcome.NoMem) ⊎ (is_freeing stage ≡ false)
      → (present : Option (List ℕ)) × (get r.content (flight_key tables f) ≡ Some (held_value v.number v.at present))
      × ((present ≡ present_of tables f stage) ⊎ ((is_some v.over ≡ true) × (present ≡ may_show tables f stage)))

-- while a client that is not over holds a key, the entries there are just those of the row present and those that are
-- due: those that it has added, and those that it has still to remove
abbrev pub HasDueEntries : List Table → Run → Type 0
HasDueEntries tables r =
    (p : ℕ) (v : View) (f : Flight) (stage : Stage) → slice_get r.clients p ≡ Some v → v.over ≡ None
    → v.next ≡ Flying f stage → (e : List ℕ) → Names tables (flight_key tables f) e
    → is_there r.content e
    ≡ (has_code_entry tables (flight_key tables f) (present_of tables f stage) e || is_due tables f stage e)

-- the write at hand of a client, ended or not, holds the key, and the entry is one of its old or of its new row
pub record IsOfHolder (tables : List Table) (r : Run) (key e : List ℕ) : Type 0 where
  pub place : ℕ
  pub view : View
  pub flight : Flight
  pub value : List ℕ
  pub present : Option (List ℕ)
  pub writes : slice_get r.clients place ≡ Some view
  pub flies : flight_of view.next ≡ Some flight
  pub key_is : flight_key tables flight ≡ key
  pub there : get r.content key ≡ Some value
  pub held : cell_of value ≡ Held view.number view.at present
  pub of_rows : (is_old tables flight e || is_new tables flight e) ≡ true

-- the entry is of a row at the key, and has no value: of the row present there, or of the write that holds the key
pub record IsOwnEntry (tables : List Table) (r : Run) (e value : List ℕ) : Type 0 where
  pub key : List ℕ
  pub names : Names tables key e
  pub empty : value ≡ []
  pub own : (has_code_entry tables key (present_code (get r.content key)) e ≡ true) ⊎ IsOfHolder tables r key e

-- so is each entry that is there: at a key that nobody holds there are none but those of the row present
abbrev pub HasOwnEntries : List Table → Run → Type 0
HasOwnEntries tables r = (e value : List ℕ) → is_in_space 3 e ≡ true → get r.content e ≡ Some value
    → IsOwnEntry tables r e value

-- it is told exactly where the free is answered with true, of a write that was put
abbrev pub Frees : List Table → View → Content → Fate → Type 0
Frees tables v c fate = (f : Flight) × (v.next ≡ Flying f Freeing) × (fate ≡ Answers) × (is_over v ≡ false)
    × (get c (flight_key tables f) ≡ Some (held_value v.number v.at (new_code tables f)))

abbrev pub TellsOutcome : List Table → View → Content → Fate → Outcome → Type 0
TellsOutcome tables v c fate told =
    (stepped tables v c fate).step ≡ step.Tells (record { client = v.number; number = v.at; outcome = told })

-- the put is answered with true
abbrev pub PutsOwn : List Table → View → Content → Fate → Type 0
PutsOwn tables v c fate = (f : Flight) × (v.next ≡ Flying f Putting) × (fate ≡ Answers) × (is_over v ≡ false)
    × (get c (flight_key tables f) ≡ Some (held_value v.number v.at f.read))

pub record TellsDone (tables : List Table) (r : Run) : Type 0 where
  -- a step says Put exactly where the put is answered with true, and names its client and write
  pub putting : (p : ℕ) (v : View) (fate : Fate) (wrote : Wrote) → slice_get r.clients p ≡ Some v
      → (stepped tables v r.content fate).step ≡ step.Put wrote
      → (wrote ≡ record { client = v.number; number = v.at }) × PutsOwn tables v r.content fate
  pub answered : (p : ℕ) (v : View) (fate : Fate) → slice_get r.clients p ≡ Some v → PutsOwn tables v r.content fate
      → (stepped tables v r.content fate).step ≡ step.Put (record { client = v.number; number = v.at })
  -- what was told Done was put
  pub put : (client number : ℕ) → In (record { client = client; number = number; outcome = outcome.Done }) r.told
      → In (record { client = client; number = number }) r.puts
  -- and then freed
  pub freed : (p : ℕ) (v : View) (fate : Fate) → slice_get r.clients p ≡ Some v
      → TellsOutcome tables v r.content fate outcome.Done → Frees tables v r.content fate
  -- and where a write was put and is freed, Done is told
  pub told : (p : ℕ) (v : View) (fate : Fate) → slice_get r.clients p ≡ Some v
      → Frees tables v r.content fate
      → TellsOutcome tables v r.content fate outcome.Done × In (record { client = v.number; number = v.at }) r.puts

-- ---- what each client is told

-- the numbers of the writes of which a client was told, in order
abbrev pub numbers_told : List Told → ℕ → List ℕ
numbers_told told client = map (λ t. t.number) (filter (λ t. t.client == client) told)

-- of how many writes it was told: those before the one at hand, and this one too where it ended
abbrev pub told_so_far : View → ℕ
told_so_far v = if is_some v.over then v.at else v.at - 1

-- the client was told of its writes one after the other, from 1, up to where it stands, which is at one of them or
-- behind the last; it ended at the write at hand just where it was told a fault, and this is what it was told of it
pub record IsTold (told : List Told) (v : View) : Type 0 where
  pub numbers : numbers_told told v.number ≡ range_with_len 1 (told_so_far v)
  pub from_one : 1 ≤ v.at
  pub within : told_so_far v ≤ length v.writes
  pub ended : (o : Outcome) → v.over ≡ Some o
      → (is_fault o ≡ true) × In (record { client = v.number; number = v.at; outcome = o }) told
  pub faults : (t : Told) → In t told → t.client ≡ v.number → is_fault t.outcome ≡ true
      → (v.over ≡ Some t.outcome) × (t.number ≡ v.at)

-- so is each client, and nobody else is told
pub record TellsInOrder (r : Run) : Type 0 where
  pub each : (p : ℕ) (v : View) → slice_get r.clients p ≡ Some v → IsTold r.told v
  pub known : (t : Told) → In t r.told → In t.client (map (λ v. v.number) r.clients)

-- ---- at rest

-- no write of the client is in flight, and it did not end by a fault
pub record IsResting (v : View) : Type 0 where
  pub unbroken : v.over ≡ None
  pub rests : (f : Flight) (stage : Stage) → v.next ≡ Flying f stage → ⊥

-- the content is that of the present tables, with the pairs beside them as they were
abbrev pub IsSettledAgain : List Table → List Pair → Run → Type 0
IsSettledAgain tables others r =
    All IsResting r.clients → r.content ≡ content_pairs tables (present_rows tables r.content) others

-- ---- what is told, and why

-- the read of the write at hand answers this
abbrev pub Reads : List Table → View → Content → Write → Option (List ℕ) → Type 0
Reads tables v c w found = (v.next ≡ Reading) × (write_at v.writes v.at ≡ Some w) × (get c (pair_key tables w) ≡ found)

-- it answers the code of this row, which nobody holds
abbrev pub ReadsRow : List Table → View → Content → Write → List Value → Type 0
ReadsRow tables v c w row = (code : List ℕ) × Reads tables v c w (Some code) × (is_held_value code ≡ false)
    × (decoded_row (table_of tables w) code ≡ Some row)

-- what each outcome but Done, Failed and NoMem shows
abbrev pub HasReason : List Table → View → Content → Outcome → Type 0
HasReason tables v c (outcome.Busy found) = (w : Write) × Reads tables v c w (Some found)
    × (is_held_by_other (table_of tables w) v.number (cell_of found) ≡ true)
HasReason tables v c (outcome.Conflict read found) = (f : Flight) × (v.next ≡ Looking f) × (read ≡ f.read)
    × (found ≡ get c (flight_key tables f))
HasReason tables v c (outcome.Refused (refusal.DuplicateKey name)) = (w : Write) × (row : List Value)
    × ReadsRow tables v c w row × (is_insert w ≡ true) × (name ≡ (table_of tables w).name)
HasReason tables v c (outcome.Refused (refusal.NoRow name)) = (w : Write)
    × Reads tables v c w None × (is_insert w ≡ false) × (name ≡ (table_of tables w).name)
HasReason tables v c (outcome.Refused (refusal.Condition name number)) = (w : Write) × (row : List Value)
    × ReadsRow tables v c w row
    × (condition_refusal (table_of tables w) (conds_of w) row ≡ Some (refusal.Condition name number))
HasReason tables v c (outcome.Refused (refusal.Sum name column)) = (w : Write) × (row : List Value)
    × ReadsRow tables v c w row × (condition_refusal (table_of tables w) (conds_of w) row ≡ None)
    × (sum_refusal (table_of tables w) (sets_of w) row ≡ Some (refusal.Sum name column))
HasReason tables v c (outcome.Refused (refusal.RowLong name long)) =
    (w : Write) × (old : List Value) × (new : List Value)
    × ReadsRow tables v c w old × (row_refusal tables w old ≡ None) × (is_insert w ≡ false)
    × (row_made w (Some old) ≡ Some new)
    × (long ≡ length (stored_code (table_of tables w) new)) × (4096 < long) × (name ≡ (table_of tables w).name)
HasReason tables v c (outcome.Refused (refusal.NoParent name place)) =
    (f : Flight) × (v.next ≡ Flying f (Releasing (refusal.NoParent name place)))
HasReason tables v c (outcome.Refused (refusal.Referenced name place)) =
    (f : Flight) × (v.next ≡ Flying f (Releasing (refusal.Referenced name place)))
HasReason tables v c (outcome.Refused (refusal.Cardinality name place n)) =
    (f : Flight) × (v.next ≡ Flying f (Releasing (refusal.Cardinality name place n)))
HasReason tables v c (outcome.Refused why) = ⊥
HasReason tables v c (outcome.Damaged damage) = ⊥
HasReason tables v c outcome.Done = Unit {0}
HasReason tables v c outcome.Failed = Unit {0}
HasReason tables v c outcome.NoMem = Unit {0}

-- outcomes that come exactly where they have their reason
abbrev pub is_exact : Outcome → Bool
is_exact (outcome.Busy found) = true
is_exact (outcome.Conflict read found) = true
is_exact (outcome.Refused (refusal.DuplicateKey name)) = true
is_exact (outcome.Refused (refusal.NoRow name)) = true
is_exact (outcome.Refused (refusal.Condition name number)) = true
is_exact (outcome.Refused (refusal.Sum name column)) = true
is_exact (outcome.Refused (refusal.RowLong name long)) = true
is_exact told = false

-- outcomes of a call that failed
abbrev pub IsFailure : Outcome → Fate → Type 0
IsFailure outcome.Failed fate = (fate ≡ NotDone) ⊎ (fate ≡ DoneUnseen)
IsFailure outcome.NoMem fate = fate ≡ NoMemory
IsFailure told fate = fate ≡ Answers

-- with what a client ends by a call that fails
abbrev pub IsEndOf : Fate → Outcome → Type 0
IsEndOf Answers o = ⊥
IsEndOf NotDone o = o ≡ outcome.Failed
IsEndOf DoneUnseen o = o ≡ outcome.Failed
IsEndOf NoMemory o = o ≡ outcome.NoMem

-- a step is on its way to tell this refusal
abbrev pub WillTell : Stage → Refusal → Type 0
WillTell (Undoing entry left refusal) why = refusal ≡ why
WillTell (Releasing refusal) why = refusal ≡ why
WillTell stage why = ⊥

-- the call of this step shows the refusal: no row is present at a parent's key, a child is counted, or the group of a
-- limit, with the pairs of all writes in flight, has more than n
abbrev pub ShowsRefusal : List Table → Content → Flight → Stage → Refusal → Type 0
ShowsRefusal tables c f (Checking (Parent place u at) left) why =
    (present_row (table_at tables u) (get c at) ≡ None) × (why ≡ no_parent (flight_table tables f) place)
ShowsRefusal tables c f (Checking (Child u place front) left) why =
    (1 ≤ length (pairs_within c front (past_code front))) × (why ≡ referenced_refusal (table_at tables u) place)
ShowsRefusal tables c f (Testing place left passed) why =
    ((tested_limit tables f place).n
    < length (pairs_within c (tested_front tables f place) (past_code (tested_front tables f place))))
    × (why ≡ no_room (flight_table tables f) place)
ShowsRefusal tables c f stage why = ⊥

-- the parent, the child or the limit of this step is one that the write at hand tests
abbrev pub IsOwnTest : List Table → Flight → Stage → Type 0
IsOwnTest tables f (Checking check left) = In check (flight_checks tables f)
IsOwnTest tables f (Testing place left passed) = In place (flight_tests tables f)
IsOwnTest tables f stage = Unit {0}

pub record HasCauses (tables : List Table) (v : View) (c : Content) (fate : Fate) : Type 0 where
  -- what is told is told of the write at hand, has its reason, and is told of a call that answered, or failed
  pub told : (t : Told) → (stepped tables v c fate).step ≡ step.Tells t
      → (t.client ≡ v.number) × (t.number ≡ v.at) × HasReason tables v c t.outcome × IsFailure t.outcome fate
  -- a call that fails or finds no memory is told so, and ends its client
  pub fails : (o : Outcome) → is_over v ≡ false → IsEndOf fate o
      → TellsOutcome tables v c fate o × ((stepped tables v c fate).view ≡ record v { over = Some o })
  -- and where the reason is there it is told
  pub exact : (o : Outcome) → is_exact o ≡ true → is_over v ≡ false → fate ≡ Answers → HasReason tables v c o
      → TellsOutcome tables v c fate o
  -- a step turns to the refusal of a test only where its call answers and shows it, and is a test of the write at hand
  pub turns : (f : Flight) (stage : Stage) (why : Refusal) → (stepped tables v c fate).view.next ≡ Flying f stage
      → WillTell stage why → (before : Stage) × (v.next ≡ Flying f before)
      × (WillTell before why
      ⊎ ((is_over v ≡ false) × (fate ≡ Answers) × IsOwnTest tables f before × ShowsRefusal tables c f before why))
  -- a take comes only behind a read of the write at hand that answered what the take is guarded by
  pub reads : (f : Flight) → (stepped tables v c fate).view.next ≡ Taking f
      → (v.next ≡ Taking f) ⊎ ((is_over v ≡ false) × (fate ≡ Answers) × Reads tables v c f.write f.read)
  -- a write goes on from its take only where the take finds what was read
  pub takes : (f : Flight) (stage : Stage) → (stepped tables v c fate).view.next ≡ Flying f stage
      → ((before : Stage) × (v.next ≡ Flying f before))
      ⊎ ((v.next ≡ Taking f) × (is_over v ≡ false) × (fate ≡ Answers) × (get c (flight_key tables f) ≡ f.read))
  -- a step turns to the get before a conflict is told only by a take that finds another value than the read
  pub looks : (f : Flight) → (stepped tables v c fate).view.next ≡ Looking f
      → (v.next ≡ Looking f)
      ⊎ ((v.next ≡ Taking f) × (is_over v ≡ false) × (fate ≡ Answers) × (get c (flight_key tables f) ≡ f.read → ⊥))
  -- and each such take that answers turns to it
  pub misses : (f : Flight) → v.next ≡ Taking f → (get c (flight_key tables f) ≡ f.read → ⊥) → is_over v ≡ false
      → fate ≡ Answers → (stepped tables v c fate).view.next ≡ Looking f

-- the refusals of tests
abbrev pub is_of_test : Refusal → Bool
is_of_test (refusal.NoParent name place) = true
is_of_test (refusal.Referenced name place) = true
is_of_test (refusal.Cardinality name place n) = true
is_of_test why = false

-- at some moment a call of the client's write with this number, which is a test of this write, answers and shows the
-- refusal
pub record WasShown (tables : List Table) (start : Run) (events : List Event) (client number : ℕ)
    (why : Refusal) : Type 0 where
  pub front : List Event
  pub event : Event
  pub back : List Event
  pub split : events ≡ front ++ event ∷ back
  pub view : View
  pub own : slice_get (run tables start front).clients event.place ≡ Some view
  pub client_is : view.number ≡ client
  pub number_is : view.at ≡ number
  pub going : is_over view ≡ false
  pub answers : event.fate ≡ Answers
  pub flight : Flight
  pub stage : Stage
  pub flies : view.next ≡ Flying flight stage
  pub write_is : write_at view.writes number ≡ Some flight.write
  pub own_test : IsOwnTest tables flight stage
  pub shows : ShowsRefusal tables (run tables start front).content flight stage why

-- the refusal of a test is told only of a write of which a call showed it
abbrev pub TellsShown : List Table → Run → List Event → Type 0
TellsShown tables start events = (client number : ℕ) (why : Refusal) → is_of_test why ≡ true
    → In (record { client = client; number = number; outcome = outcome.Refused why }) (run tables start events).told
    → WasShown tables start events client number why

-- at some moment a client's step said this
pub record WasSaid (tables : List Table) (start : Run) (events : List Event) (said : Step) : Type 0 where
  pub front : List Event
  pub event : Event
  pub back : List Event
  pub split : events ≡ front ++ event ∷ back
  pub view : View
  pub own : slice_get (run tables start front).clients event.place ≡ Some view
  pub says : (stepped tables view (run tables start front).content event.fate).step ≡ said

-- what stands in the lists was said, so what is promised of a step that says it holds of that moment
pub record SaysAll (tables : List Table) (start : Run) (events : List Event) : Type 0 where
  pub told : (t : Told) → In t (run tables start events).told → WasSaid tables start events (step.Tells t)
  pub puts : (wrote : Wrote) → In wrote (run tables start events).puts → WasSaid tables start events (step.Put wrote)

-- ---- how many calls a write makes

-- what a write tests, the entries that it may add, and those that it may clear
abbrev pub calls_of_write : List Table → Write → ℕ
calls_of_write tables (write.Insert t row) =
    4 + (length (table_at tables t).foreign + length (table_at tables t).limits)
    + 2 * length (table_at tables t).indexes
calls_of_write tables (write.Update t key sets conds) =
    4 + (count_by (λ f. touches (scope_of sets) f.cols) (table_at tables t).foreign
    + count_by (λ limit. touches (scope_of sets) limit.cols) (table_at tables t).limits)
    + 3 * count_by (touches_index (scope_of sets) (table_at tables t)) (table_at tables t).indexes
calls_of_write tables (write.Delete t key conds) =
    4 + referring_count tables t + length (table_at tables t).indexes

-- the event is a step of this client at this write
abbrev pub is_step_of : Option View → ℕ → ℕ → Bool
is_step_of None client number = false
is_step_of (Some v) client number = v.number == client && v.at == number && not (is_over v)

abbrev pub steps_of : List Table → Run → List Event → ℕ → ℕ → ℕ
steps_of tables r [] client number = 0
steps_of tables r (e ∷ es) client number =
    (if is_step_of (slice_get r.clients e.place) client number then 1 else 0)
    + steps_of tables (turn tables r e) es client number

abbrev pub HasFewCalls : List Table → Run → List Event → Type 0
HasFewCalls tables r events = (p : ℕ) (v : View) (number : ℕ) (w : Write) → slice_get r.clients p ≡ Some v
    → write_at v.writes number ≡ Some w → steps_of tables r events v.number number ≤ calls_of_write tables w

-- ---- how it ends

pub record ComesToEnd (tables : List Table) (start : Run) (events : List Event) : Type 0 where
  -- a client is over behind as many entries of its own as its writes may make calls
  pub ends : (p : ℕ) (v : View) → slice_get (run tables start events).clients p ≡ Some v
      → sum_by (calls_of_write tables) v.writes ≤ count_by (λ e. e.place == p) events → is_over v ≡ true
  -- where all are over nothing more is done
  pub still : All (λ v. is_over v ≡ true) (run tables start events).clients → (more : List Event)
      → run tables start (events ++ more) ≡ run tables start events

-- ---- all of it

pub record HoldsThroughout (tables : List Table) (rows : Rows) (others : List Pair) (clients : List View)
    (events : List Event) : Type 0 where
  pub kept : KeepsPresent tables (reached tables rows others clients events).content
  pub shows : ShowsWrites tables rows clients (reached tables rows others clients events)
  pub due : HasDueEntries tables (reached tables rows others clients events)
  pub own : HasOwnEntries tables (reached tables rows others clients events)
  pub done : TellsDone tables (reached tables rows others clients events)
  pub order : TellsInOrder (reached tables rows others clients events)
  pub rests : IsSettledAgain tables others (reached tables rows others clients events)
  pub beside : (q : List ℕ) → is_of_rows q ≡ false
      → get (reached tables rows others clients events).content q ≡ get (content_pairs tables rows others) q
  pub causes : (p : ℕ) (v : View) (fate : Fate)
      → slice_get (reached tables rows others clients events).clients p ≡ Some v
      → HasCauses tables v (reached tables rows others clients events).content fate
  pub said : SaysAll tables (begun (content_pairs tables rows others) clients) events
  pub shown : TellsShown tables (begun (content_pairs tables rows others) clients) events
  pub tests : TestsInOrder tables (begun (content_pairs tables rows others) clients) events
  pub few : HasFewCalls tables (begun (content_pairs tables rows others) clients) events
  pub end : ComesToEnd tables (begun (content_pairs tables rows others) clients) events
