-- A client as it is seen: its writes, the one at hand with its next step, and how it ended.
use Rattle.std.specs.Prelude.{ℕ, zero, suc, Bool, true, false, ◌||◌, nat_lt, List, length, Option, Some, None, is_some}
use Rattle.std.specs.List.{slice_get}
use Rattle.pq_base.specs.declared.refusal.Refusal.{Refusal}
use Rattle.pq_schema.specs.declared.table.Table.{Table}
use Rattle.pq_index_keep.specs.declared.write.Write.{Write}
use Rattle.pq_clients.specs.declared.outcome.Outcome.{Outcome}
use Rattle.pq_clients.specs.Flights.{Flight, Check, new_code}

-- the next step of a write that holds its key: what it is made on, what is left behind it, and what was made of its
-- kind
pub data Stage : Type 0 where
  -- a get or a count
  Checking : (check : Check) (left : List Check) → Stage
  -- an entry of the new row is added
  Adding : (entry : List ℕ) (left added : List (List ℕ)) → Stage
  -- a limit is tested, by its place
  Testing : (place : ℕ) (left passed : List ℕ) → Stage
  Putting : Stage
  -- an entry of the old row is removed
  Clearing : (entry : List ℕ) (left : List (List ℕ)) → Stage
  Freeing : Stage
  -- after a refusal that is still to be told an added entry is removed, and the pair is freed with the old row
  Undoing : (entry : List ℕ) (left : List (List ℕ)) (refusal : Refusal) → Stage
  Releasing : (refusal : Refusal) → Stage

-- the row, by its code, that is present at the key while the step is the next one
abbrev pub present_of : List Table → Flight → Stage → Option (List ℕ)
present_of tables f (Checking check left) = f.read
present_of tables f (Adding entry left added) = f.read
present_of tables f (Testing place left passed) = f.read
present_of tables f Putting = f.read
present_of tables f (Clearing entry left) = new_code tables f
present_of tables f Freeing = new_code tables f
present_of tables f (Undoing entry left refusal) = f.read
present_of tables f (Releasing refusal) = f.read

-- and the one that may be there where the client ended at the step: at the put it is the old or the new one
abbrev pub may_show : List Table → Flight → Stage → Option (List ℕ)
may_show tables f Putting = new_code tables f
may_show tables f stage = present_of tables f stage

-- the step frees the key
abbrev pub is_freeing : Stage → Bool
is_freeing Freeing = true
is_freeing (Releasing refusal) = true
is_freeing stage = false

pub data Next : Type 0 where
  Reading : Next
  Taking : (flight : Flight) → Next
  -- a get after a take that answered false
  Looking : (flight : Flight) → Next
  Flying : (flight : Flight) (stage : Stage) → Next

-- what the write at hand goes by, once it was read
abbrev pub flight_of : Next → Option Flight
flight_of Reading = None
flight_of (Taking flight) = Some flight
flight_of (Looking flight) = Some flight
flight_of (Flying flight stage) = Some flight

pub record View : Type 0 where
  pub number : ℕ
  pub writes : List Write
  -- the number of the write at hand, from 1
  pub at : ℕ
  pub next : Next
  -- Failed, NoMem or Damaged, where the write at hand ended so, at the step that is still the next one
  pub over : Option Outcome

-- writes are numbered from 1
abbrev pub write_at : List Write → ℕ → Option Write
write_at writes zero = None
write_at writes (suc before) = slice_get writes before

-- it ended, or all of its writes were told
abbrev pub is_over : View → Bool
is_over v = is_some v.over || nat_lt (length v.writes) v.at

abbrev pub new_view : ℕ → List Write → View
new_view number writes = record { number = number; writes = writes; at = 1; next = Reading; over = None }
