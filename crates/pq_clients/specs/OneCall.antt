-- The one call of a step, as data: a get, a count with its cap, or a write with its guard; what it answers and leaves,
-- and how the write goes on behind each answer.
use Rattle.std.specs.Prelude.{◌≡◌, ℕ, ◌+◌, Bool, true, false, ◌==◌, nat_le, List, [], Option, Some, None, is_some, if◌then◌else◌}
use Rattle.std.specs.FinMap.{get}
use Rattle.pq_schema.specs.declared.table.Table.{Table}
use Rattle.pq_schema.specs.Tables.{table_at}
use Rattle.pq_store.specs.Content.{Content, written_content}
use Rattle.pq_index_keep.specs.declared.write.Write.{Write}
use Rattle.pq_clients.specs.declared.outcome.Outcome.TheVariants as outcome
use Rattle.pq_clients.specs.Held.{held_value, present_row}
use Rattle.pq_clients.specs.Flights.{Flight, Check, Parent, Child, pair_key, flight_key, new_code, tested_front, tested_limit}
use Rattle.pq_clients.specs.Clients.{Stage, Checking, Adding, Testing, Putting, Clearing, Freeing, Undoing, Releasing, Next, Reading, Taking, Looking, Flying, View, write_at}
use Rattle.pq_clients.specs.Steps.{Then, Ends, is_just, counted, after_read, gone_on}
use Rattle.pq_clients.specs.Calling.{way, taken_way}

-- ---- calls

-- what a write asks of the key's value: nothing, or that it is just this
pub data Guard : Type 0 where
  Any : Guard
  Just : (expected : Option (List ℕ)) → Guard

pub data Call : Type 0 where
  Get : (key : List ℕ) → Call
  -- the pairs whose keys begin so, up to the cap
  Count : (front : List ℕ) (cap : ℕ) → Call
  Change : (key : List ℕ) (guard : Guard) (new : Option (List ℕ)) → Call

pub data Answer : Type 0 where
  Found : (value : Option (List ℕ)) → Answer
  Counted : (n : ℕ) → Answer
  Made : (done : Bool) → Answer

abbrev pub admitted : Guard → Option (List ℕ) → Bool
admitted Any found = true
admitted (Just expected) found = is_just expected found

abbrev pub answer_of : Call → Content → Answer
answer_of (Get key) c = Found (get c key)
answer_of (Count front cap) c = Counted (counted c front cap)
answer_of (Change key guard new) c = Made (admitted guard (get c key))

abbrev pub left_by : Call → Content → Content
left_by (Get key) c = c
left_by (Count front cap) c = c
left_by (Change key guard new) c = if admitted guard (get c key) then written_content key new c else c

-- ---- the call of each step

abbrev pub check_call : Check → Call
check_call (Parent place u at) = Get at
check_call (Child u place front) = Count front 1

-- a write of the own pair, guarded by the own held value with this present row
abbrev pub own_change : List Table → ℕ → ℕ → Flight → Option (List ℕ) → Option (List ℕ) → Call
own_change tables client number f present new =
    Change (flight_key tables f) (Just (Some (held_value client number present))) new

abbrev pub stage_call : List Table → ℕ → ℕ → Flight → Stage → Call
stage_call tables client number f (Checking check left) = check_call check
stage_call tables client number f (Adding entry left added) = Change entry Any (Some [])
stage_call tables client number f (Testing place left passed) =
    Count (tested_front tables f place) ((tested_limit tables f place).n + 1)
stage_call tables client number f Putting =
    own_change tables client number f f.read (Some (held_value client number (new_code tables f)))
stage_call tables client number f (Clearing entry left) = Change entry Any None
stage_call tables client number f Freeing = own_change tables client number f (new_code tables f) (new_code tables f)
stage_call tables client number f (Undoing entry left refusal) = Change entry Any None
stage_call tables client number f (Releasing refusal) = own_change tables client number f f.read f.read

abbrev pub next_call : List Table → ℕ → ℕ → Write → Next → Call
next_call tables client number w Reading = Get (pair_key tables w)
next_call tables client number w (Taking f) =
    Change (flight_key tables f) (Just f.read) (Some (held_value client number f.read))
next_call tables client number w (Looking f) = Get (flight_key tables f)
next_call tables client number w (Flying f stage) = stage_call tables client number f stage

-- ---- how the write goes on

abbrev pub found_in : Answer → Option (List ℕ)
found_in (Found value) = value
found_in (Counted n) = None
found_in (Made done) = None

abbrev pub counted_in : Answer → ℕ
counted_in (Found value) = 0
counted_in (Counted n) = n
counted_in (Made done) = 0

abbrev pub made_in : Answer → Bool
made_in (Found value) = false
made_in (Counted n) = false
made_in (Made done) = done

-- a row is present there, or no row names this one
abbrev pub check_passed : List Table → Check → Answer → Bool
check_passed tables (Parent place u at) answer = is_some (present_row (table_at tables u) (found_in answer))
check_passed tables (Child u place front) answer = counted_in answer == 0

-- the test is passed, or the write was made
abbrev pub stage_passed : List Table → Flight → Stage → Answer → Bool
stage_passed tables f (Checking check left) answer = check_passed tables check answer
stage_passed tables f (Adding entry left added) answer = made_in answer
stage_passed tables f (Testing place left passed) answer = nat_le (counted_in answer) (tested_limit tables f place).n
stage_passed tables f Putting answer = made_in answer
stage_passed tables f (Clearing entry left) answer = made_in answer
stage_passed tables f Freeing answer = made_in answer
stage_passed tables f (Undoing entry left refusal) answer = made_in answer
stage_passed tables f (Releasing refusal) answer = made_in answer

abbrev pub next_behind : List Table → ℕ → Write → Next → Answer → Then
next_behind tables client w Reading answer = after_read tables client w (found_in answer)
next_behind tables client w (Taking f) answer = taken_way tables f (made_in answer)
next_behind tables client w (Looking f) answer = Ends (outcome.Conflict f.read (found_in answer))
next_behind tables client w (Flying f stage) answer = way tables f stage (stage_passed tables f stage answer)

-- ---- one call

-- each step of a client that is not over is its one call, and goes on by the call's answer
abbrev pub MakesOneCall : List Table → View → Content → Type 0
MakesOneCall tables v c = (w : Write) → write_at v.writes v.at ≡ Some w
    → gone_on tables v v.next c
    ≡ (
      left_by (next_call tables v.number v.at w v.next) c,
      next_behind tables v.number w v.next (answer_of (next_call tables v.number v.at w v.next) c),
    )
