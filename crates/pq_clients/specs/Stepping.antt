-- A client of the code as it is seen, and what its steps leave.
use Rattle.std.specs.Prelude.{◌≡◌, ℕ, ◌+◌, ◌-◌, ◌≤◌, ◌<◌, ◌^◌, ◌⊎◌, true, false, List, [], length, slice_index_or, All, Option, Some, None, IfSome, Result, Ok, Err}
use Rattle.pq_schema.specs.declared.table.Table.{Table}
use Rattle.pq_store.specs.Content.{Content, HasRisen}
use Rattle.pq_index_keep.specs.Sound.{IsWrite}
use Rattle.pq_index_keep.specs.declared.write.Write.{Write}
use Rattle.pq_index_keep.specs.declared.write.Write.TheVariants as write
use Rattle.pq_clients.specs.declared.client.Client.{Client}
use Rattle.pq_clients.specs.declared.halt.Halt.{Halt}
use Rattle.pq_clients.specs.declared.halt.Halt.TheVariants as halt
use Rattle.pq_clients.specs.declared.outcome.Outcome.{Outcome}
use Rattle.pq_clients.specs.declared.outcome.Outcome.TheVariants as outcome
use Rattle.pq_clients.specs.declared.outcome.Step.{Step}
use Rattle.pq_clients.specs.declared.outcome.Step.TheVariants as step
use Rattle.pq_clients.specs.declared.stage.Course.{Course}
use Rattle.pq_clients.specs.Flights.{Flight}
use Rattle.pq_clients.specs.Clients.{Next, View, is_over}
use Rattle.pq_clients.specs.Steps.{Then, On, Puts, Ends, After, Fate, told_view, tells, stepped}
pub use Rattle.pq_clients.specs.Calling.{taken_from, gone_from, IsWay}
use Rattle.pq_clients.specs.Fitting.{FitsNext}
use Rattle.pq_clients.specs.Goes.{Spot}
use Rattle.pq_clients.specs.Seen.{flight, seen_next, seen_course}

-- ---- a client

-- the write at hand, where there is one
abbrev pub at_hand : List Write → ℕ → Write
at_hand writes at = slice_index_or writes (at - 1) (write.Delete 0 [] [])

abbrev pub hand_of : Client → Flight
hand_of client = flight (at_hand client.writes client.at) client.read

abbrev pub view_of : Client → View
view_of client = record {
  number = client.number;
  writes = client.writes;
  at = client.at;
  next = seen_next (hand_of client) client.next;
  over = client.over;
}

-- a client of these tables
pub record IsClient (tables : List Table) (v : View) : Type 0 where
  pub writes : All (IsWrite tables) v.writes
  pub few : length v.writes < 2 ^ 32
  pub from_one : 1 ≤ v.at
  pub next : FitsNext tables v.next

-- ---- one step

abbrev pub outcome_of : Halt → Outcome
outcome_of halt.Failed = outcome.Failed
outcome_of halt.NoMem = outcome.NoMem

pub record Ended (v : View) (told : Outcome) (left : View) (s : Step) : Type 0 where
  pub view : left ≡ told_view v told
  pub step : s ≡ tells v told

-- it ends so, or for want of memory where damage is told
abbrev pub EndsBy : View → Outcome → View → Step → Type 0
EndsBy v (outcome.Damaged damage) left s = Ended v (outcome.Damaged damage) left s ⊎ Ended v outcome.NoMem left s
EndsBy v told left s = Ended v told left s

pub record GoesOn (v : View) (next : Next) (said : Step) (left : View) (s : Step) : Type 0 where
  pub view : left ≡ record v { next = next }
  pub step : s ≡ said

abbrev pub Follows : View → Then → View → Step → Type 0
Follows v (On next) left s = GoesOn v next step.Moved left s
Follows v (Puts next) left s = GoesOn v next (step.Put (record { client = v.number; number = v.at })) left s
Follows v (Ends told) left s = EndsBy v told left s

abbrev pub Concludes : View → Flight → Result Course Halt → View → Step → Type 0
Concludes v f (Ok course) left s = Follows v (seen_course f course) left s
Concludes v f (Err halt) left s = Ended v (outcome_of halt) left s

pub record IsStep (after : After) (told : Option Content) (left : View) (s : Step) : Type 0 where
  pub content : told ≡ Some after.content
  pub view : left ≡ after.view
  pub step : s ≡ after.step

-- over a told content the step is that of some fate
abbrev pub LeavesStep : List Table → View → Option Content → Option Content → View → Step → Type 0
LeavesStep tables v told content left s =
    IfSome told (λ c. (fate : Fate) × IsStep (stepped tables v c fate) content left s)

-- over every store it goes on in the way of some answer, or ends
abbrev pub TakesWay : List Table → View → View → Step → Type 0
TakesWay tables v left s =
    ((goes : Then) × IsWay tables v.number (at_hand v.writes v.at) v.next goes × Follows v goes left s)
    ⊎ (Ended v outcome.Failed left s ⊎ Ended v outcome.NoMem left s)

abbrev pub TellsOf : Step → Outcome → Type 0
TellsOf (step.Tells told) o = told.outcome ≡ o
TellsOf s o = ⊥

-- over every store: one call or none
pub record MakesCall (v left : View) (before after : Spot) (s : Step) : Type 0 where
  pub over : is_over v ≡ true → (after ≡ before) × (left ≡ v) × (s ≡ step.Over)
  pub once : is_over v ≡ false → (after.used.ops ≡ before.used.ops + 1)
      ⊎ ((after.used.ops ≡ before.used.ops) × TellsOf s outcome.NoMem)
  pub later : before.faults ≤ after.faults
  pub failed : TellsOf s outcome.Failed → HasRisen before.faults after.faults
  pub untold : before.told ≡ None → after.told ≡ None
