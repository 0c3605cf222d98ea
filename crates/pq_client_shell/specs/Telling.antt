-- What of the outcomes that clients are told ends a run, and what is a refusal.
use Rattle.std.specs.Prelude.{Bool, true, false, not, List, [], ◌∷◌, Option, Some, None}
use Rattle.pq_clients.specs.declared.outcome.Outcome.{Outcome}
use Rattle.pq_clients.specs.declared.outcome.Outcome.TheVariants as outcome
use Rattle.pq_clients.specs.declared.outcome.Told.{Told}
use Rattle.pq_console.specs.declared.stop.Stop.{Stop}
use Rattle.pq_console.specs.declared.stop.Stop.TheVariants as stops

-- the fault by which a client ended
abbrev pub fault_of : Outcome → Option Stop
fault_of outcome.Done = None
fault_of (outcome.Refused why) = None
fault_of (outcome.Busy found) = None
fault_of (outcome.Conflict read found) = None
fault_of outcome.Failed = Some stops.StoreFailed
fault_of outcome.NoMem = Some stops.NoMem
fault_of (outcome.Damaged damage) = Some (stops.Damaged damage)

abbrev pub first_of : Option Stop → Option Stop → Option Stop
first_of None next = next
first_of (Some stop) next = Some stop

-- the first fault that is told
abbrev pub first_fault : List Told → Option Stop
first_fault [] = None
first_fault (told ∷ rest) = first_of (fault_of told.outcome) (first_fault rest)

abbrev pub is_done : Outcome → Bool
is_done outcome.Done = true
is_done (outcome.Refused why) = false
is_done (outcome.Busy found) = false
is_done (outcome.Conflict read found) = false
is_done outcome.Failed = false
is_done outcome.NoMem = false
is_done (outcome.Damaged damage) = false

-- a write was told that isn't done
abbrev pub is_undone : Told → Bool
is_undone told = not (is_done told.outcome)
