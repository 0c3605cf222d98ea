-- What a write tests behind its take, in order, and that what came before a step was passed.
use Rattle.std.specs.Prelude.{◌≡◌, ℕ, Bool, true, false, List, [], ◌∷◌, ◌++◌, map, Option, Some, None}
use Rattle.std.specs.List.{AllByRecursion, slice_get}
use Rattle.pq_schema.specs.declared.table.Table.{Table}
use Rattle.pq_store.specs.Content.{Content}
use Rattle.pq_clients.specs.Flights.{Flight, Check, flight_checks, flight_tests}
use Rattle.pq_clients.specs.Clients.{Stage, Checking, Adding, Testing, Putting, Clearing, Freeing, Undoing, Releasing, Flying, View, is_over}
use Rattle.pq_clients.specs.Steps.{Answers, passes, has_room}
use Rattle.pq_clients.specs.Runs.{Event, Run, run}

pub data Test : Type 0 where
  -- of a parent or of children
  OfCheck : (check : Check) → Test
  -- of a limit, by its place
  OfLimit : (place : ℕ) → Test

abbrev pub is_passed_by : List Table → Flight → Content → Test → Bool
is_passed_by tables f c (OfCheck check) = passes tables check c
is_passed_by tables f c (OfLimit place) = has_room tables f place c

abbrev pub limits_tested : List Table → Flight → List Test
limits_tested tables f = map OfLimit (flight_tests tables f)

-- all that the write tests behind its take: parents or children, and then limits
abbrev pub all_tests : List Table → Flight → List Test
all_tests tables f = map OfCheck (flight_checks tables f) ++ limits_tested tables f

-- those that are left, the one of this step first
abbrev pub tests_left : List Table → Flight → Stage → List Test
tests_left tables f (Checking check left) = map OfCheck (check ∷ left) ++ limits_tested tables f
tests_left tables f (Adding entry left added) = limits_tested tables f
tests_left tables f (Testing place left passed) = map OfLimit (place ∷ left)
tests_left tables f Putting = []
tests_left tables f (Clearing entry left) = []
tests_left tables f Freeing = []
tests_left tables f (Undoing entry left refusal) = []
tests_left tables f (Releasing refusal) = []

-- the test that the step makes
abbrev pub test_of : Stage → Option Test
test_of (Checking check left) = Some (OfCheck check)
test_of (Testing place left passed) = Some (OfLimit place)
test_of stage = None

-- the write is refused already
abbrev pub is_refused : Stage → Bool
is_refused (Undoing entry left refusal) = true
is_refused (Releasing refusal) = true
is_refused stage = false

-- at some moment the client made this test for this write, and it was passed
pub record WasPassed (tables : List Table) (start : Run) (events : List Event) (client number : ℕ) (f : Flight)
    (test : Test) : Type 0 where
  pub front : List Event
  pub event : Event
  pub back : List Event
  pub split : events ≡ front ++ event ∷ back
  pub view : View
  pub own : slice_get (run tables start front).clients event.place ≡ Some view
  pub client_is : view.number ≡ client
  pub number_is : view.at ≡ number
  pub going : is_over view ≡ false
  pub answers : event.fate ≡ Answers
  pub stage : Stage
  pub flies : view.next ≡ Flying f stage
  pub makes : test_of stage ≡ Some test
  pub passed : is_passed_by tables f (run tables start front).content test ≡ true

-- the tests before this step were passed, in their order, and the others are left
pub record TestsBefore (tables : List Table) (start : Run) (events : List Event) (client number : ℕ) (f : Flight)
    (stage : Stage) : Type 0 where
  pub before : List Test
  pub all : all_tests tables f ≡ before ++ tests_left tables f stage
  pub passed : AllByRecursion (WasPassed tables start events client number f) before

-- so a write that isn't refused has passed all of them when it comes to its put, and one that is was refused by the
-- first that it didn't pass
abbrev pub TestsInOrder : List Table → Run → List Event → Type 0
TestsInOrder tables start events = (p : ℕ) (v : View) (f : Flight) (stage : Stage)
    → slice_get (run tables start events).clients p ≡ Some v → v.next ≡ Flying f stage → is_refused stage ≡ false
    → TestsBefore tables start events v.number v.at f stage
