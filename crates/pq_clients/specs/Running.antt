-- What turns of clients leave: over every store, and over one that tells its content.
use Rattle.std.specs.Prelude.{◌≡◌, false, ◌⊎◌, ℕ, ◌+◌, ◌-◌, ◌≤◌, length, if◌then◌else◌, List, [], ◌∷◌, ◌++◌, map, slice_set, vec_capacity, Option, Some, None, IfSome}
use Rattle.std.specs.List.{slice_get, sum_by}
use Rattle.pq_base.specs.Members.{In}
use Rattle.pq_schema.specs.declared.table.Table.{Table}
use Rattle.pq_store.specs.Content.{Content, HasRisen}
use Rattle.pq_clients.specs.declared.client.Client.{Client}
use Rattle.pq_clients.specs.declared.outcome.Outcome.TheVariants as outcome
use Rattle.pq_clients.specs.declared.outcome.Step.{Step}
use Rattle.pq_clients.specs.declared.outcome.Told.{Told}
use Rattle.pq_clients.specs.declared.outcome.Wrote.{Wrote}
use Rattle.pq_clients.specs.declared.run.Running.{Running}
use Rattle.pq_clients.specs.Clients.{Stage, Clearing, Freeing, Next, Flying, View, is_over}
use Rattle.pq_clients.specs.Runs.{Event, Run, run, told_by, put_by}
use Rattle.pq_clients.specs.Goes.{Spot}
use Rattle.pq_clients.specs.Stepping.{view_of, LeavesStep, TakesWay, MakesCall}

abbrev pub views_of : List Client → List View
views_of clients = map view_of clients

-- a store, clients, and what was told and put so far, in order
pub record Moment : Type 0 where
  pub spot : Spot
  pub clients : List View
  pub told : List Told
  pub puts : List Wrote

abbrev pub moment : Spot → List View → List Told → List Wrote → Moment
moment spot clients told puts = record { spot = spot; clients = clients; told = told; puts = puts }

-- ---- what a client may still be told and put

-- whether the write at hand was put: 1 or 0
abbrev pub stage_put : Stage → ℕ
stage_put (Clearing entry left) = 1
stage_put Freeing = 1
stage_put stage = 0

abbrev pub was_put : Next → ℕ
was_put (Flying f stage) = stage_put stage
was_put next = 0

abbrev pub tells_left : View → ℕ
tells_left v = if is_over v then 0 else length v.writes - (v.at - 1)

abbrev pub puts_left : View → ℕ
puts_left v = if is_over v then 0 else length v.writes - (v.at - 1) - was_put v.next

-- a run on its way, with room for all that is still told and put
pub record HasRoom (r : Running) : Type 0 where
  pub told : length r.told.items + sum_by tells_left (views_of r.clients.items) ≤ vec_capacity r.told
  pub puts : length r.puts.items + sum_by puts_left (views_of r.clients.items) ≤ vec_capacity r.puts

abbrev pub moment_of : Spot → Running → Moment
moment_of spot r = moment spot (views_of r.clients.items) r.told.items r.puts.items

-- ---- turns

-- the client at this place took a step, and all others are as they were
pub record Turn (tables : List Table) (place : ℕ) (before after : Moment) : Type 0 where
  pub view : View
  pub left : View
  pub said : Step
  pub at : slice_get before.clients place ≡ Some view
  pub others : after.clients ≡ slice_set before.clients place left
  pub tells : after.told ≡ before.told ++ told_by said
  pub puts : after.puts ≡ before.puts ++ put_by said
  pub leaves : LeavesStep tables view before.spot.told after.spot.told left said
  pub way : is_over view ≡ false → TakesWay tables view left said
  pub calls : MakesCall view left before.spot after.spot said

-- turns at these places, one after the other
abbrev pub Turns : List Table → List ℕ → Moment → Moment → Type 0
Turns tables [] before after = before ≡ after
Turns tables (place ∷ places) before after =
    (between : Moment) × Turn tables place before between × Turns tables places between after

-- it is what this run leaves
pub record IsRun (r : Run) (told : Option Content) (clients : List View) (said : List Told)
    (puts : List Wrote) : Type 0 where
  pub content : told ≡ Some r.content
  pub views : clients ≡ r.clients
  pub says : said ≡ r.told
  pub writes : puts ≡ r.puts

-- the run that begins with this content, of a moment
abbrev pub begun_at : Content → Moment → Run
begun_at c before = record { content = c; clients = before.clients; told = before.told; puts = before.puts }

-- over a told content they are steps taken at just these places in this order, each with some fate
abbrev pub LeavesRun : List Table → List ℕ → Moment → Moment → Type 0
LeavesRun tables places before after = IfSome before.spot.told (λ c.
    (events : List Event) × (map (λ (e : Event). e.place) events ≡ places)
    × IsRun (run tables (begun_at c before) events) after.spot.told after.clients after.told after.puts)

-- over every store: at most one call for each turn, and Failed is told only where the count of faults has risen
pub record MakesCalls (turns : ℕ) (before after : Moment) : Type 0 where
  pub few : after.spot.used.ops ≤ before.spot.used.ops + turns
  pub later : before.spot.faults ≤ after.spot.faults
  pub failed : (told : Told) → In told after.told → told.outcome ≡ outcome.Failed
      → In told before.told ⊎ HasRisen before.spot.faults after.spot.faults
  pub untold : before.spot.told ≡ None → after.spot.told ≡ None
